-- `replay_text::put_unreadable` meets its contract: its fields one after the other. Assumes nothing.
use mathlib.Core.Path.{◌∙◌}
use Rattle.text.proofs.Putting.{and_then}
use Rattle.replay_text.proofs.put_unreadable.Goals as goal

pub returns : goal.returns
returns c =
    c.put_last.ensures
    ∙ and_then _ _ _ _ _ _ c.put_field-after_offset.ensures
    ∙ and_then _ _ _ _ _ _ c.put_field-after_record.ensures
