-- `replay_text::put_stop` meets its contract: its fields one after the other. Assumes nothing.
use mathlib.Core.Path.{◌∙◌}
use Rattle.text.proofs.Putting.{and_then}
use Rattle.replay_text.proofs.put_stop.Goals as goal

pub returns : goal.returns
returns c =
    c.put_last.ensures
    ∙ and_then _ _ _ _ _ _ c.put_field-after_events.ensures
    ∙ and_then _ _ _ _ _ _ c.put_field-after_free.ensures
    ∙ and_then _ _ _ _ _ _ c.put_field-after_next.ensures
    ∙ and_then _ _ _ _ _ _ c.put_field-after_number.ensures
