-- `replay_text::put_last` meets its contract: a field, and the line end after it. Assumes nothing.
use mathlib.Core.Path.{◌∙◌}
use mathlib.Core.List.{[], ◌∷◌}
use Rattle.replay_text.specs.Lines.{line_end}
use Rattle.text.specs.Puts.{puts}
use Rattle.text.proofs.Putting.{and_then}
use Rattle.replay_text.proofs.put_last.Goals as goal

pub returns : goal.returns
unfolding puts
returns c =
    c.put_text.ensures ∙ and_then (_ ∷ _ ∷ []) (line_end ∷ []) _ _ _ _ c.put_field-after.ensures
