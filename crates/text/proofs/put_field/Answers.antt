-- `text::put_field` meets its contract. Assumes nothing.
use mathlib.Core.Path.{◌∙◌}
use mathlib.Core.List.{[], ◌∷◌}
use Rattle.text.specs.Puts.{puts}
use Rattle.text.proofs.Putting.{and_then}
use Rattle.text.proofs.put_field.Goals as goal

pub returns : goal.returns
unfolding puts
returns c =
    c.put_decimal.ensures ∙ and_then (_ ∷ []) (_ ∷ []) _ _ _ _ c.put_text-after.ensures
