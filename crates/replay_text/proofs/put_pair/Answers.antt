-- `replay_text::put_pair` meets its contract: a number, a space, a number, the line end. Assumes nothing.
use mathlib.Core.Path.{◌∙◌}
use mathlib.Core.List.{[], ◌∷◌}
use Rattle.replay_text.specs.Lines.{space, line_end}
use Rattle.text.specs.Puts.{puts}
use Rattle.text.proofs.Putting.{and_then}
use Rattle.replay_text.proofs.put_pair.Goals as goal

pub returns : goal.returns
unfolding puts
returns c =
    let to_space = c.put_text-after_space.ensures ∙ and_then (_ ∷ []) (space ∷ []) _ _ _ _ c.put_decimal-after_a.ensures in
    let to-b = c.put_decimal-after_b.ensures ∙ and_then (_ ∷ space ∷ []) (_ ∷ []) _ _ _ _ to_space in
    c.put_text.ensures ∙ and_then (_ ∷ space ∷ _ ∷ []) (line_end ∷ []) _ _ _ _ to-b
