-- `reader::is_marked` meets its contract: equal bytes, one and two. Assumes nothing.
use mathlib.Core.Path.{◌≡◌, ap, ◌∙◌}
use mathlib.Core.Bool.{Bool, ◌&&◌}
use mathlib.Core.List.{List, [], ◌∷◌}
use Prim.Native.Nat.{ℕ}
use native.Mathlib.Omega.{arith}
use lib.Dec.{eqb}
use lib.ListN.{length}
use lib.Pointwise.{pointwise}
use Rattle.std.proofs.Common.{rules}
use Rattle.quantity.proofs.Booleans.{and_true}
use Rattle.reader.specs.Reader.{is_mark}
use Rattle.reader.proofs.is_marked.Goals as goal

two_same : (x y : ℕ) (m : List ℕ) → length m ≡ 2 → pointwise eqb (x ∷ y ∷ []) m ≡ is_mark m x y
unfolding is_mark
two_same x y (a ∷ b ∷ []) n = ap (λ (t : Bool). eqb x a && t) (and_true (eqb y b))
two_same x y [] n = absurd (omega (arith, n))
two_same x y (a ∷ []) n = absurd (omega (arith, n))
two_same x y (a ∷ b ∷ c ∷ m) n = absurd (omega (arith, n))

pub returns : goal.returns
returns c = c.eq.ensures ∙ two_same _ _ _ (search rules)
