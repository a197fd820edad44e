-- That the numbers of a list are bytes, from one test that computes. Assumes nothing.
use mathlib.Core.Path.{◌≡◌}
use mathlib.Core.Bool.{Bool, true, ◌&&◌}
use mathlib.Core.List.{List, [], ◌∷◌}
use Prim.Native.Nat.{ℕ, zero, suc}
use native.Mathlib.Omega.{arith}
use borrow.Author.Tests.{ltb-true}
use lib.Dec.{ltb}
use Rattle.quantity.proofs.Booleans.{both}
use Rattle.tablefile.specs.BigEndian.{byte_values, AreBytes}

abbrev pub all_bytes : List ℕ → Bool
all_bytes [] = true
all_bytes (b ∷ bs) = ltb b byte_values && all_bytes bs

pub are_bytes : (l : List ℕ) → all_bytes l ≡ true → AreBytes l
are_bytes [] h i = omega arith
are_bytes (b ∷ bs) h zero = ltb-true b byte_values (both (ltb b byte_values) (all_bytes bs) h).0
are_bytes (b ∷ bs) h (suc i) = are_bytes bs (both (ltb b byte_values) (all_bytes bs) h).1 i
