-- `text::put_digits` meets its contract. The loop's invariant: the last j digits stand before the end, and the rest is what is left of the number. Assumes nothing.
use mathlib.Core.Path.{◌≡◌}
use Prim.Native.Nat.{ℕ, ◌-◌, ◌/◌, ◌^◌}
use mathlib.Core.List.{List}
use lib.ListN.{length}
use lib.Seq.{sets}
use Rattle.text.specs.Decimal.{last_digits}
use Rattle.text.proofs.put_digits.Given as goal

pub record Writing (l : List ℕ) (end n : ℕ) (out : List ℕ) (rest j : ℕ) : Type 0 where
  pub left : rest ≡ n / 10 ^ j
  pub written : out ≡ sets l (end - j) (last_digits j n)
  pub long : length out ≡ length l

abbrev pub invariant-loop-j : goal.invariant-loop-j
invariant-loop-j l = Writing l.initial.out l.end l.n l.out l.rest l.j
