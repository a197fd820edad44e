-- `text::digit_count` meets its contract. The loop's invariant: the bound is the power of ten that k digits hold, and what is left to count from k on is the whole. Assumes nothing.
use mathlib.Core.Path.{◌≡◌}
use Prim.Native.Nat.{ℕ, ◌-◌, ◌^◌}
use Rattle.text.specs.Decimal.{fewest, digit_count}
use Rattle.text.proofs.digit_count.Given as goal

pub record Counting (n k bound : ℕ) : Type 0 where
  pub power : bound ≡ 10 ^ k
  pub left : fewest (20 - k) k n ≡ digit_count n

abbrev pub invariant-loop-k : goal.invariant-loop-k
invariant-loop-k l = Counting l.n l.k l.bound
