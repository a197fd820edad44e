-- How many digits a number has: no more than are tried, and no more than hold it. Assumes nothing.
use mathlib.Core.Path.{◌≡◌}
use mathlib.Core.Bool.{Bool, true, false, cond}
use Prim.Native.Nat.{ℕ, zero, suc, ◌+◌, ◌^◌, ◌≤◌, ◌<◌}
use native.Mathlib.Omega.{arith}
use borrow.Author.Tests.{lt-ltb}
use lib.Dec.{ltb}
use lib.ListN.{length}
use Rattle.text.specs.Decimal.{fewest, digit_count, decimal}
use Rattle.text.proofs.Stores.{decimal_length}

either : (t : Bool) (a b m : ℕ) → a ≤ m → b ≤ m → cond t a b ≤ m
either true a b m h k = h
either false a b m h k = k

fewest_tried : (more k n : ℕ) → fewest more k n ≤ k + more
unfolding fewest
fewest_tried zero k n = omega arith
fewest_tried (suc more) k n = either (ltb n (10 ^ k)) k (fewest more (k + 1) n) (k + suc more) (omega arith) (omega (arith, fewest_tried more (k + 1) n))

fewest_hold : (j more k n : ℕ) → j ≤ more → n < 10 ^ (k + j) → fewest more k n ≤ k + j
unfolding fewest
fewest_hold j zero k n h s = omega arith
fewest_hold zero (suc more) k n h s =
    let p : k + 0 ≡ k = omega arith in
    let e : ltb n (10 ^ k) ≡ true = lt-ltb _ _ (rw p at s) in
    rw e (omega arith)
fewest_hold (suc j) (suc more) k n h s =
    let p : k + suc j ≡ k + 1 + j = omega arith in
    either (ltb n (10 ^ k)) k (fewest more (k + 1) n) (k + suc j) (omega arith) (omega (arith, fewest_hold j more (k + 1) n (omega arith) (rw p at s)))

pub twenty : (n : ℕ) → length (decimal n) ≤ 20
unfolding digit_count
twenty n = omega (arith, decimal_length n, fewest_tried 19 1 n)

pub three : (n : ℕ) → n ≤ 255 → length (decimal n) ≤ 3
unfolding digit_count
three n h = omega (arith, decimal_length n, fewest_hold 2 19 1 n (omega arith) (omega arith))
