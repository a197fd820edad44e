-- Laws of decimal digits: counting them goes on one power of ten at a time, and each is the rest's last. Assumes nothing.
use mathlib.Core.Path.{◌≡◌, refl, sym, ap, ◌∙◌}
use mathlib.Core.Bool.{true, false, cond}
use mathlib.Core.List.{◌∷◌}
use Prim.Native.Nat.{ℕ, zero, suc, ◌+◌, ◌-◌, ◌*◌, ◌/◌, ◌%◌, ◌^◌, ◌≤◌, ◌<◌}
use native.Mathlib.Nat.{pow-suc, pow-le-pow_right, div-div-eq-div-mul}
use native.Mathlib.Numerals.{add-one}
use native.Mathlib.Omega.{arith}
use lib.Dec.{ltb}
use lib.ListN.{length}
use borrow.Author.Tests.{lt-ltb, le-ltb}
use Rattle.text.specs.Decimal.{digit, last_digits, fewest, digit_count}

-- ---- counting
step : (k n : ℕ) → k ≤ 19 → fewest (20 - k) k n ≡ cond (ltb n (10 ^ k)) k (fewest (20 - (k + 1)) (k + 1) n)
unfolding fewest
step k n h = let e : 20 - k ≡ suc (20 - (k + 1)) = omega arith in rw e

module _ (k n : ℕ) (h : k ≤ 19) (left : fewest (20 - k) k n ≡ digit_count n) where
  pub found : n < 10 ^ k → k ≡ digit_count n
  found l = let e : ltb n (10 ^ k) ≡ true = lt-ltb _ _ l in (sym (rw e at (step k n h))) ∙ left

  pub goes_on : 10 ^ k ≤ n → fewest (20 - (k + 1)) (k + 1) n ≡ digit_count n
  goes_on l = let e : ltb n (10 ^ k) ≡ false = le-ltb _ _ l in (sym (rw e at (step k n h))) ∙ left

pub begins : (n : ℕ) → fewest (20 - 1) 1 n ≡ digit_count n
unfolding digit_count
begins n = refl

-- 19 digits do not hold it: 20 do
pub all_twenty : (n : ℕ) → fewest (20 - (19 + 1)) (19 + 1) n ≡ digit_count n → 20 ≡ digit_count n
unfolding fewest
all_twenty n e = e

pub next_power : (k b : ℕ) → b ≡ 10 ^ k → b * 10 ≡ 10 ^ (k + 1)
next_power k b e = rw (e, add-one k, pow-suc 10 k)

pub small_power : (k : ℕ) → k ≤ 18 → 10 ^ k ≤ 10 ^ 18
small_power k h = pow-le-pow_right {n = 10} (omega arith) h

-- ---- writing
pub next_rest : (n j r : ℕ) → r ≡ n / 10 ^ j → r / 10 ≡ n / 10 ^ (j + 1)
next_rest n j r e = rw (e, div-div-eq-div-mul n (10 ^ j) 10, add-one j, pow-suc 10 j)

pub next_digits : (n j r : ℕ) → r ≡ n / 10 ^ j → last_digits (j + 1) n ≡ (48 + r % 10) ∷ last_digits j n
unfolding last_digits digit
next_digits n j r e = rw (add-one j, e)

pub digits_length : (k n : ℕ) → length (last_digits k n) ≡ k
unfolding last_digits
digits_length zero n = refl
digits_length (suc k) n = ap suc (digits_length k n)
