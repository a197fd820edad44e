-- Whole numbers of either sign for `omega`, which reads ℕ alone. A number z is or_zero z − shortfall z.
-- Each operation on ℤ has a law on these two parts, and an equation or an order on ℤ is one of ℕ. Assumes nothing.
use mathlib.Core.Path.{◌≡◌, refl, sym, ap, ◌∙◌}
use mathlib.Core.Bool.{Bool, true, false, cond}
use Prim.Native.Nat.{ℕ, zero, suc, ◌+◌, ◌*◌, ◌-◌, ◌≤◌, ◌<◌}
use native.Mathlib.Nat.{zero-mul, add-zero}
use native.Mathlib.Omega.{arith}
use lib.IntN.{ℤ, pos, negsuc, sub_ℕ, neg_ℤ, ◌+ℤ◌, ◌-ℤ◌, ◌*ℤ◌}
use lib.Dec.{ltb, leb}
use lib.Signed.{lt_z, le_z}
use borrow.Author.Tests.{ltb-true, ltb-false, leb-true, leb-false, lt-ltb, le-ltb, le-leb, lt-leb}
use Rattle.records.specs.ExactTime.{or_zero}
use Rattle.records.specs.Steps.{shortfall}

-- ---- the two parts of a sum, of an opposite, of a difference and of a multiple
sub_parts : (a b : ℕ) → or_zero (sub_ℕ a b) + b ≡ a + shortfall (sub_ℕ a b)
sub_parts a b = go (ltb a b) refl
  where
    go : (t : Bool) → ltb a b ≡ t → or_zero (cond t (negsuc (b - suc a)) (pos (a - b))) + b ≡ a + shortfall (cond t (negsuc (b - suc a)) (pos (a - b)))
    go true e = omega (arith, ltb-true a b e)
    go false e = omega (arith, ltb-false a b e)

pub sum : (x y : ℤ) → or_zero (x +ℤ y) + (shortfall x + shortfall y) ≡ (or_zero x + or_zero y) + shortfall (x +ℤ y)
sum (pos a) (pos b) = omega arith
sum (pos a) (negsuc b) = omega (arith, sub_parts a (suc b))
sum (negsuc a) (pos b) = omega (arith, sub_parts b (suc a))
sum (negsuc a) (negsuc b) = omega arith

pub opposite_above : (x : ℤ) → or_zero (neg_ℤ x) ≡ shortfall x
opposite_above (pos zero) = refl
opposite_above (pos (suc n)) = refl
opposite_above (negsuc n) = refl

pub opposite_below : (x : ℤ) → shortfall (neg_ℤ x) ≡ or_zero x
opposite_below (pos zero) = refl
opposite_below (pos (suc n)) = refl
opposite_below (negsuc n) = refl

pub difference : (x y : ℤ) → or_zero (x -ℤ y) + (shortfall x + or_zero y) ≡ (or_zero x + shortfall y) + shortfall (x -ℤ y)
difference x y = omega (arith, sum x (neg_ℤ y), opposite_above y, opposite_below y)

pub times_above : (x : ℤ) (k : ℕ) → or_zero (x *ℤ pos k) ≡ or_zero x * k
times_above (pos n) k = refl
times_above (negsuc n) k = opposite_above (pos (suc n * k)) ∙ sym (zero-mul k)

pub times_below : (x : ℤ) (k : ℕ) → shortfall (x *ℤ pos k) ≡ shortfall x * k
times_below (pos n) k = sym (zero-mul k)
times_below (negsuc n) k = opposite_below (pos (suc n * k))

-- a sum's parts are no larger than the sums of the parts
sub_most : (a b : ℕ) → (or_zero (sub_ℕ a b) ≤ a) × (shortfall (sub_ℕ a b) ≤ b)
sub_most a b = go (ltb a b) refl
  where
    go : (t : Bool) → ltb a b ≡ t → (or_zero (cond t (negsuc (b - suc a)) (pos (a - b))) ≤ a) × (shortfall (cond t (negsuc (b - suc a)) (pos (a - b))) ≤ b)
    go true e = omega (arith, ltb-true a b e)
    go false e = omega (arith, ltb-false a b e)

pub sum_most : (x y : ℤ) → (or_zero (x +ℤ y) ≤ or_zero x + or_zero y) × (shortfall (x +ℤ y) ≤ shortfall x + shortfall y)
sum_most (pos a) (pos b) = omega arith
sum_most (pos a) (negsuc b) = omega (arith, sub_most a (suc b))
sum_most (negsuc a) (pos b) = omega (arith, sub_most b (suc a))
sum_most (negsuc a) (negsuc b) = omega arith

-- ---- equality and order by the parts
pub same : (x y : ℤ) → or_zero x + shortfall y ≡ or_zero y + shortfall x → x ≡ y
same (pos a) (pos b) h = ap pos (omega arith)
same (pos a) (negsuc b) h = absurd (omega arith)
same (negsuc a) (pos b) h = absurd (omega arith)
same (negsuc a) (negsuc b) h = ap negsuc (omega arith)

lt_parts : (x y : ℤ) → lt_z x y ≡ ltb (or_zero x + shortfall y) (or_zero y + shortfall x)
lt_parts (pos a) (pos b) = simp add-zero
lt_parts (pos a) (negsuc b) = sym (le-ltb (a + suc b) (0 + 0) (omega arith))
lt_parts (negsuc a) (pos b) = sym (lt-ltb (0 + 0) (b + suc a) (omega arith))
lt_parts (negsuc a) (negsuc b) = go (ltb b a) refl
  where
    go : (t : Bool) → ltb b a ≡ t → t ≡ ltb (0 + suc b) (0 + suc a)
    go true e = sym (lt-ltb (0 + suc b) (0 + suc a) (omega (arith, ltb-true b a e)))
    go false e = sym (le-ltb (0 + suc b) (0 + suc a) (omega (arith, ltb-false b a e)))

le_parts : (x y : ℤ) → le_z x y ≡ leb (or_zero x + shortfall y) (or_zero y + shortfall x)
le_parts (pos a) (pos b) = simp add-zero
le_parts (pos a) (negsuc b) = sym (lt-leb (a + suc b) (0 + 0) (omega arith))
le_parts (negsuc a) (pos b) = sym (le-leb (0 + 0) (b + suc a) (omega arith))
le_parts (negsuc a) (negsuc b) = go (leb b a) refl
  where
    go : (t : Bool) → leb b a ≡ t → t ≡ leb (0 + suc b) (0 + suc a)
    go true e = sym (le-leb (0 + suc b) (0 + suc a) (omega (arith, leb-true b a e)))
    go false e = sym (lt-leb (0 + suc b) (0 + suc a) (omega (arith, leb-false b a e)))

-- a test of order on ℤ from an order on ℕ, and back
module _ (x y : ℤ) where
  pub is_le : or_zero x + shortfall y ≤ or_zero y + shortfall x → le_z x y ≡ true
  is_le h = le_parts x y ∙ le-leb (or_zero x + shortfall y) (or_zero y + shortfall x) h

  pub is_not_le : or_zero y + shortfall x < or_zero x + shortfall y → le_z x y ≡ false
  is_not_le h = le_parts x y ∙ lt-leb (or_zero x + shortfall y) (or_zero y + shortfall x) h

  pub is_lt : or_zero x + shortfall y < or_zero y + shortfall x → lt_z x y ≡ true
  is_lt h = lt_parts x y ∙ lt-ltb (or_zero x + shortfall y) (or_zero y + shortfall x) h

  pub is_not_lt : or_zero y + shortfall x ≤ or_zero x + shortfall y → lt_z x y ≡ false
  is_not_lt h = lt_parts x y ∙ le-ltb (or_zero x + shortfall y) (or_zero y + shortfall x) h

  pub of_le : le_z x y ≡ true → or_zero x + shortfall y ≤ or_zero y + shortfall x
  of_le e = leb-true (or_zero x + shortfall y) (or_zero y + shortfall x) (sym (le_parts x y) ∙ e)

  pub of_lt : lt_z x y ≡ true → or_zero x + shortfall y < or_zero y + shortfall x
  of_lt e = ltb-true (or_zero x + shortfall y) (or_zero y + shortfall x) (sym (lt_parts x y) ∙ e)

  pub of_not_lt : lt_z x y ≡ false → or_zero y + shortfall x ≤ or_zero x + shortfall y
  of_not_lt e = ltb-false (or_zero x + shortfall y) (or_zero y + shortfall x) (sym (lt_parts x y) ∙ e)

-- ---- a number against 0
pub is_negative : (z : ℤ) → lt_z z (pos 0) ≡ true → or_zero z ≡ 0
is_negative (pos n) e = absurd (omega (arith, ltb-true n 0 e))
is_negative (negsuc n) e = refl

pub not_negative : (z : ℤ) → lt_z z (pos 0) ≡ false → shortfall z ≡ 0
not_negative (pos n) e = refl
not_negative (negsuc n) e = let z : ◌≡◌ {A = ℕ} 0 1 = cc in absurd (omega arith)

pub itself : (z : ℤ) → shortfall z ≡ 0 → pos (or_zero z) ≡ z
itself (pos n) e = refl
itself (negsuc n) e = absurd (omega arith)
