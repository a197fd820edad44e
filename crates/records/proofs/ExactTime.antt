-- Laws of exact time: a moment in r-ths of a tick, the moment that a number of r-ths is, the smallest whole tick not below it, and what
-- the carry of a sum and the borrow of a difference come to. Assumes nothing.
use mathlib.Core.Path.{◌≡◌, refl, sym, ap, ◌∙◌}
use mathlib.Core.Bool.{Bool, true, false}
use Prim.Native.Nat.{ℕ, suc, ◌+◌, ◌*◌, ◌-◌, ◌/◌, ◌%◌, ◌≤◌, ◌<◌}
use native.Mathlib.Nat.{add-mul, suc-mul, zero-mul, le_of_mul-le-mul_right, lt_of_mul-lt-mul_right, le-div_iff_mul-le, div-lt_iff_lt-mul, div-mul-le_self, div-add-mod', mod-lt}
use native.Mathlib.Omega.{arith}
use lib.Arith.{digits_div, digits_mod}
use lib.IntN.{ℤ, pos, negsuc, neg_ℤ, ◌+ℤ◌, ◌*ℤ◌}
use lib.Dec.{ltb}
use lib.Signed.{lt_z, le_z}
use borrow.Author.Tests.{ltb-true, ltb-false, le-ltb}
use Rattle.records.specs.ExactTime.{exactly, moment_of, rounded_up, or_zero}
use Rattle.records.specs.Steps.{shortfall}
use Rattle.records.specs.declared.Moment.{Moment}
use Rattle.records.proofs.Integers.{sum, times_above, times_below, same, opposite_above, opposite_below, is_le, of_le}

-- ---- a moment's number of r-ths, in its two parts
pub exactly_parts : (r : ℕ) (m : Moment) → or_zero (exactly r m) + shortfall m.ticks * r ≡ or_zero m.ticks * r + m.part + shortfall (exactly r m)
unfolding exactly
exactly_parts r m = omega (arith, sum (m.ticks *ℤ pos r) (pos m.part), times_above m.ticks r, times_below m.ticks r)

-- the same where the whole ticks are negative
below_zero : (r k p : ℕ) → p < r → negsuc k *ℤ pos r +ℤ pos p ≡ negsuc (k * r + (r - suc p))
below_zero r k p h =
    same _ _ (omega (arith, sum (negsuc k *ℤ pos r) (pos p), times_above (negsuc k) r, times_below (negsuc k) r, zero-mul r, suc-mul k r))

-- ---- a moment is the moment of its number
back : (r : ℕ) (t : ℤ) (p : ℕ) → p < r → moment_of r (t *ℤ pos r +ℤ pos p) ≡ record { ticks = t; part = p }
unfolding moment_of
back r (pos k) p h = rw (digits_div k h, digits_mod k h)
back r (negsuc k) p h =
    let q : r - suc p < r = omega arith in
    let e : r - suc (r - suc p) ≡ p = omega arith in
    rw (below_zero r k p h, digits_div k q, digits_mod k q, e)

pub moment_is : (r : ℕ) (m : Moment) → m.part < r → moment_of r (exactly r m) ≡ m
unfolding exactly
moment_is r m h = back r m.ticks m.part h

pub moment_of_law : (r : ℕ) (m : Moment) (z : ℤ) → m.part < r → exactly r m ≡ z → m ≡ moment_of r z
moment_of_law r m z h e = sym (moment_is r m h) ∙ ap (λ (x : ℤ). moment_of r x) e

-- ---- and the number of that moment is the number
module _ (r : ℕ) (p : 0 < r) where
  pub exactly_of : (z : ℤ) → exactly r (moment_of r z) ≡ z
  unfolding exactly moment_of
  exactly_of (pos n) = ap pos (div-add-mod' n r)
  exactly_of (negsuc n) =
      let m : n % r < r = mod-lt n p in
      let h : r - suc (n % r) < r = omega arith in
      below_zero r (n / r) (r - suc (n % r)) h ∙ ap negsuc (omega (arith, div-add-mod' n r))

  pub part_of : (z : ℤ) → (moment_of r z).part < r
  unfolding moment_of
  part_of (pos n) = mod-lt n p
  part_of (negsuc n) = let m : n % r < r = mod-lt n p in omega arith

-- ---- rounding up around zero: the smallest whole tick, of either sign, that is not below z
module _ (r : ℕ) (p : 0 < r) where
  pub rounded_up_reaches : (z : ℤ) → le_z z (rounded_up r z *ℤ pos r) ≡ true
  unfolding rounded_up
  rounded_up_reaches (pos n) =
      let q = (n + (r - 1)) / r in
      let l : n + (r - 1) < suc q * r = (div-lt_iff_lt-mul p).0 (omega arith) in
      is_le (pos n) (pos q *ℤ pos r) (omega (arith, suc-mul q r))
  rounded_up_reaches (negsuc n) =
      let k = suc n / r in
      is_le (negsuc n) (neg_ℤ (pos k) *ℤ pos r)
      (omega (arith, times_above (neg_ℤ (pos k)) r ∙ ap (λ (x : ℕ). x * r) (opposite_above (pos k)), times_below (neg_ℤ (pos k)) r ∙ ap (λ (x : ℕ). x * r) (opposite_below (pos k)), div-mul-le_self (suc n) r))

  pub rounded_up_least : (z t : ℤ) → le_z z (t *ℤ pos r) ≡ true → le_z (rounded_up r z) t ≡ true
  unfolding rounded_up
  rounded_up_least (pos n) (pos t) h =
      let l : n ≤ t * r = omega (arith, of_le (pos n) (pos t *ℤ pos r) h) in
      let q : (n + (r - 1)) / r < suc t = (div-lt_iff_lt-mul p).1 (omega (arith, suc-mul t r)) in
      is_le (pos ((n + (r - 1)) / r)) (pos t) (omega arith)
  rounded_up_least (pos n) (negsuc k) h =
      absurd (omega (arith, of_le (pos n) (negsuc k *ℤ pos r) h, times_above (negsuc k) r, times_below (negsuc k) r, zero-mul r, suc-mul k r))
  rounded_up_least (negsuc n) (pos t) h =
      is_le (neg_ℤ (pos (suc n / r))) (pos t) (omega (arith, opposite_above (pos (suc n / r))))
  rounded_up_least (negsuc n) (negsuc k) h =
      let l : suc k * r ≤ suc n = omega (arith, of_le (negsuc n) (negsuc k *ℤ pos r) h, times_above (negsuc k) r, times_below (negsuc k) r, zero-mul r) in
      let q : suc k ≤ suc n / r = (le-div_iff_mul-le p).1 l in
      is_le (neg_ℤ (pos (suc n / r))) (negsuc k) (omega (arith, opposite_above (pos (suc n / r)), opposite_below (pos (suc n / r))))

-- ---- the first tick from 0 on that is not below a moment
module _ (r p : ℕ) (h : p < r) where
  first_negative : (t : ℤ) → lt_z t (pos 0) ≡ true → 0 ≡ or_zero (rounded_up r (t *ℤ pos r +ℤ pos p))
  unfolding rounded_up
  first_negative (pos n) e = absurd (omega (arith, ltb-true n 0 e))
  first_negative (negsuc k) e = rw (below_zero r k p h) (sym (opposite_above (pos (suc (k * r + (r - suc p)) / r))))

  first_whole : (t : ℤ) → lt_z t (pos 0) ≡ false → p ≡ 0 → or_zero t ≡ or_zero (rounded_up r (t *ℤ pos r +ℤ pos p))
  unfolding rounded_up
  first_whole (pos k) e z =
      let s : k * r + p + (r - 1) ≡ k * r + (r - 1) = omega arith in
      let l : r - 1 < r = omega arith in
      rw (s, digits_div k l)
  first_whole (negsuc k) e z = let n : ◌≡◌ {A = ℕ} 0 1 = cc in absurd (omega arith)

  first_next : (t : ℤ) → lt_z t (pos 0) ≡ false → 0 < p → or_zero t + 1 ≡ or_zero (rounded_up r (t *ℤ pos r +ℤ pos p))
  unfolding rounded_up
  first_next (pos k) e z =
      let s : k * r + p + (r - 1) ≡ (k + 1) * r + (p - 1) = omega (arith, add-mul k 1 r) in
      let l : p - 1 < r = omega arith in
      rw (s, digits_div (k + 1) l)
  first_next (negsuc k) e z = let n : ◌≡◌ {A = ℕ} 0 1 = cc in absurd (omega arith)

module _ (r : ℕ) (m : Moment) (h : m.part < r) where
  pub up_negative : lt_z m.ticks (pos 0) ≡ true → 0 ≡ or_zero (rounded_up r (exactly r m))
  unfolding exactly
  up_negative e = first_negative r m.part h m.ticks e

  pub up_whole : lt_z m.ticks (pos 0) ≡ false → m.part ≡ 0 → or_zero m.ticks ≡ or_zero (rounded_up r (exactly r m))
  unfolding exactly
  up_whole e z = first_whole r m.part h m.ticks e z

  pub up_next : lt_z m.ticks (pos 0) ≡ false → 0 < m.part → or_zero m.ticks + 1 ≡ or_zero (rounded_up r (exactly r m))
  unfolding exactly
  up_next e z = first_next r m.part h m.ticks e z

-- ---- w whole ticks and p r-ths before 0; c is what was borrowed
pub before_zero : (r w p c : ℕ) (m : Moment) → m.part < r → m.ticks ≡ neg_ℤ (pos (w + c)) → m.part + p ≡ c * r → m ≡ moment_of r (neg_ℤ (pos (w * r + p)))
before_zero r w p c m h e q =
    let above : or_zero m.ticks * r ≡ 0 * r = ap (λ (z : ℤ). or_zero z * r) e ∙ ap (λ (x : ℕ). x * r) (opposite_above (pos (w + c))) in
    let under : shortfall m.ticks * r ≡ w * r + c * r = ap (λ (z : ℤ). shortfall z * r) e ∙ ap (λ (x : ℕ). x * r) (opposite_below (pos (w + c))) ∙ add-mul w c r in
    moment_of_law r m _ h
    (same _ _ (omega (arith, above, under, zero-mul r, exactly_parts r m, opposite_above (pos (w * r + p)), opposite_below (pos (w * r + p)))))

-- ---- from a moment that is not below 0 to a tick
above_from : (r : ℕ) (t : ℤ) (p : ℕ) → shortfall t ≡ 0 → or_zero (t *ℤ pos r +ℤ pos p) ≡ or_zero t * r + p
above_from r (pos k) p e = refl
above_from r (negsuc k) p e = absurd (omega arith)

module _ (r : ℕ) (m : Moment) (z : shortfall m.ticks ≡ 0) where
  exactly_above : or_zero (exactly r m) ≡ or_zero m.ticks * r + m.part
  unfolding exactly
  exactly_above = above_from r m.ticks m.part z

  -- w whole ticks and q r-ths; c is what was borrowed
  pub reach : (t w q c : ℕ) → w + or_zero m.ticks + c ≡ t → q + m.part ≡ c * r → or_zero (exactly r m) + (w * r + q) ≡ t * r
  reach t w q c e p =
      let scaled : w * r + or_zero m.ticks * r + c * r ≡ t * r = simp add-mul at (ap (λ (x : ℕ). x * r) e) in
      omega (arith, exactly_above)

  pub within : (t : ℕ) → 0 < r → or_zero (exactly r m) ≤ t * r → or_zero m.ticks ≤ t
  within t h l = le_of_mul-le-mul_right {k = r} (omega (arith, exactly_above)) h

  pub within_more : (t : ℕ) → 0 < m.part → or_zero (exactly r m) ≤ t * r → or_zero m.ticks < t
  within_more t h l = lt_of_mul-lt-mul_right r (omega (arith, exactly_above))

-- ---- a whole tick from 0 on against the first that is not below z, is that tick against z
module _ (r : ℕ) (p : 0 < r) where
  pub before_first : (z : ℤ) (t : ℕ) → t < or_zero (rounded_up r z) → t * r + shortfall z < or_zero z
  unfolding rounded_up
  before_first (pos n) t h =
      let l : suc t * r ≤ n + (r - 1) = (le-div_iff_mul-le p).0 h in
      omega (arith, suc-mul t r)
  before_first (negsuc n) t h = absurd (omega (arith, opposite_above (pos (suc n / r))))

  pub not_before_first : (z : ℤ) (t : ℕ) → or_zero (rounded_up r z) ≤ t → or_zero z ≤ t * r + shortfall z
  unfolding rounded_up
  not_before_first (pos n) t h =
      let l : n + (r - 1) < suc t * r = (div-lt_iff_lt-mul p).0 (omega arith) in
      omega (arith, suc-mul t r)
  not_before_first (negsuc n) t h = omega arith

  pub first_least : (z : ℤ) (t : ℕ) → or_zero z ≤ t * r + shortfall z → or_zero (rounded_up r z) ≤ t
  first_least z t h = go (ltb t (or_zero (rounded_up r z))) refl
    where
      go : (b : Bool) → ltb t (or_zero (rounded_up r z)) ≡ b → or_zero (rounded_up r z) ≤ t
      go true e = absurd (omega (arith, before_first z t (ltb-true t (or_zero (rounded_up r z)) e)))
      go false e = ltb-false t (or_zero (rounded_up r z)) e

-- ---- a moment's sign is its whole ticks' sign, and its whole ticks are at most what it is
sign_of : (r : ℕ) (t : ℤ) (p : ℕ) → p < r → lt_z (t *ℤ pos r +ℤ pos p) (pos 0) ≡ lt_z t (pos 0)
sign_of r (pos k) p h = le-ltb (k * r + p) 0 (omega arith) ∙ sym (le-ltb k 0 (omega arith))
sign_of r (negsuc k) p h = rw (below_zero r k p h)

ticks_of : (r : ℕ) (t : ℤ) (p g : ℕ) → p < r → or_zero (t *ℤ pos r +ℤ pos p) ≤ g * r + shortfall (t *ℤ pos r +ℤ pos p) → or_zero t ≤ g
ticks_of r (pos k) p g h l = le_of_mul-le-mul_right {k = r} (omega arith) (omega arith)
ticks_of r (negsuc k) p g h l = omega arith

module _ (r : ℕ) (m : Moment) (h : m.part < r) where
  pub sign : lt_z (exactly r m) (pos 0) ≡ lt_z m.ticks (pos 0)
  unfolding exactly
  sign = sign_of r m.ticks m.part h

  pub ticks_most : (g : ℕ) → or_zero (exactly r m) ≤ g * r + shortfall (exactly r m) → or_zero m.ticks ≤ g
  unfolding exactly
  ticks_most g l = ticks_of r m.ticks m.part g h l
