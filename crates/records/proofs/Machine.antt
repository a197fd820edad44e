-- The machine's signed numbers: what it reads back is the number where that fits, and its few sums here are those of ℤ. Assumes nothing.
use mathlib.Core.Path.{◌≡◌, sym, ap, ◌∙◌}
use mathlib.Core.Bool.{false}
use Prim.Native.Nat.{ℕ, ◌+◌, ◌≤◌, ◌<◌, ◌^◌}
use native.Mathlib.Omega.{arith}
use lib.IntN.{ℤ, pos, negsuc, neg_ℤ, nat_abs, ◌+ℤ◌, ◌-ℤ◌, +ℤ_idl}
use lib.Dec.{T}
use lib.Signed.{lt_z, non_neg}
use mir.Syntax.{w64}
use mir.Val.{Fits, SFits, to_z, of_z}
use mir.Facts.{to_z-of_z, to_z_pos}
use Rattle.records.specs.ExactTime.{or_zero}
use Rattle.records.specs.Steps.{shortfall}
use Rattle.records.proofs.Integers.{sum_most, opposite_above, opposite_below, not_negative, itself}

fits : (z : ℤ) → or_zero z < 2 ^ 63 → shortfall z ≤ 2 ^ 63 → SFits w64 z
fits (pos n) h k = record { sfits = h }
fits (negsuc n) h k = record { sfits = k }

fits_below : (z : ℤ) → SFits w64 z → shortfall z ≤ 2 ^ 63
fits_below (pos n) f = omega arith
fits_below (negsuc n) f = f.sfits

pub fits_above : (z : ℤ) → SFits w64 z → or_zero z < 2 ^ 63
fits_above (pos n) f = f.sfits
fits_above (negsuc n) f = omega arith

-- ---- a signed number and an unsigned one cast to it, added
module _ (a : ℤ) (n : ℕ) (f : SFits w64 a) (h : or_zero a + n < 2 ^ 63) where
  pub sum_fits : SFits w64 (to_z w64 (of_z w64 a) +ℤ to_z w64 n)
  sum_fits =
      rw (to_z-of_z f, to_z_pos w64 {n = n} (omega arith))
      (fits (a +ℤ pos n) (omega (arith, sum_most a (pos n))) (omega (arith, sum_most a (pos n), fits_below a f)))

  pub sum_is : to_z w64 (of_z w64 (to_z w64 (of_z w64 a) +ℤ to_z w64 n)) ≡ a +ℤ pos n
  sum_is = to_z-of_z sum_fits ∙ rw (to_z-of_z f, to_z_pos w64 {n = n} (omega arith))

-- ---- an unsigned number cast to a signed one, taken from 0
module _ (n : ℕ) (h : n < 2 ^ 63) where
  drop : pos 0 -ℤ to_z w64 n ≡ neg_ℤ (pos n)
  drop = rw (to_z_pos w64 {n = n} h) (+ℤ_idl (neg_ℤ (pos n)))

  pub drop_fits : SFits w64 (pos 0 -ℤ to_z w64 n)
  drop_fits = rw drop (fits (neg_ℤ (pos n)) (omega (arith, opposite_above (pos n))) (omega (arith, opposite_below (pos n))))

  pub drop_is : to_z w64 (of_z w64 (pos 0 -ℤ to_z w64 n)) ≡ neg_ℤ (pos n)
  drop_is = to_z-of_z drop_fits ∙ drop

-- ---- a number as the machine holds it, against 0
module _ (a : ℤ) (f : SFits w64 a) where
  plain : lt_z (to_z w64 (of_z w64 a)) (pos 0) ≡ false → to_z w64 (of_z w64 a) ≡ pos (or_zero a)
  plain h = to_z-of_z f ∙ sym (itself a (not_negative a (rw (to_z-of_z f) at h)))

  pub clip_asks : lt_z (to_z w64 (of_z w64 a)) (pos 0) ≡ false → T (non_neg (to_z w64 (of_z w64 a))) × Fits w64 (nat_abs (to_z w64 (of_z w64 a)))
  clip_asks h = rw (plain h) (tt, record { fits = omega (arith, fits_above a f) })

  pub clip_is : lt_z (to_z w64 (of_z w64 a)) (pos 0) ≡ false → nat_abs (to_z w64 (of_z w64 a)) ≡ or_zero a
  clip_is h = rw (plain h)

-- ---- a number that went to a function and came back raised: the machine's readings fall away
pub handed : (a t : ℤ) (n : ℕ) → SFits w64 a → SFits w64 t → t ≡ to_z w64 (of_z w64 a) +ℤ pos n → to_z w64 (of_z w64 t) ≡ a +ℤ pos n
handed a t n fa ft e = to_z-of_z ft ∙ e ∙ ap (λ (z : ℤ). z +ℤ pos n) (to_z-of_z fa)

-- ---- and one that came back as it is
pub returned : (t z : ℤ) → SFits w64 t → t ≡ z → to_z w64 (of_z w64 t) ≡ z
returned t z f e = to_z-of_z f ∙ e
