-- The two bounds of a bucket empty time, as the code tests them: E ≤ G by whole ticks, −b·10⁹/r ≤ E by a division. Assumes nothing.
use mathlib.Core.Path.{◌≡◌, refl, sym, ap, ◌∙◌}
use mathlib.Core.Bool.{Bool, true, false, not, ◌&&◌}
use Prim.Native.Nat.{ℕ, ◌+◌, ◌*◌, ◌/◌, ◌≤◌, ◌<◌}
use native.Mathlib.Nat.{zero-mul, mul-le-mul_right, div-mul-le_self, div-lt_iff_lt-mul}
use native.Mathlib.Omega.{arith}
use lib.IntN.{ℤ, pos, negsuc, ◌+ℤ◌}
use lib.Dec.{leb, ltb}
use lib.Signed.{lt_z, le_z}
use borrow.Author.Tests.{leb-true, leb-false, ltb-true, ltb-false, le-leb, lt-leb, lt-ltb, le-ltb, not-true, not-false}
use Rattle.quantity.specs.Ranges.{in_range}
use Rattle.quantity.specs.declared.Bits.{Bits}
use Rattle.quantity.specs.declared.Item.TheVariants.{Burst}
use Rattle.quantity.proofs.Booleans.{and_true, and_false}
use Rattle.records.specs.ExactTime.{E_first, bit_time, tick_time, exactly, rounded_up, or_zero}
use Rattle.records.specs.Sound.{sound_regulator}
use Rattle.records.specs.Steps.{shortfall}
use Rattle.records.specs.declared.Moment.{Moment}
use Rattle.records.specs.declared.Regulator.TheVariants.{Bucket}
use Rattle.records.proofs.Integers.{sum, is_le, is_not_le, of_lt, of_not_lt, is_negative, not_negative}
use Rattle.records.proofs.ExactTime.{exactly_parts, up_negative, up_whole, up_next, before_first, not_before_first, sign}
use Rattle.records.proofs.Soundness.{is_low, is_not_low}

-- ---- E ≤ G, by the first tick that is not before E
first_by : (r : ℕ) → 0 < r → (z : ℤ) (G : ℕ) → leb (or_zero (rounded_up r z)) G ≡ le_z z (tick_time r G)
first_by r p z G = go (leb (or_zero (rounded_up r z)) G) refl
  where
    go : (t : Bool) → leb (or_zero (rounded_up r z)) G ≡ t → t ≡ le_z z (tick_time r G)
    go true e = sym (is_le z (tick_time r G) (omega (arith, not_before_first r p z G (leb-true _ _ e))))
    go false e = sym (is_not_le z (tick_time r G) (omega (arith, before_first r p z G (leb-false _ _ e))))

module _ (r : ℕ) (m : Moment) (h : m.part < r) (G : ℕ) where
  by : (t : ℕ) → t ≡ or_zero (rounded_up r (exactly r m)) → leb t G ≡ le_z (exactly r m) (tick_time r G)
  by t e = ap (λ (n : ℕ). leb n G) e ∙ first_by r (omega arith) (exactly r m) G

  pub after_negative : lt_z m.ticks (pos 0) ≡ true → true ≡ le_z (exactly r m) (tick_time r G)
  after_negative e = sym (le-leb 0 G (omega arith)) ∙ by 0 (up_negative r m h e)

  module _ (e : lt_z m.ticks (pos 0) ≡ false) where
    pub after_whole : m.part ≡ 0 → leb (or_zero m.ticks) G ≡ le_z (exactly r m) (tick_time r G)
    after_whole z = by (or_zero m.ticks) (up_whole r m h e z)

    pub after_part : 0 < m.part → ltb (or_zero m.ticks) G ≡ le_z (exactly r m) (tick_time r G)
    after_part z = go (ltb (or_zero m.ticks) G) refl ∙ by (or_zero m.ticks + 1) (up_next r m h e z)
      where
        go : (t : Bool) → ltb (or_zero m.ticks) G ≡ t → t ≡ leb (or_zero m.ticks + 1) G
        go true x = sym (le-leb (or_zero m.ticks + 1) G (omega (arith, ltb-true (or_zero m.ticks) G x)))
        go false x = sym (lt-leb (or_zero m.ticks + 1) G (omega (arith, ltb-false (or_zero m.ticks) G x)))

-- ---- −b·10⁹ ≤ E, where E is not before tick 0, and where it is
not_below : (z : ℤ) → le_z (pos 0) z ≡ not (lt_z z (pos 0))
not_below (pos n) = le-leb 0 n (omega arith) ∙ ap not (sym (le-ltb n 0 (omega arith)))
not_below (negsuc n) = refl

module _ (z : ℤ) where
  from_zero : le_z (pos 0) z ≡ true → lt_z z (pos 0) ≡ false
  from_zero e = not-true (lt_z z (pos 0)) (sym (not_below z) ∙ e)

  pub below_zero : le_z (pos 0) z ≡ false → lt_z z (pos 0) ≡ true
  below_zero e = not-false (lt_z z (pos 0)) (sym (not_below z) ∙ e)

module _ (r : ℕ) (m : Moment) (h : m.part < r) (b : ℕ) where
  pub from_start : le_z (pos 0) m.ticks ≡ true → true ≡ le_z (E_first b) (exactly r m)
  from_start e = sym (is_low (exactly r m) b (omega (arith, not_negative (exactly r m) (sign r m h ∙ from_zero m.ticks e))))

  -- as many whole ticks before tick 0 as b·10⁹ and the remainder last
  pub by_division : lt_z m.ticks (pos 0) ≡ true → le_z (pos 0) (m.ticks +ℤ pos ((bit_time b + m.part) / r)) ≡ le_z (E_first b) (exactly r m)
  by_division n = not_below (m.ticks +ℤ pos q) ∙ go (lt_z (m.ticks +ℤ pos q) (pos 0)) refl
    where
      q : ℕ
      q = (bit_time b + m.part) / r

      none : or_zero m.ticks * r ≡ 0
      none = ap (λ (x : ℕ). x * r) (is_negative m.ticks n) ∙ zero-mul r

      go : (t : Bool) → lt_z (m.ticks +ℤ pos q) (pos 0) ≡ t → not t ≡ le_z (E_first b) (exactly r m)
      go true x =
          let k : q < shortfall m.ticks = omega (arith, of_lt (m.ticks +ℤ pos q) (pos 0) x, sum m.ticks (pos q), is_negative m.ticks n) in
          let l : bit_time b + m.part < shortfall m.ticks * r = (div-lt_iff_lt-mul {k = r} (omega arith)).0 k in
          sym (is_not_low (exactly r m) b (omega (arith, none, exactly_parts r m)))
      go false x =
          let k : shortfall m.ticks ≤ q = omega (arith, of_not_lt (m.ticks +ℤ pos q) (pos 0) x, sum m.ticks (pos q), is_negative m.ticks n) in
          let l : shortfall m.ticks * r ≤ q * r = mul-le-mul_right r k in
          sym (is_low (exactly r m) b (omega (arith, none, exactly_parts r m, div-mul-le_self (bit_time b + m.part) r)))

-- ---- the last two returns of the bucket's test
module _ (r G : ℕ) (b : Bits) (e : Moment) (i : in_range Burst b.0 ≡ true) (h : e.part < r) where
  pub empty_after : le_z (exactly r e) (tick_time r G) ≡ false → sound_regulator r G (Bucket b e) ≡ false
  unfolding sound_regulator
  empty_after x = rw (x, and_false (in_range Burst b.0 && ltb e.part r && le_z (E_first b.0) (exactly r e)))

  pub by_first : le_z (exactly r e) (tick_time r G) ≡ true → le_z (E_first b.0) (exactly r e) ≡ sound_regulator r G (Bucket b e)
  unfolding sound_regulator
  by_first x = simp (i, lt-ltb _ _ h, x) (sym (and_true (le_z (E_first b.0) (exactly r e))))
