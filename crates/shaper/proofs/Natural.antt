-- A bucket in ℕ. In r-ths of a tick let X = F, that is E·r + b·10⁹: a natural number, 0 at the start. Then T is the least whole tick t from A and G on
-- with X + L·10⁹ ≤ t·r + b·10⁹, and after a release X is max X (T·r) + L·10⁹. So sound records stay sound. Assumes nothing.
use Rattle.std.proofs.Common.{◌≡◌, ℕ, ◌+◌, ◌*◌, ◌<◌, ◌≤◌, max, Bool, true, false, cond, ltb, ℤ, pos, ◌+ℤ◌, ◌-ℤ◌, refl, ap, ◌∙◌, mul-le-mul_right, arith, ltb-false}
use lib.Signed.{lt_z}
use Rattle.quantity.specs.declared.Item.TheVariants.{Arrival}
use Rattle.quantity.proofs.Ranges.{at_most}
use Rattle.records.specs.ExactTime.{bit_time, tick_time, exactly, moment_of, or_zero, E_first}
use Rattle.shaper.specs.Frame.{burst_of, S, F, E_after, earliest, after_release, eligibility_time, discarded, released, settled, process_frame}
use Rattle.records.specs.Sound.{sound_group, sound_regulator, sound}
use Rattle.admission.specs.Tests.{above_burst}
use Rattle.quantity.specs.Charge.{charged}
use Rattle.setup.specs.SetUp.{fresh_stream}
use Rattle.records.specs.Steps.{shortfall}
use Rattle.records.specs.declared.Group.{Group}
use Rattle.records.specs.declared.Stream.{Stream}
use Rattle.records.specs.declared.Regulator.{Regulator}
use Rattle.records.specs.declared.Regulator.TheVariants.{Unset, Bucket}
use Rattle.records.proofs.Integers.{sum, difference, of_lt, of_not_lt, opposite_above, opposite_below}
use Rattle.records.proofs.ExactTime.{not_before_first, first_least, exactly_of, part_of}
use Rattle.records.proofs.Soundness.{group_ok, bucket_ok, bucket_sound, SoundOk, sound_ok, sound_of}
use Rattle.shaper.specs.Natural.{X}
use Rattle.shaper.proofs.Buckets.{full_zero, full_below}
use Rattle.admission.proofs.Tests.{Passes}

-- S and F from E, in ℕ
start_parts : (E : ℤ) (L : ℕ) → or_zero (S E L) + shortfall E ≡ or_zero E + bit_time L + shortfall (S E L)
unfolding S
start_parts E L = omega (arith, sum E (pos (bit_time L)))

full_parts : (E : ℤ) (b : ℕ) → or_zero (F E b) + shortfall E ≡ or_zero E + bit_time b + shortfall (F E b)
unfolding F
full_parts E b = omega (arith, sum E (pos (bit_time b)))

-- ---- the earliest tick of a sound regulator
module _ (r G : ℕ) (p : 0 < r) where
  pub earliest_late : (k : Regulator) → sound_regulator r G k ≡ true → (L t : ℕ) → earliest r k L ≤ t → X r k + bit_time L ≤ t * r + bit_time (burst_of k)
  unfolding sound_regulator earliest X burst_of
  earliest_late Unset h L t l = let z : ◌≡◌ {A = ℕ} 0 1 = cc in absurd (omega arith)
  earliest_late (Bucket b e) h L t l =
      let E = exactly r e in
      omega (
        arith,
        not_before_first r p (S E L) t l,
        start_parts E L,
        full_parts E b.0,
        full_below r G b.0 e (bucket_ok r G b e h),
      )

  pub earliest_least : (k : Regulator) → sound_regulator r G k ≡ true → (L t : ℕ) → X r k + bit_time L ≤ t * r + bit_time (burst_of k) → earliest r k L ≤ t
  unfolding sound_regulator earliest X burst_of
  earliest_least Unset h L t l = omega arith
  earliest_least (Bucket b e) h L t l =
      let E = exactly r e in
      first_least r p (S E L) t (omega (arith, start_parts E L, full_parts E b.0, full_below r G b.0 e (bucket_ok r G b e h)))

-- ---- E after a release at T, in ℕ
E_after_parts : (r : ℕ) (E : ℤ) (b L T : ℕ) → shortfall (F E b) ≡ 0 → or_zero (E_after r E b L T) + bit_time b ≡ max (or_zero (F E b)) (T * r) + bit_time L + shortfall (E_after r E b L T)
unfolding E_after
E_after_parts r E b L T f = go (lt_z (tick_time r T) (F E b)) refl
  where
    go : (t : Bool) → lt_z (tick_time r T) (F E b) ≡ t → or_zero (cond t (S E L) (S E L +ℤ tick_time r T -ℤ F E b)) + bit_time b ≡ max (or_zero (F E b)) (T * r) + bit_time L + shortfall (cond t (S E L) (S E L +ℤ tick_time r T -ℤ F E b))
    go true e = omega (arith, of_lt (tick_time r T) (F E b) e, start_parts E L, full_parts E b, f)
    go false e = omega (arith, of_not_lt (tick_time r T) (F E b) e, start_parts E L, full_parts E b, f, sum (S E L) (tick_time r T), difference (S E L +ℤ tick_time r T) (F E b))

module _ (r G : ℕ) (p : 0 < r) (L T : ℕ) where
  pub X_after : (k : Regulator) → sound_regulator r G k ≡ true → X r (after_release r k L T) ≡ max (X r k) (T * r) + bit_time L
  unfolding sound_regulator after_release X
  X_after Unset h = let z : ◌≡◌ {A = ℕ} 0 1 = cc in absurd (omega arith)
  X_after (Bucket b e) h =
      let E = exactly r e in
      let E' = E_after r E b.0 L T in
      let parts = E_after_parts r E b.0 L T (full_below r G b.0 e (bucket_ok r G b e h)) in
      ap (λ (z : ℤ). or_zero (F z b.0)) (exactly_of r p E')
      ∙ (omega (arith, parts, full_parts E' b.0, full_zero E' b.0 (omega (arith, parts))))

  -- a release from G on, and no sooner than the regulator allows, leaves it sound at T
  pub regulator_kept : (k : Regulator) → sound_regulator r G k ≡ true → above_burst k L ≡ false → earliest r k L ≤ T → sound_regulator r T (after_release r k L T) ≡ true
  unfolding sound_regulator above_burst after_release X burst_of
  regulator_kept Unset h a l = let z : ◌≡◌ {A = ℕ} 0 1 = cc in absurd (omega arith)
  regulator_kept (Bucket b e) h a l =
      let E = exactly r e in
      let E' = E_after r E b.0 L T in
      let ok = bucket_ok r G b e h in
      let is : exactly r (moment_of r E') ≡ E' = exactly_of r p E' in
      let parts = E_after_parts r E b.0 L T (full_below r G b.0 e ok) in
      bucket_sound r T b (moment_of r E') (
      record {
        some = ok.some;
        most = ok.most;
        part = part_of r p E';
        low = rw is (omega (arith, parts));
        high = rw is (omega (arith, parts, ltb-false b.0 L a, earliest_late r G p (Bucket b e) h L T l));
      }
      )

-- a regulator stays sound while its group's time only moves on
pub regulator_later : (r G G' : ℕ) (k : Regulator) → G ≤ G' → sound_regulator r G k ≡ true → sound_regulator r G' k ≡ true
unfolding sound_regulator
regulator_later r G G' Unset l h = h
regulator_later r G G' (Bucket b e) l h =
    let ok = bucket_ok r G b e h in
    bucket_sound r G' b e (
    record {
      some = ok.some;
      most = ok.most;
      part = ok.part;
      low = ok.low;
      high = omega (arith, ok.high, mul-le-mul_right r l);
    }
    )

-- ---- T is the least whole tick that meets the three conditions
module _ (s : Stream) (g : Group) (h : sound s g ≡ true) (L A : ℕ) where
  ok : SoundOk s g
  ok = sound_ok s g h

  rate_some : 0 < s.rate.0
  rate_some = let k = ok in omega arith

  pub T_late : (A ≤ eligibility_time s g L A) × (g.time.0 ≤ eligibility_time s g L A) × (X s.rate.0 s.regulator + bit_time L ≤ eligibility_time s g L A * s.rate.0 + bit_time (burst_of s.regulator))
  unfolding eligibility_time
  T_late =
      let t = max (max A g.time.0) (earliest s.rate.0 s.regulator L) in
      (omega arith, omega arith, earliest_late s.rate.0 g.time.0 rate_some s.regulator ok.regulator L t (omega arith))

  pub T_least : (t : ℕ) → A ≤ t → g.time.0 ≤ t → X s.rate.0 s.regulator + bit_time L ≤ t * s.rate.0 + bit_time (burst_of s.regulator) → eligibility_time s g L A ≤ t
  unfolding eligibility_time
  T_least t a b c =
      let l = earliest_least s.rate.0 g.time.0 rate_some s.regulator ok.regulator L t c in
      omega arith

-- ---- the records after a frame are sound
module _ (s : Stream) (g : Group) (n A : ℕ) (passes : Passes s g n A) where
  facts : SoundOk s g
  facts = sound_ok s g passes.records

  discard_kept : (T : ℕ) → let j = discarded s g A T in sound j.stream j.group ≡ true
  unfolding discarded
  discard_kept T =
      let k = facts in
      let o = passes.order in
      sound_of s _ (
      record {
        group = record { used = k.group.used; class = k.group.class; residence = k.group.residence; last = at_most Arrival A passes.arrival; time = omega arith };
        id = k.id;
        slow = k.slow;
        fast = k.fast;
        regulator = k.regulator;
      }
      )

  release_kept : (T : ℕ) → earliest s.rate.0 s.regulator (charged n) ≤ T → T ≤ A + g.residence.0 → let j = released s g (charged n) A T in sound j.stream j.group ≡ true
  unfolding released
  release_kept T l m =
      let k = facts in
      sound_of _ _ (
      record {
        group = record { used = k.group.used; class = k.group.class; residence = k.group.residence; last = at_most Arrival A passes.arrival; time = m };
        id = k.id;
        slow = k.slow;
        fast = k.fast;
        regulator = regulator_kept s.rate.0 g.time.0 (omega arith) (charged n) T s.regulator k.regulator passes.burst l;
      }
      )

  pub frame_kept : let j = process_frame s g (charged n) A in sound j.stream j.group ≡ true
  unfolding process_frame settled eligibility_time
  frame_kept = go (ltb (A + g.residence.0) T) refl
    where
      T : ℕ
      T = max (max A g.time.0) (earliest s.rate.0 s.regulator (charged n))

      go : (t : Bool) → ltb (A + g.residence.0) T ≡ t → let j = cond t (discarded s g A T) (released s g (charged n) A T) in sound j.stream j.group ≡ true
      go true e = discard_kept T
      go false e = release_kept T (omega arith) (ltb-false (A + g.residence.0) T e)

-- a stream stays sound beside its group's record while that is sound and its time only moves on
pub beside : (s : Stream) (g g' : Group) → sound s g ≡ true → sound_group g' ≡ true → g.time.0 ≤ g'.time.0 → sound s g' ≡ true
beside s g g' h k l =
    let ok = sound_ok s g h in
    sound_of s g' (
    record {
      group = group_ok g' k;
      id = ok.id;
      slow = ok.slow;
      fast = ok.fast;
      regulator = regulator_later s.rate.0 g.time.0 g'.time.0 s.regulator l ok.regulator;
    }
    )

-- ---- a fresh bucket is full: X is 0
pub X_fresh : (i r b : ℕ) → 0 < r → X r (fresh_stream i r b).regulator ≡ 0
unfolding fresh_stream E_first X
X_fresh i r b p =
    let z = E_first b in
    ap (λ (x : ℤ). or_zero (F x b)) (exactly_of r p z)
    ∙ (omega (arith, full_parts z b, opposite_above (pos (bit_time b)), opposite_below (pos (bit_time b)), full_zero z b (omega (arith, opposite_above (pos (bit_time b)), opposite_below (pos (bit_time b))))))
