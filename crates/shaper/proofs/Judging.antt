-- The steps of a frame, over plain values: each law is one return of the code, or what a caller asks of an answer. Assumes nothing.
use Rattle.std.proofs.Common.{◌≡◌, ℕ, ◌+◌, ◌*◌, ◌<◌, ◌≤◌, true, false, ltb, ◌⊎◌, ℤ, pos, ◌+ℤ◌, refl, ap, ◌∙◌, inl, inr, arith, le-ltb, lt-ltb}
use Rattle.quantity.specs.Charge.{charged}
use Rattle.quantity.specs.Numbers.{number_of}
use Rattle.quantity.specs.declared.Bits.{Bits}
use Rattle.quantity.specs.declared.Refusal.{Refusal}
use Rattle.quantity.specs.declared.Refusal.TheVariants.{Unsound, NoStream}
use Rattle.quantity.proofs.Booleans.{cond_true, cond_false}
use Rattle.records.specs.ExactTime.{tick_time, rounded_up, or_zero}
use Rattle.records.specs.Sound.{sound}
use Rattle.records.specs.Numbers.{is_set_up}
use Rattle.records.specs.Steps.{shortfall}
use Rattle.records.specs.declared.Group.{Group}
use Rattle.records.specs.declared.Stream.{Stream}
use Rattle.records.proofs.Integers.{sum, difference, same, is_lt, is_not_lt}
use Rattle.records.proofs.ExactTime.{before_first}
use Rattle.admission.specs.Tests.{tested}
use Rattle.admission.proofs.Tests.{test_10, test_9, Passes, Said, said}
use Rattle.shaper.specs.Frame.{S, F, E_after, discarded, released, settled, process_frame}
use Rattle.shaper.specs.Numbers.{refused, after_tests, judged}
use Rattle.std.proofs.Common.{Result, Ok, Err}

-- ---- E after a release at T, before F and from F on
module _ (r : ℕ) (E : ℤ) (b L T : ℕ) (full : shortfall (F E b) ≡ 0) where
  pub before_full : 0 < r → T < or_zero (rounded_up r (F E b)) → E_after r E b L T ≡ S E L
  unfolding E_after
  before_full p h = rw (is_lt (tick_time r T) (F E b) (omega (arith, full, before_first r p (F E b) T h)))

  pub from_full : (n : ℕ) → or_zero (F E b) + n ≡ T * r → E_after r E b L T ≡ S E L +ℤ pos n
  unfolding E_after
  from_full n h =
      rw (is_not_lt (tick_time r T) (F E b) (omega (arith, full)))
      (same _ _ (omega (arith, full, sum (S E L) (pos n), sum (S E L) (tick_time r T), difference (S E L +ℤ tick_time r T) (F E b))))

-- ---- a frame that nothing refuses is settled at its T
module _ (s : Stream) (g : Group) (L A T : ℕ) where
  pub too_late : A + g.residence.0 < T → settled s g L A T ≡ discarded s g A T
  unfolding settled
  too_late h = cond_true (ltb (A + g.residence.0) T) (discarded s g A T) (released s g L A T) (lt-ltb _ _ h)

  pub in-time : T ≤ A + g.residence.0 → settled s g L A T ≡ released s g L A T
  unfolding settled
  in-time h = cond_false (ltb (A + g.residence.0) T) (discarded s g A T) (released s g L A T) (le-ltb _ _ h)

-- ---- after the tests a frame is refused, or processed
module _ (s : Stream) (g : Group) (n A : ℕ) where
  pub test_refuses : {why : Refusal} → tested s g n A ≡ Err why → judged s g n A ≡ refused s g why
  unfolding judged after_tests
  test_refuses e = ap (after_tests s g A) e

  pub test_charges : {L : Bits} → tested s g n A ≡ Ok L → judged s g n A ≡ process_frame s g L.0 A
  unfolding judged after_tests
  test_charges e = ap (after_tests s g A) e

  pub not_set_up : is_set_up s.regulator ≡ false → judged s g n A ≡ refused s g NoStream
  not_set_up e = test_refuses (test_10 s g n A e)

  pub unsound : is_set_up s.regulator ≡ true → sound s g ≡ false → judged s g n A ≡ refused s g Unsound
  unsound u e = test_refuses (test_9 s g n A u e)

-- every frame is either refused, and the records stay, as unsound only where they are; or passes and is processed
abbrev pub Verdict : Stream → Group → ℕ → ℕ → Type 0
Verdict s g n A = ((why : Refusal) × (judged s g n A ≡ refused s g why) × (number_of why ≡ number_of Unsound → (is_set_up s.regulator ≡ true) × (sound s g ≡ false))) ⊎ (Passes s g n A × (judged s g n A ≡ process_frame s g (charged n) A))

pub verdict : (s : Stream) (g : Group) (n A : ℕ) → Verdict s g n A
unfolding Said
verdict s g n A = by (tested s g n A) refl (said s g n A)
  where
    by : (t : Result Bits Refusal) → tested s g n A ≡ t → Said s g n A t → Verdict s g n A
    by (Err why) e w = inl (why, test_refuses s g n A e, w)
    by (Ok L) e w = inr (w.0, test_charges s g n A e ∙ ap (λ (l : ℕ). process_frame s g l A) w.1)
