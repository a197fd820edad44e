-- The examples, proved: the premises are met and not met, and the conclusions with them. Assumes nothing.
use mathlib.Core.Path.{◌≡◌, refl, sym, ap, ◌∙◌}
use mathlib.Core.Bool.{true, false}
use mathlib.Core.List.{[], ◌∷◌}
use Prim.Native.Nat.{ℕ, ◌+◌, ◌*◌, ◌≤◌}
use native.Mathlib.Omega.{arith}
use native.Mathlib.Decide.{ℕ_discrete}
use Rattle.quantity.specs.Kinds.{ticks_per_second}
use Rattle.quantity.specs.Ranges.{in_range}
use Rattle.quantity.specs.Numbers.{least_refusal}
use Rattle.quantity.specs.Charge.{charged_bits}
use Rattle.records.specs.ExactTime.{exactly, moment_of, rounded_up, E_first}
use Rattle.shaper.specs.Frame.{burst_of, S, F, E_after, earliest, after_release, eligibility_time, discarded, released, settled, process_frame}
use Rattle.records.specs.Sound.{sound_group, sound_regulator, sound}
use Rattle.setup.specs.SetUp.{fresh_group, fresh_stream, group_set_up, stream_set_up}
use Rattle.records.specs.Numbers.{is_set_up, answer_number}
use Rattle.shaper.specs.Numbers.{after_tests, judged}
use Rattle.admission.specs.Tests.{above_burst, tested}
use Rattle.bridge.specs.Tables.{fresh_bridge, group_at, stream_at, with_group, with_stream}
use Rattle.calls.specs.Calls.{taken, group_placed, stream_placed, judged_at}
use Rattle.bridge.specs.Calls.{group_stored, group_called, stream_stored, stream_called, frame_stored, frame_called}
use Rattle.calls.specs.Numbers.{set_up_number}
use Rattle.bridge.specs.History.{group, frame, after_call, after, outcome_of, outcome, outcomes, history, bridge_after, reply}
use Rattle.bridge.specs.Spans.{Sent, arriving, bits_in, WithinBurstAndRate, burst_at, rate_at}
use Rattle.bridge.specs.declared.Bridge.{Bridge}
use Rattle.promises.specs.Demand3.{Conforms, EligibleOnArrival, EachOf, ConformingArrivals}
use Rattle.promises.specs.Examples as examples
use Rattle.promises.specs.Examples.{two, three, apart, two_judged, three_judged, apart_judged}
use Rattle.promises.proofs.Sums.{Seen, counted, passed, seen, bits_other}
use Rattle.promises.proofs.Demand3.{conforming_arrivals}

-- ---- what the definitions give: the judged frames, the settings, and two answers on a fresh bridge
pub record Given : Type 0 where
  pub two : history two ≡ two_judged
  pub three : history three ≡ three_judged
  pub apart : history apart ≡ apart_judged
  pub burst_two : burst_at (bridge_after examples.two) 0 ≡ 1_344
  pub burst_three : burst_at (bridge_after examples.three) 0 ≡ 1_344
  pub set_up : is_set_up (stream_at (bridge_after examples.three) 0).regulator ≡ true
  pub home : (stream_at (bridge_after examples.three) 0).group ≡ 0
  pub refused : (reply fresh_bridge (frame 0 64 0)).number ≡ 10
  pub taken : (reply fresh_bridge (group 0 6 224_000)).number ≡ 0
  pub changed : (group_at (after_call fresh_bridge (group 0 6 224_000)) 0).used ≡ true
  pub before : (group_at fresh_bridge 0).used ≡ false

pub given : Given
unfolding outcomes outcome outcome_of after_call fresh_bridge group_at stream_at with_group with_stream group_called group_stored group_placed taken stream_called stream_stored stream_placed frame_called frame_stored judged_at group_set_up stream_set_up fresh_group fresh_stream judged after_tests tested above_burst sound sound_group sound_regulator in_range process_frame settled discarded released eligibility_time earliest after_release E_first S F E_after exactly moment_of rounded_up charged_bits after burst_of reply set_up_number answer_number
given = record {
  two = refl;
  three = refl;
  apart = refl;
  burst_two = refl;
  burst_three = refl;
  set_up = refl;
  home = refl;
  refused = refl;
  taken = refl;
  changed = refl;
  before = refl;
}

-- ---- two frames arrive within burst and rate, so both are eligible as they arrive
both_fit : (i lo hi : ℕ) (e f : Sent) → e.bits ≡ 672 → f.bits ≡ 672 → bits_in i lo hi (e ∷ f ∷ []) ≤ 1_344
unfolding bits_in
both_fit i lo hi e f p q = go (seen i lo hi e (f ∷ [])) (seen i lo hi f [])
  where
    go : Seen i lo hi e (bits_in i lo hi (e ∷ f ∷ [])) (bits_in i lo hi (f ∷ [])) → Seen i lo hi f (bits_in i lo hi (f ∷ [])) 0 → bits_in i lo hi (e ∷ f ∷ []) ≤ 1_344
    go (counted a b c d) (counted k l m n) = omega arith
    go (counted a b c d) (passed n) = omega arith
    go (passed d) (counted k l m n) = omega arith
    go (passed d) (passed n) = omega arith

nothing : (i lo hi : ℕ) → bits_in i lo hi [] ≡ 0
unfolding bits_in
nothing i lo hi = refl

pub two_conforms : Conforms two 0
unfolding Conforms WithinBurstAndRate arriving
two_conforms i u h lo d = go (ℕ_discrete i 0)
  where
    e : Sent
    e = record { stream = 0; bits = 672; tick = 0 }

    go : Dec (i ≡ 0) → bits_in i lo (lo + d) (arriving (history two)) * ticks_per_second ≤ burst_at (bridge_after two) i * ticks_per_second + rate_at (bridge_after two) i * d
    go (yes p) = rw (p, given.two, given.burst_two) (omega (arith, both_fit 0 lo (lo + d) e e refl refl))
    go (no p) = rw given.two (omega (arith, bits_other i lo (lo + d) e (e ∷ []) (λ q. p (sym q)), bits_other i lo (lo + d) e [] (λ q. p (sym q)), nothing i lo (lo + d)))

pub two_on_arrival : EachOf 0 EligibleOnArrival (history two)
unfolding ConformingArrivals
two_on_arrival = conforming_arrivals two 0 two_conforms

-- ---- a third frame at the same tick does not, and is eligible only later
pub three_does_not_conform : Conforms three 0 → ⊥
unfolding Conforms WithinBurstAndRate arriving bits_in
three_does_not_conform h =
    let w = h 0 given.set_up given.home 0 0 in
    let k = rw (given.three, given.burst_three) at w in
    omega (arith, k)

pub three_not_on_arrival : EachOf 0 EligibleOnArrival (history three) → ⊥
unfolding EachOf EligibleOnArrival
three_not_on_arrival h = let k = rw given.three at h in omega (arith, k.1.1.0 refl)

-- ---- a refused call changes nothing, and one that is not refused may change the tables
pub refused_is_met : least_refusal ≤ (reply fresh_bridge (frame 0 64 0)).number
refused_is_met = rw given.refused (omega arith)

pub taken_changes : after_call fresh_bridge (group 0 6 224_000) ≡ fresh_bridge → ⊥
taken_changes e =
    let z : true ≡ false = sym given.changed ∙ ap (λ (b : Bridge). (group_at b 0).used) e ∙ given.before in
    let n : ◌≡◌ {A = ℕ} 0 1 = cc in
    omega arith
