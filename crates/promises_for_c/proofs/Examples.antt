-- The examples, proved by what the definitions give. Assumes nothing.
use Prim.Native.Nat.{ℕ}
use mathlib.Core.Bool.{true, false}
use mathlib.Core.Path.{◌≡◌, refl, sym, ◌∙◌, subst}
use mathlib.Core.List.{List, []}
use native.Mathlib.Omega.{arith}
use Rattle.quantity.specs.Ranges.{in_range, place_of}
use Rattle.quantity.specs.Charge.{charged_bits}
use Rattle.records.specs.Numbers.{is_set_up, answer_number}
use Rattle.records.specs.ExactTime.{exactly, moment_of, rounded_up, E_first}
use Rattle.records.specs.Sound.{sound_group, sound_regulator, sound}
use Rattle.records.specs.declared.Stream.{Stream}
use Rattle.setup.specs.SetUp.{fresh_group, fresh_stream, group_set_up, stream_set_up}
use Rattle.admission.specs.Tests.{above_burst, tested}
use Rattle.shaper.specs.Frame.{S, F, E_after, earliest, after_release, eligibility_time, released, settled, process_frame, burst_of}
use Rattle.shaper.specs.Numbers.{after_tests, judged}
use Rattle.calls.specs.Calls.{taken, group_placed, stream_placed}
use Rattle.bridge.specs.Tables.{stream_at}
use Rattle.bridge.specs.History.{Call, Outcome, history}
use Rattle.bridge.specs.Spans.{arriving, WithinBurstAndRate}
use Rattle.bridge.specs.declared.Bridge.{Bridge}
use Rattle.lent.specs.InPlace.{received, judged_in}
use Rattle.lent.specs.Steps.{ready, unreadiness}
use Rattle.firmware.specs.Firmware.{group_of, group_record, stream_of, rewritten, stream_record, stream_records, time_after, group_told, stream_told, frame_told, lent_after, frame_received}
use Rattle.firmware.specs.declared.StreamRecord.{StreamRecord}
use Rattle.promises.specs.Demand3.{Conforms}
use Rattle.promises.specs.Examples.{two, three, three_judged}
use Rattle.promises.proofs.Examples.{two_conforms}
use Rattle.promises_for_c.specs.Lent.{zeroed, bridge_of, group_record_at, stream_record_at, group_lent, stream_lent, group_written, stream_written, group_given, stream_given, frame_given, number, after_c, judged_by, judged_in_c, mislent, on_bridge, after_all, calls_of, judged_of, memory_after, calls_in, history_in_c}
use Rattle.promises_for_c.specs.DemandsForC.{Conforming}
use Rattle.promises_for_c.specs.Examples.{yard_in_c, own, foreign, two_in_c, three_in_c, CExamples}
use Rattle.promises_for_c.proofs.Records.{used_is_set_up, burst_read}
use Rattle.promises_for_c.proofs.SameAsTheBridge.{stream_at_law}
use Rattle.promises_for_c.proofs.DemandsForC.{history_of_the_bridge}

-- ---- what the definitions give
pub record Given : Type 0 where
  pub two_calls : calls_in two_in_c ≡ two
  pub three_calls : calls_in three_in_c ≡ three
  pub three_judged_is : history_in_c three_in_c ≡ three_judged
  pub with_its_group : mislent (memory_after (yard_in_c [])) own ≡ false
  pub with_another : mislent (memory_after (yard_in_c [])) foreign ≡ true
  pub number : number zeroed own ≡ 10

given : Given
unfolding zeroed group_record_at stream_record_at group_lent stream_lent group_written stream_written group_given stream_given frame_given number after_c judged_by judged_in_c mislent on_bridge after_all calls_of judged_of group_of group_record stream_of rewritten stream_record stream_records time_after group_told stream_told frame_told lent_after frame_received received judged_in ready unreadiness answer_number group_placed taken stream_placed group_set_up stream_set_up fresh_group fresh_stream judged after_tests tested above_burst sound sound_group sound_regulator process_frame settled released eligibility_time earliest after_release E_first S F E_after exactly moment_of rounded_up charged_bits in_range place_of
given = record { two_calls = refl; three_calls = refl; three_judged_is = refl; with_its_group = refl; with_another = refl; number = refl }

-- ---- two frames at once conform
two_conforms_in_c : Conforming two_in_c 0
unfolding Conforms stream_of
two_conforms_in_c i used home =
    subst (λ (u : ℕ). WithinBurstAndRate u s.rate i (arriving (history_in_c two_in_c))) (burst_read s used) (within (used_is_set_up s ∙ used) home)
  where
    s : StreamRecord
    s = stream_record_at (memory_after two_in_c) i

    Within : Stream → List Outcome → Type 0
    Within x os = is_set_up x.regulator ≡ true → x.group ≡ 0 → WithinBurstAndRate (burst_of x.regulator) x.rate.0 i (arriving os)

    within : Within (stream_of s) (history_in_c two_in_c)
    within =
        subst (λ (x : Stream). Within x (history_in_c two_in_c)) (stream_at_law (memory_after two_in_c) i)
        (subst (λ (os : List Outcome). Within (stream_at (bridge_of (memory_after two_in_c)) i) os) (sym (history_of_the_bridge two_in_c).judged)
        (subst (λ (b : Bridge). Within (stream_at b i) (history (calls_in two_in_c))) (sym (history_of_the_bridge two_in_c).memory)
        (subst (λ (xs : List Call). Conforms xs 0) (sym given.two_calls) two_conforms i)))

pub c_examples : CExamples
c_examples = record {
  two_calls = given.two_calls;
  three_calls = given.three_calls;
  three_judged_is = given.three_judged_is;
  conforming = two_conforms_in_c;
  with_its_group = given.with_its_group;
  with_another = given.with_another;
  refused = rw given.number (omega arith);
}
