-- The examples of lent records, proved. Assumes nothing.
use mathlib.Core.Path.{◌≡◌, refl, ap}
use Prim.Native.Nat.{ℕ}
use lib.Dec.{lit≤}
use lib.ListN.{get_or}
use native.Mathlib.Omega.{arith}
use Rattle.quantity.specs.Ranges.{in_range}
use Rattle.quantity.specs.Charge.{charged_bits}
use Rattle.records.specs.ExactTime.{exactly, moment_of, rounded_up, E_first}
use Rattle.records.specs.Sound.{sound_group, sound_regulator, sound}
use Rattle.records.specs.Numbers.{answer_number}
use Rattle.setup.specs.SetUp.{fresh_group, fresh_stream, group_set_up, stream_set_up}
use Rattle.admission.specs.Tests.{above_burst, tested}
use Rattle.shaper.specs.Frame.{S, F, E_after, earliest, after_release, eligibility_time, released, settled, process_frame}
use Rattle.shaper.specs.Numbers.{after_tests, judged}
use Rattle.calls.specs.Calls.{taken, group_placed, stream_placed}
use Rattle.calls.specs.Numbers.{set_up_number}
use Rattle.bridge.specs.Tables.{fresh_bridge, group_at, stream_at, no_stream, with_group, with_stream}
use Rattle.bridge.specs.Calls.{group_stored, group_called, stream_stored, stream_called}
use Rattle.bridge.specs.History.{after_call, after}
use Rattle.lent.specs.InPlace.{judged_in, received}
use Rattle.firmware.specs.Firmware.{group_of, group_record, stream_of, rewritten, stream_record, stream_records, group_told, stream_told, lent_after, frame_received, time_after}
use Rattle.receive.specs.Promises.{SameAsFrameCall, OthersStay, RefusedStays}
use Rattle.receive.proofs.Promises.{same_as_frame_call, others_stay, refused_stays}
use Rattle.firmware.specs.Promises.{RefusedStaysForC, RefusedGroupStays, RefusedStreamStays}
use Rattle.firmware.proofs.Promises.{refused_stays_for_c, refused_group_stays, refused_stream_stays}
use Rattle.cases.specs.InterruptSide.{tables, left_over, group_of_c, streams_of_c, InterruptSideExamples}

pub interrupt_side_examples : InterruptSideExamples
unfolding time_after after_call fresh_bridge group_at stream_at with_group with_stream group_called group_stored group_placed taken stream_called stream_stored stream_placed group_set_up stream_set_up fresh_group fresh_stream judged after_tests tested above_burst sound sound_group sound_regulator in_range process_frame settled released eligibility_time earliest after_release E_first S F E_after exactly moment_of rounded_up charged_bits after set_up_number answer_number judged_in received group_of group_record stream_of rewritten stream_record stream_records group_told stream_told lent_after frame_received
interrupt_side_examples = record {
  run_length = refl;
  set_up = refl;
  its_group = λ u. refl;
  released = refl;
  other = λ e. omega (arith, e);
  other_set_up = refl;
  own_changes = λ e. let z : ◌≡◌ {A = ℕ} 74_667 0 = ap (λ ss. earliest 9_000_000 (get_or ss 0 no_stream).regulator 1_344) e in omega (arith, z);
  other_group_9 = refl;
  other_group = lit≤ tt;
  no_stream_is = refl;
  long_frame = refl;
  released_for_c = refl;
  time_for_c = refl;
  refused_11 = refl;
  refused_9 = refl;
  refused_for_c = lit≤ tt;
  group_again_16 = refl;
  group_again = lit≤ tt;
  low_rate_18 = refl;
  low_rate = lit≤ tt;
}

-- ---- each promise at these values: its premises are all among the examples
pub interrupt_side_premises : InterruptSideExamples → Unit {0}
unfolding SameAsFrameCall OthersStay RefusedStays RefusedStaysForC RefusedGroupStays RefusedStreamStays
interrupt_side_premises x =
    let same = same_as_frame_call tables 0 0 64 0 x.run_length x.its_group in
    let others = others_stay 0 (group_at tables 0) tables.streams 0 64 0 1 x.other in
    let stays = refused_stays 1 (group_at tables 0) tables.streams 0 64 0 x.other_group in
    let stays-for-C = refused_stays_for_c 1 group_of_c streams_of_c 0 64 0 777 x.refused_for_c in
    let group_stays = refused_group_stays 0 group_of_c 6 224_000 x.group_again in
    let stream_stays = refused_stream_stays 2 left_over 0 group_of_c 999 1_344 x.low_rate in
    tt
