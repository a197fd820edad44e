-- The promises of specs/Promises, proved. Assumes nothing.
use mathlib.Core.Path.{◌≡◌, ap, ◌∙◌}
use mathlib.Core.Bool.{Bool, true, false, not, cond}
use mathlib.Core.List.{map}
use mathlib.Core.Logic.{inl, inr}
use Prim.Native.Nat.{◌≤◌}
use native.Mathlib.Omega.{arith}
use Rattle.quantity.specs.Ranges.{in_range}
use Rattle.quantity.specs.Numbers.{least_refusal}
use Rattle.quantity.specs.declared.Item.TheVariants.{GroupId, StreamId}
use Rattle.quantity.specs.declared.Refusal.TheVariants.{IdRange, SetUpBefore}
use Rattle.records.specs.Numbers.{is_set_up}
use Rattle.setup.specs.SetUp.{group_set_up, stream_set_up}
use Rattle.calls.specs.Calls.{taken, group_placed, stream_placed}
use Rattle.calls.specs.Numbers.{set_up_number}
use Rattle.lent.specs.InPlace.{received, Received}
use Rattle.firmware.specs.Firmware.{group_of, group_record, stream_of, stream_records, time_after, group_told, stream_told, lent_after, frame_received}
use Rattle.firmware.specs.Promises.{RefusedStaysForC, RefusedGroupStays, RefusedStreamStays}
use Rattle.firmware.specs.declared.GroupRecord.{GroupRecord}
use Rattle.firmware.specs.declared.StreamRecord.{StreamRecord}
use Rattle.lent.proofs.InPlaceLaws.{Ended, ended}
use Rattle.firmware.proofs.LentRecords.{same_group, same_stream, same_streams}
use Rattle.std.proofs.Common.{Result, Ok, Err}
use Rattle.records.specs.declared.Group.{Group}
use Rattle.quantity.specs.declared.Refusal.{Refusal}
use Rattle.records.specs.declared.Stream.{Stream}

pub refused_stays_for_c : RefusedStaysForC
unfolding RefusedStaysForC frame_received lent_after time_after
refused_stays_for_c i g ss k n A t low = go (ended i (group_of g) (map stream_of ss) k n A)
  where
    R : Received
    R = received i (group_of g) (map stream_of ss) k n A

    go : Ended R (group_of g) (map stream_of ss) → (time_after R.answer t ≡ t) × (group_record R.group ≡ g) × (stream_records ss R.streams ≡ ss)
    go (inl w) = (ap (λ (r : Received). time_after r.answer t) w.1, ap (λ (r : Received). group_record r.group) w.1 ∙ same_group g, ap (λ (r : Received). stream_records ss r.streams) w.1 ∙ same_streams ss)
    go (inr h) = absurd (omega (arith, h, low))

-- ---- the set-ups that C calls
module _ (g : GroupRecord) where
  refused_group : (x y : Bool) (p : Result Group Refusal) → least_refusal ≤ (group_told (cond (not x) (record { answer = Err IdRange; after = group_of g }) (cond y (record { answer = Err SetUpBefore; after = group_of g }) (taken (group_of g) p)))).number → (group_told (cond (not x) (record { answer = Err IdRange; after = group_of g }) (cond y (record { answer = Err SetUpBefore; after = group_of g }) (taken (group_of g) p)))).group ≡ g
  unfolding group_told taken set_up_number
  refused_group false y p low = same_group g
  refused_group true true p low = same_group g
  refused_group true false (Ok new) low = absurd (omega (arith, low))
  refused_group true false (Err why) low = same_group g

pub refused_group_stays : RefusedGroupStays
unfolding RefusedGroupStays group_placed
refused_group_stays i g c M = refused_group g (in_range GroupId i) (group_of g).used (group_set_up c M)

module _ (s : StreamRecord) where
  refused_stream : (x y : Bool) (p : Result Stream Refusal) → least_refusal ≤ (stream_told s (cond (not x) (record { answer = Err IdRange; after = stream_of s }) (cond y (record { answer = Err SetUpBefore; after = stream_of s }) (taken (stream_of s) p)))).number → (stream_told s (cond (not x) (record { answer = Err IdRange; after = stream_of s }) (cond y (record { answer = Err SetUpBefore; after = stream_of s }) (taken (stream_of s) p)))).stream ≡ s
  unfolding stream_told taken set_up_number
  refused_stream false y p low = same_stream s
  refused_stream true true p low = same_stream s
  refused_stream true false (Ok new) low = absurd (omega (arith, low))
  refused_stream true false (Err why) low = same_stream s

pub refused_stream_stays : RefusedStreamStays
unfolding RefusedStreamStays stream_placed
refused_stream_stays i s k g r u = refused_stream s (in_range StreamId i) (is_set_up (stream_of s).regulator) (stream_set_up k (group_of g) r u)
