-- Lent records at which the premises of the promises of `receive` and `firmware` hold: a frame that is judged, and calls that are refused.
-- Document 01's group 0 and stream 0, and a stream 1 that is the same but for its id. Ids, octets, arrivals and numbers are plain numbers.
use Rattle.std.specs.Prelude.{ℕ, ◌≤◌, ◌≡◌, true, false, List, [], ◌∷◌, pos, length, replicate}
use Rattle.quantity.specs.Kinds.{ticks}
use Rattle.quantity.specs.Numbers.{least_refusal}
use Rattle.records.specs.Numbers.{is_set_up, answer_number}
use Rattle.records.specs.declared.Answer.TheVariants.{Released}
use Rattle.calls.specs.Calls.{group_placed, stream_placed}
use Rattle.bridge.specs.Tables.{group_at, stream_at}
use Rattle.bridge.specs.History.{stream, bridge_after}
use Rattle.bridge.specs.declared.Bridge.{Bridge}
use Rattle.lent.specs.InPlace.{run_places, received, Received}
use Rattle.firmware.specs.Firmware.{group_of, group_record, stream_of, stream_records, group_told, stream_told, FrameReceived, frame_received}
use Rattle.firmware.specs.declared.GroupRecord.{GroupRecord}
use Rattle.firmware.specs.declared.StreamRecord.{StreamRecord}
use Rattle.promises.specs.Examples.{yard}

abbrev pub tables : Bridge
tables = bridge_after (yard (stream 1 0 9_000_000 1_344 ∷ []))

-- a frame of a stream at tick 0 in the records that these tables lend: group 0, under some id, and the run
abbrev pub frame_in : ℕ → ℕ → ℕ → Received
frame_in lent id octets = received lent (group_at tables 0) tables.streams id octets 0

-- a stream's record as C may leave it: not set up, with old numbers in its other fields
abbrev pub left_over : StreamRecord
left_over = record { used = false; group = 5; rate = 7; burst = 11; empty = pos 13; part = 17 }

-- the same tables as C lends them
abbrev pub group_of_c : GroupRecord
group_of_c = group_record (group_at tables 0)

abbrev pub streams_of_c : List StreamRecord
streams_of_c = stream_records (replicate run_places left_over) tables.streams

-- a frame of stream 0 at tick 0 in them, the group's record under some id; the caller's time is 777
abbrev pub frame_of_c : ℕ → ℕ → FrameReceived
frame_of_c lent octets = frame_received lent group_of_c streams_of_c 0 octets 0 777

pub record InterruptSideExamples : Type 0 where
  -- SameAsFrameCall: the run has its 64 places, stream 0 is set up, and it is of the lent group; its frame is released
  pub run_length : length tables.streams ≡ run_places
  pub set_up : is_set_up (stream_at tables 0).regulator ≡ true
  pub its_group : is_set_up (stream_at tables 0).regulator ≡ true → (stream_at tables 0).group ≡ 0
  pub released : (frame_in 0 0 64).answer ≡ Released (ticks 0)
  -- OthersStay: stream 1, which is set up, is another stream, and stream 0's own record changes
  pub other : ◌≡◌ {A = ℕ} 1 0 → ⊥
  pub other_set_up : is_set_up (stream_at tables 1).regulator ≡ true
  pub own_changes : (frame_in 0 0 64).streams ≡ tables.streams → ⊥
  -- RefusedStays: a lent group that is not the stream's gets 9, a stream that is not set up 10, a frame of 2,001 octets 11
  pub other_group_9 : answer_number (frame_in 1 0 64).answer ≡ 9
  pub other_group : least_refusal ≤ answer_number (frame_in 1 0 64).answer
  pub no_stream_is : answer_number (frame_in 0 2 64).answer ≡ 10
  pub long_frame : answer_number (frame_in 0 0 2_001).answer ≡ 11
  -- RefusedStaysForC: a frame of 64 octets gets 0 and its T, and 9 where the lent group is not the stream's; one of 2,001 gets 11
  pub released_for_c : (frame_of_c 0 64).number ≡ 0
  pub time_for_c : (frame_of_c 0 64).time ≡ 0
  pub refused_11 : (frame_of_c 0 2_001).number ≡ 11
  pub refused_9 : (frame_of_c 1 64).number ≡ 9
  pub refused_for_c : least_refusal ≤ (frame_of_c 1 64).number
  -- RefusedGroupStays: group 0 is set up a second time, and gets 16
  pub group_again_16 : (group_told (group_placed 0 (group_of group_of_c) 6 224_000)).number ≡ 16
  pub group_again : least_refusal ≤ (group_told (group_placed 0 (group_of group_of_c) 6 224_000)).number
  -- RefusedStreamStays: a rate of 999 gets 18, in a record that holds old numbers
  pub low_rate_18 : (stream_told left_over (stream_placed 2 (stream_of left_over) 0 (group_of group_of_c) 999 1_344)).number ≡ 18
  pub low_rate : least_refusal ≤ (stream_told left_over (stream_placed 2 (stream_of left_over) 0 (group_of group_of_c) 999 1_344)).number
