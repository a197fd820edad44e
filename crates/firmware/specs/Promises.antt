-- Document 01, 'The interrupt side' and 'Numbers returned': what is promised of the calls that C makes.
-- The letters are those of Firmware. Each promise is proved in proofs/Promises.
use Rattle.std.specs.Prelude.{ℕ, ◌≤◌, ◌≡◌, List}
use Rattle.quantity.specs.Numbers.{least_refusal}
use Rattle.calls.specs.Calls.{group_placed, stream_placed}
use Rattle.firmware.specs.Firmware.{group_of, stream_of, group_told, stream_told, frame_received}
use Rattle.firmware.specs.declared.GroupRecord.{GroupRecord}
use Rattle.firmware.specs.declared.StreamRecord.{StreamRecord}

-- a number from 9 up leaves all that C lends as it stood: every field of every record, and the caller's time
unfoldable pub RefusedStaysForC : Type 0
RefusedStaysForC = (i : ℕ) (g : GroupRecord) (ss : List StreamRecord) (k n A t : ℕ) → least_refusal ≤ (frame_received i g ss k n A t).number → ((frame_received i g ss k n A t).time ≡ t) × ((frame_received i g ss k n A t).group ≡ g) × ((frame_received i g ss k n A t).streams ≡ ss)

unfoldable pub RefusedGroupStays : Type 0
RefusedGroupStays = (i : ℕ) (g : GroupRecord) (c M : ℕ) → least_refusal ≤ (group_told (group_placed i (group_of g) c M)).number → (group_told (group_placed i (group_of g) c M)).group ≡ g

unfoldable pub RefusedStreamStays : Type 0
RefusedStreamStays = (i : ℕ) (s : StreamRecord) (k : ℕ) (g : GroupRecord) (r u : ℕ) → least_refusal ≤ (stream_told s (stream_placed i (stream_of s) k (group_of g) r u)).number → (stream_told s (stream_placed i (stream_of s) k (group_of g) r u)).stream ≡ s
