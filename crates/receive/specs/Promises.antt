-- Document 01, 'The interrupt side' and 'Numbers returned': what is promised of a frame in lent records.
-- b is a bridge; the other letters are those of InPlace. Each promise is proved in proofs/Promises.
use Rattle.std.specs.Prelude.{ℕ, ◌≤◌, ◌≡◌, true, List, length, get_or, set}
use Rattle.quantity.specs.Numbers.{least_refusal}
use Rattle.records.specs.Numbers.{is_set_up, answer_number}
use Rattle.records.specs.declared.Group.{Group}
use Rattle.records.specs.declared.Stream.{Stream}
use Rattle.bridge.specs.Tables.{no_stream, group_at, stream_at}
use Rattle.bridge.specs.Calls.{frame_called}
use Rattle.bridge.specs.declared.Bridge.{Bridge}
use Rattle.bridge.specs.Calls.{Framed}
use Rattle.lent.specs.InPlace.{run_places, received, Received}

-- the tables where the lent records are put back: the run is the table of streams, the group's record that of group i
unfoldable pub put_back : Bridge → ℕ → Received → Framed
put_back b i r = record { answer = r.answer; bridge = record { groups = set b.groups i r.group; streams = r.streams } }

-- a frame in records lent by a bridge is the bridge's frame call, where the stream, if it is set up, is of the lent group
unfoldable pub SameAsFrameCall : Type 0
SameAsFrameCall = (b : Bridge) (i k n A : ℕ) → length b.streams ≡ run_places → (is_set_up (stream_at b k).regulator ≡ true → (stream_at b k).group ≡ i) → put_back b i (received i (group_at b i) b.streams k n A) ≡ frame_called b k n A

-- only the frame's own record of the run changes
unfoldable pub OthersStay : Type 0
OthersStay = (i : ℕ) (g : Group) (ss : List Stream) (k n A j : ℕ) → (j ≡ k → ⊥) → get_or (received i g ss k n A).streams j no_stream ≡ get_or ss j no_stream

unfoldable pub RunKeepsItsLength : Type 0
RunKeepsItsLength = (i : ℕ) (g : Group) (ss : List Stream) (k n A : ℕ) → length (received i g ss k n A).streams ≡ length ss

-- a number from 9 up leaves the lent records as they stood
unfoldable pub RefusedStays : Type 0
RefusedStays = (i : ℕ) (g : Group) (ss : List Stream) (k n A : ℕ) → least_refusal ≤ answer_number (received i g ss k n A).answer → ((received i g ss k n A).group ≡ g) × ((received i g ss k n A).streams ≡ ss)
