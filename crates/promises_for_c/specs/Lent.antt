-- Document 01, 'The interrupt side' and 'Numbers returned': the memory that C lends to the three calls, what each call does to it, and the bridge that it holds.
-- m is C's memory, x a call; i is an id, c a class, M a residence limit, r a rate, u a burst, k a stream's group or a frame's stream, n a frame's octets, A its arrival, t the caller's time before the call, N a number.
use Rattle.std.specs.Prelude.{ℕ, zero, suc, Bool, false, not, cond, ◌&&◌, List, [], ◌∷◌, ◌++◌, map, eqb, ltb, pos, get_or, set, replicate}
use Rattle.quantity.specs.Charge.{charged}
use Rattle.quantity.specs.Numbers.{least_refusal}
use Rattle.quantity.specs.Ranges.{place_of}
use Rattle.quantity.specs.declared.Item.TheVariants.{GroupId, StreamId}
use Rattle.calls.specs.Calls.{group_placed, stream_placed}
use Rattle.bridge.specs.History.{Call, group, stream, frame, Reply, Frame, Outcome, released, discarded}
use Rattle.bridge.specs.declared.Bridge.{Bridge}
use Rattle.lent.specs.InPlace.{run_places}
use Rattle.firmware.specs.Firmware.{group_of, stream_of, group_told, stream_told, FrameReceived, frame_received}
use Rattle.firmware.specs.declared.GroupRecord.{GroupRecord}
use Rattle.firmware.specs.declared.StreamRecord.{StreamRecord}
use Rattle.firmware.specs.declared.GroupTold.{GroupTold}
use Rattle.firmware.specs.declared.StreamTold.{StreamTold}

-- ---- memory

-- the group records and the stream records that C owns, each at the place of its id
pub record Memory : Type 0 where
  pub groups : List GroupRecord
  pub streams : List StreamRecord

-- a record whose fields are all 0 or false
abbrev pub zeroed_group : GroupRecord
zeroed_group = record { used = false; class = 0; discards = 0; residence = 0; time = 0; last = 0 }

abbrev pub zeroed_stream : StreamRecord
zeroed_stream = record { used = false; group = 0; rate = 0; burst = 0; empty = pos 0; part = 0 }

-- 16 group records and 64 stream records, all zeroed
unfoldable pub zeroed : Memory
zeroed = record { groups = replicate 16 zeroed_group; streams = replicate run_places zeroed_stream }

-- the bridge that the memory holds: what each record holds, at its place
unfoldable pub bridge_of : Memory → Bridge
bridge_of m = record { groups = map group_of m.groups; streams = map stream_of m.streams }

-- the record of an id; a zeroed one for an id that has no place
unfoldable pub group_record_at : Memory → ℕ → GroupRecord
group_record_at m i = get_or m.groups i zeroed_group

unfoldable pub stream_record_at : Memory → ℕ → StreamRecord
stream_record_at m i = get_or m.streams i zeroed_stream

-- the record that C lends for an id: the one that stands there; for an id out of range, which no call takes, the one at place 0
unfoldable pub group_lent : Memory → ℕ → GroupRecord
group_lent m i = group_record_at m (place_of GroupId i)

unfoldable pub stream_lent : Memory → ℕ → StreamRecord
stream_lent m i = stream_record_at m (place_of StreamId i)

-- the memory after a lent record was written
unfoldable pub group_written : Memory → ℕ → GroupRecord → Memory
group_written m i g = record { groups = set m.groups (place_of GroupId i) g; streams = m.streams }

unfoldable pub stream_written : Memory → ℕ → StreamRecord → Memory
stream_written m i s = record { groups = m.groups; streams = set m.streams (place_of StreamId i) s }

-- ---- what the three calls give, by their contracts, on the records that C lends

unfoldable pub group_given : Memory → ℕ → ℕ → ℕ → GroupTold
group_given m i c M = group_told (group_placed i (group_of (group_lent m i)) c M)

unfoldable pub stream_given : Memory → ℕ → ℕ → ℕ → ℕ → StreamTold
stream_given m i k r u = stream_told (stream_lent m i) (stream_placed i (stream_of (stream_lent m i)) k (group_of (group_lent m k)) r u)

unfoldable pub frame_given : Memory → ℕ → ℕ → ℕ → ℕ → ℕ → FrameReceived
frame_given m i k n A t = frame_received i (group_lent m i) m.streams k n A t

-- ---- a call from C

-- aldurretx_set_up_group, aldurretx_set_up_stream and aldurretx_receive, with any numbers, so with all that 64 bits hold; a frame of the stream k comes with the id and the record of a group i
pub data CCall : Type 0 where
  set_up_group : (i c M : ℕ) → CCall
  set_up_stream : (i k r u : ℕ) → CCall
  receive : (i k n A t : ℕ) → CCall

-- the number that it returns
unfoldable pub number : Memory → CCall → ℕ
number m (set_up_group i c M) = (group_given m i c M).number
number m (set_up_stream i k r u) = (stream_given m i k r u).number
number m (receive i k n A t) = (frame_given m i k n A t).number

-- the memory after it
unfoldable pub after_c : Memory → CCall → Memory
after_c m (set_up_group i c M) = group_written m i (group_given m i c M).group
after_c m (set_up_stream i k r u) = stream_written m i (stream_given m i k r u).stream
after_c m (receive i k n A t) = group_written (record { groups = m.groups; streams = (frame_given m i k n A t).streams }) i (frame_given m i k n A t).group

-- what C then reads: the number, and where a frame's is below 9 the caller's time
unfoldable pub read : FrameReceived → Reply
read f = record { number = f.number; values = cond (ltb f.number least_refusal) (f.time ∷ []) [] }

unfoldable pub reply_to_c : Memory → CCall → Reply
reply_to_c m (set_up_group i c M) = record { number = number m (set_up_group i c M); values = [] }
reply_to_c m (set_up_stream i k r u) = record { number = number m (set_up_stream i k r u); values = [] }
reply_to_c m (receive i k n A t) = read (frame_given m i k n A t)

-- the frame that it judges, as C sees it: 0 is released, 1 discarded, and any other number judges none
unfoldable pub judged_by : ℕ → Frame → List Outcome
judged_by zero f = released f ∷ []
judged_by (suc zero) f = discarded f ∷ []
judged_by (suc (suc N)) f = []

unfoldable pub judged_in_c : Memory → CCall → List Outcome
judged_in_c m (set_up_group i c M) = []
judged_in_c m (set_up_stream i k r u) = []
judged_in_c m (receive i k n A t) = judged_by (number m (receive i k n A t)) (record { stream = k; group = i; bits = charged n; arrival = A; time = (frame_given m i k n A t).time })

-- ---- the bridge's call that it stands for

-- a frame comes with another group than its stream's: the stream's record is used and names another id
unfoldable pub mislent : Memory → CCall → Bool
mislent m (set_up_group i c M) = false
mislent m (set_up_stream i k r u) = false
mislent m (receive i k n A t) = (stream_record_at m k).used && not (eqb (stream_record_at m k).group i)

-- the same call of a bridge, whose frames look for their group themselves
unfoldable pub on_bridge : CCall → Call
on_bridge (set_up_group i c M) = group i c M
on_bridge (set_up_stream i k r u) = stream i k r u
on_bridge (receive i k n A t) = frame k n A

-- ---- one call after the other

-- the memory after them
unfoldable pub after_all : Memory → List CCall → Memory
after_all m [] = m
after_all m (x ∷ xs) = after_all (after_c m x) xs

-- the bridge's calls that they stand for, and what C reads after each of these; a frame that comes with another group stands for none
unfoldable pub calls_of : Memory → List CCall → List Call
calls_of m [] = []
calls_of m (x ∷ xs) = cond (mislent m x) (calls_of (after_c m x) xs) (on_bridge x ∷ calls_of (after_c m x) xs)

unfoldable pub replies_of : Memory → List CCall → List Reply
replies_of m [] = []
replies_of m (x ∷ xs) = cond (mislent m x) (replies_of (after_c m x) xs) (reply_to_c m x ∷ replies_of (after_c m x) xs)

-- the frames that they judge, as C sees them, in order
unfoldable pub judged_of : Memory → List CCall → List Outcome
judged_of m [] = []
judged_of m (x ∷ xs) = judged_in_c m x ++ judged_of (after_c m x) xs

-- from zeroed memory
abbrev pub memory_after : List CCall → Memory
memory_after xs = after_all zeroed xs

abbrev pub calls_in : List CCall → List Call
calls_in xs = calls_of zeroed xs

abbrev pub history_in_c : List CCall → List Outcome
history_in_c xs = judged_of zeroed xs
