-- What a replay gathers: the records of a part of a table file, taken one after the other into a bridge and the three lists of arrivals. Document 01 asks for the run and for the listing; no sentence of it stands here.
-- s is how a gathering stands, b a bridge; of a record, i is its id, c a class, M a residence limit, k a stream's group, r a rate, u a burst, n a frame's octets, A its arrival, and next the place after it.
use Rattle.std.specs.Prelude.{ℕ, zero, suc, ◌+◌, Bool, cond, ◌&&◌, List, ltb, length, set, Ok, Err}
use Rattle.quantity.specs.Kinds.{ticks}
use Rattle.reader.specs.Reader.{read_at}
use Rattle.tablefile.specs.Meaning.{default_residence}
use Rattle.tablefile.specs.declared.Record.{Record}
use Rattle.tablefile.specs.declared.Record.TheVariants as rec
use Rattle.tablefile.specs.declared.Reading.{Reading}
use Rattle.tablefile.specs.declared.Reading.TheVariants as reading
use Rattle.bridge.specs.Calls.{group_called, stream_called}
use Rattle.bridge.specs.declared.Bridge.{Bridge}
use Rattle.bridge.specs.Calls.{BridgeSetUp}
use Rattle.replay_gathering.specs.declared.End.{End}
use Rattle.replay_gathering.specs.declared.End.TheVariants.{NothingLeft, Unreadable, NotSetUp, ListsFull}
use Rattle.replay_gathering.specs.declared.Task.{Task}
use Rattle.replay_gathering.specs.declared.Task.TheVariants.{Ends, Sets, Frame}
use Rattle.replay_gathering.specs.declared.Wanted.{Wanted}
use Rattle.replay_gathering.specs.declared.Wanted.TheVariants.{Group, Stream}
use Rattle.replay_gathering.specs.declared.Gathered.{Gathered}
use Rattle.std.specs.declared.result.Result.{Result}
use Rattle.quantity.specs.declared.Refusal.{Refusal}

-- ---- how a gathering stands, and what it gives

-- the place of the next record, how many records and arrivals were taken, the bridge, and the three lent lists
pub record State : Type 0 where
  pub at : ℕ
  pub records : ℕ
  pub count : ℕ
  pub bridge : Bridge
  pub arrivals : List ℕ
  pub ids : List ℕ
  pub octets : List ℕ

-- what the call gives, and the lent lists after it
pub record Outcome : Type 0 where
  pub gathered : Gathered
  pub arrivals : List ℕ
  pub ids : List ℕ
  pub octets : List ℕ

-- ended in the state s
unfoldable pub ended : End → State → Outcome
ended why s = record {
  gathered = record { why = why; at = s.at; records = s.records; count = s.count; bridge = s.bridge };
  arrivals = s.arrivals;
  ids = s.ids;
  octets = s.octets;
}

-- ---- what the bytes at a place ask for

-- so many arrivals leave a place in each of the lists, of so many places
unfoldable pub has_room : ℕ → ℕ → ℕ → ℕ → Bool
has_room count arrivals ids octets = ltb count arrivals && (ltb count ids && ltb count octets)

-- what a record asks for; a group without a residence has the default, and a frame wants room in the lists
unfoldable pub task_of : Bool → Record → ℕ → Task
task_of room (rec.Group i c M) next = Sets (Group i c M) next
task_of room (rec.GroupDefault i c) next = Sets (Group i c (ticks default_residence)) next
task_of room (rec.Stream i k r u) next = Sets (Stream i k r u) next
task_of room (rec.Frame i n A) next = cond room (Frame i n A next) (Ends ListsFull)

-- by the reader's answer: 5, 24 and 25 end the gathering
unfoldable pub task_for : Bool → Reading → Task
task_for room (reading.Found r next) = task_of room r next
task_for room reading.NothingLeft = Ends NothingLeft
task_for room (reading.Refused why) = Ends (Unreadable why)

unfoldable pub room_in : State → Bool
room_in s = has_room s.count (length s.arrivals) (length s.ids) (length s.octets)

unfoldable pub task_at : List ℕ → State → Task
task_at bytes s = task_for (room_in s) (read_at bytes s.at)

-- ---- what becomes of it

-- the set-up that is wanted, as a call on a bridge
unfoldable pub called : Bridge → Wanted → BridgeSetUp
called b (Group i c M) = group_called b i c M.0
called b (Stream i k r u) = stream_called b i k r.0 u

-- a record that is a set-up, with the bridge after it
unfoldable pub set_up_taken : State → ℕ → Bridge → State
set_up_taken s next b = record { at = next; records = s.records + 1; count = s.count; bridge = b; arrivals = s.arrivals; ids = s.ids; octets = s.octets }

-- a set-up that is refused ends the gathering after its record
unfoldable pub after_set_up : Result (Unit {0}) Refusal → State → (State → Outcome) → Outcome
after_set_up (Ok tt) s more = more s
after_set_up (Err why) s more = ended (NotSetUp why) s

unfoldable pub setting_up : State → ℕ → BridgeSetUp → (State → Outcome) → Outcome
setting_up s next x more = after_set_up x.answer (set_up_taken s next x.bridge) more

-- a frame goes to the next place of each list
unfoldable pub frame_taken : State → ℕ → ℕ → ℕ → ℕ → State
frame_taken s next i n A = record {
  at = next;
  records = s.records + 1;
  count = s.count + 1;
  bridge = s.bridge;
  arrivals = set s.arrivals s.count A;
  ids = set s.ids s.count i;
  octets = set s.octets s.count n;
}

-- a task done in the state s, with what follows it
unfoldable pub onward : State → Task → (State → Outcome) → Outcome
onward s (Ends why) more = ended why s
onward s (Sets w next) more = setting_up s next (called s.bridge w) more
onward s (Frame i n A next) more = more (frame_taken s next i n A.0)

-- ---- the gathering

-- record by record, at most so many
unfoldable pub gather_for : ℕ → List ℕ → State → Outcome
gather_for zero bytes s = ended NothingLeft s
gather_for (suc more) bytes s = onward s (task_at bytes s) (gather_for more bytes)

-- on from the state s: no more records than bytes; the law `one_record_at_a_time` is all there is to know of it
unfoldable pub gather_from : List ℕ → State → Outcome
gather_from bytes s = gather_for (suc (length bytes)) bytes s

-- how a gathering of a part begins: at its front, with so many places of the lists taken
unfoldable pub begun : Bridge → List ℕ → List ℕ → List ℕ → ℕ → State
begun b arrivals ids octets count = record { at = 0; records = 0; count = count; bridge = b; arrivals = arrivals; ids = ids; octets = octets }
