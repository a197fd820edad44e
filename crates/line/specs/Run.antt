-- Document 01, 'A run against a line': the events of a run and what it gives; which is next and where it stops are in `event`.
-- i is a run's input, s its state, m a moment, n a frame's octets, T its eligibility time, k its place in the list.
use Rattle.std.specs.Prelude.{ℕ, zero, suc, ◌+◌, ◌-◌, ◌/◌, Bool, cond, not, ◌&&◌, Result, Ok, Err, List, [], ◌∷◌, leb, eqb, length, get_or, set}
use Rattle.quantity.specs.Kinds.{ticks, bits}
use Rattle.quantity.specs.Ranges.{in_range}
use Rattle.quantity.specs.declared.Item.TheVariants.{LineRate, LineFree, ListPlaces}
use Rattle.quantity.specs.declared.Refusal.{Refusal}
use Rattle.quantity.specs.declared.Refusal.TheVariants.{Unsound, ListsUnfit, LineUnfit}
use Rattle.records.specs.ExactTime.{bit_time}
use Rattle.quantity.specs.Charge.{charged}
use Rattle.records.specs.Numbers.{answer_number}
use Rattle.records.specs.declared.Group.{Group}
use Rattle.records.specs.declared.Answer.{Answer}
use Rattle.records.specs.declared.Answer.TheVariants.{Released, Discarded, Refused as FrameRefused}
use Rattle.classes.specs.Soundness.{all_sound}
use Rattle.firsts.specs.Firsts.{smallest_of}
use Rattle.classes.specs.Calls.{Entered, enter_gives, pick_gives}
use Rattle.waiting.specs.Answers.{entered_number}
use Rattle.places.specs.declared.Waiting.{Waiting}
use Rattle.places.specs.declared.After.{After}
use Rattle.places.specs.declared.Picked.{Picked}
use Rattle.places.specs.declared.Picked.TheVariants.{Leaves, Nothing, Refused as NotPicked}
use Rattle.bridge.specs.Tables.{group_at, stream_at}
use Rattle.bridge.specs.Calls.{frame_called}
use Rattle.bridge.specs.declared.Bridge.{Bridge}
use Rattle.bridge.specs.Calls.{Framed}
use Rattle.event.specs.Next.{next_event, step_for}
use Rattle.event.specs.declared.Stop.{Stop}
use Rattle.event.specs.declared.Stop.TheVariants.{Done, BudgetSpent, TooLate, PicksFull, Refused}
use Rattle.event.specs.declared.Step.{Step}
use Rattle.event.specs.declared.Step.TheVariants.{Ends, Arrival, Pick}
use Rattle.line.specs.declared.Handed.{Handed}
use Rattle.line.specs.declared.Ran.{Ran}

-- ---- what a run is given, and how it stands

-- three lists of arrivals (time, stream, octets) and the line rate
pub record Input : Type 0 where
  pub arrivals : List ℕ
  pub ids : List ℕ
  pub octets : List ℕ
  pub rate : ℕ

-- the tables and queues, the next arrival's place, the moment the line is free, the counts of events and of picks, and the three lent lists
pub record State : Type 0 where
  pub bridge : Bridge
  pub waiting : Waiting
  pub next : ℕ
  pub free : ℕ
  pub events : ℕ
  pub picks : ℕ
  pub answers : List ℕ
  pub picked : List ℕ
  pub moments : List ℕ

-- ---- which event is next

-- what a run in the state s does next: one of the two events, or it ends
unfoldable pub step : Input → ℕ → State → Step
step i left s =
    step_for left s.picks (length s.picked) (length s.moments)
    (next_event i.arrivals s.next s.free (smallest_of s.waiting.times s.waiting.fills))

-- ---- an arrival

-- what is handed to the queue for a frame at place k that is released at T: T, the class of its stream's group g, and its charged bits
unfoldable pub handed : Group → ℕ → ℕ → ℕ → Handed
handed g k n T = record { class = g.class; entry = record { handle = k; time = ticks T; bits = bits (charged n) } }

-- a frame's own number, and the queues after it
pub record Settled : Type 0 where
  pub number : ℕ
  pub waiting : Waiting

unfoldable pub entered : After Entered → Settled
entered e = record { number = entered_number e.answer; waiting = e.waiting }

-- if released it enters its class, and a full class gives 22; else the queues stay
unfoldable pub settled : Waiting → Group → ℕ → ℕ → Answer → Settled
settled w g k n (Released T) = entered (enter_gives w (handed g k n T.0).class (handed g k n T.0).entry)
settled w g k n (Discarded T) = record { number = answer_number (Discarded T); waiting = w }
settled w g k n (FrameRefused why) = record { number = answer_number (FrameRefused why); waiting = w }

-- the frame at a place of the lists, judged by the tables b
unfoldable pub frame_at : Input → Bridge → ℕ → Framed
frame_at i b k = frame_called b (get_or i.ids k 0) (get_or i.octets k 0) (get_or i.arrivals k 0)

-- the group of that frame's stream
unfoldable pub group_of : Input → Bridge → ℕ → Group
group_of i b k = group_at b (stream_at b (get_or i.ids k 0)).group

-- what becomes of the next frame
unfoldable pub settled_at : Input → State → Settled
settled_at i s = settled s.waiting (group_of i s.bridge s.next) s.next (get_or i.octets s.next 0) (frame_at i s.bridge s.next).answer

-- its answer goes to its place
unfoldable pub arrived : Input → State → State
arrived i s = record {
  bridge = (frame_at i s.bridge s.next).bridge;
  waiting = (settled_at i s).waiting;
  next = s.next + 1;
  free = s.free;
  events = s.events + 1;
  picks = s.picks;
  answers = set s.answers s.next (settled_at i s).number;
  picked = s.picked;
  moments = s.moments;
}

-- ---- a pick

-- charged bits·10⁹/line rate, taken up to a whole tick
unfoldable pub sending_ticks : ℕ → ℕ → ℕ
sending_ticks bits rate = (bit_time bits + (rate - 1)) / rate

-- the entry leaves: its handle and the moment m are written at the next free output place, and the line is free when it is sent. (Where no entry is due, a run picks none.)
unfoldable pub sent : Input → State → ℕ → Waiting → Picked → State
sent i s m w (Leaves c e) = record {
  bridge = s.bridge;
  waiting = w;
  next = s.next;
  free = m + sending_ticks e.bits.0 i.rate;
  events = s.events + 1;
  picks = s.picks + 1;
  answers = s.answers;
  picked = set s.picked s.picks e.handle;
  moments = set s.moments s.picks m;
}
sent i s m w Nothing = s
sent i s m w (NotPicked why) = s

unfoldable pub picked_at : Input → State → ℕ → State
picked_at i s m = sent i s m (pick_gives s.waiting m).waiting (pick_gives s.waiting m).answer

-- ---- the run

-- a run's result, and the lent lists after it
pub record Outcome : Type 0 where
  pub ran : Ran
  pub answers : List ℕ
  pub picked : List ℕ
  pub moments : List ℕ

-- stopped in the state s
unfoldable pub stopped : Stop → State → Outcome
stopped why s = record {
  ran = record { stop = why; next = s.next; free = ticks s.free; events = s.events; picks = s.picks; bridge = s.bridge; waiting = s.waiting };
  answers = s.answers;
  picked = s.picked;
  moments = s.moments;
}

-- a step taken in the state s, with what follows it
unfoldable pub onward : Input → State → Step → (State → Outcome) → Outcome
onward i s (Ends why) more = stopped why s
onward i s Arrival more = more (arrived i s)
onward i s (Pick m) more = more (picked_at i s m.0)

-- event by event, with so many left of the budget
unfoldable pub run_for : Input → ℕ → State → Outcome
run_for i zero s = onward i s (step i zero s) (stopped BudgetSpent)
run_for i (suc left) s = onward i s (step i (suc left) s) (run_for i left)

-- ---- the call

-- how a run begins: picks are written from place 0 at each call
unfoldable pub begun : Bridge → Waiting → ℕ → ℕ → List ℕ → List ℕ → List ℕ → State
begun b w start free answers picked moments = record {
  bridge = b;
  waiting = w;
  next = start;
  free = free;
  events = 0;
  picks = 0;
  answers = answers;
  picked = picked;
  moments = moments;
}

-- input lists of equal length, of at most 65,536 places, the start not beyond the end, and the answer list not shorter
unfoldable pub lists_fit : ℕ → ℕ → ℕ → ℕ → ℕ → Bool
lists_fit arrivals ids octets start answers =
    eqb ids arrivals && (eqb octets arrivals && (in_range ListPlaces arrivals && (leb start arrivals && leb arrivals answers)))

unfoldable pub line_fits : ℕ → ℕ → Bool
line_fits rate free = in_range LineRate rate && in_range LineFree free

-- what the tests of a run's arguments say: it runs, or why not
abbrev pub Start : Type 0
Start = Result (Unit {0}) Refusal

-- by the tests of the lists, of the line and of the queues: refused by 28, 29 and 9, in this order
unfoldable pub start_of : Bool → Bool → Bool → Start
start_of lists line queues =
    cond (not lists) (Err ListsUnfit)
    (cond (not line) (Err LineUnfit)
    (cond (not queues) (Err Unsound)
    (Ok tt)))

unfoldable pub start_at : Input → State → Start
start_at i s =
    start_of (lists_fit (length i.arrivals) (length i.ids) (length i.octets) s.next (length s.answers)) (line_fits i.rate s.free)
    (all_sound s.waiting.times s.waiting.bits s.waiting.fills)

-- a run that is refused changes nothing; else it goes event by event
unfoldable pub started_by : Input → ℕ → State → Start → Outcome
started_by i budget s (Ok runs) = run_for i budget s
started_by i budget s (Err why) = stopped (Refused why) s

unfoldable pub run_gives : Input → ℕ → State → Outcome
run_gives i budget s = started_by i budget s (start_at i s)

-- ---- the values that come with a stop

-- none where the run is refused; else the next arrival's place, line-free, and the counts of events and of picks
unfoldable pub values_with : Stop → List ℕ → List ℕ
values_with Done values = values
values_with BudgetSpent values = values
values_with TooLate values = values
values_with PicksFull values = values
values_with (Refused why) values = []

unfoldable pub ran_values : Ran → List ℕ
ran_values r = values_with r.stop (r.next ∷ r.free.0 ∷ r.events ∷ r.picks ∷ [])
