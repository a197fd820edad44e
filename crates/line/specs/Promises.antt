-- Document 01, 'A run against a line' and 'How tight each guarantee is': what is promised of a run. proofs/Promises.antt proves each statement under its name.
-- i is a run's input, s the state that it begins in, s' the one that it stops in, k the events that it takes, t the run event by event.
use Rattle.std.specs.Prelude.{ℕ, ◌+◌, ◌≤◌, ◌<◌, ◌≡◌, Bool, true, ◌⊎◌, List, [], ◌∷◌, ◌++◌, length, get_or, take, drop}
use Rattle.quantity.specs.Numbers.{number_of, least_refusal}
use Rattle.quantity.specs.declared.Refusal.{Refusal}
use Rattle.quantity.specs.declared.Refusal.TheVariants.{ClassFull}
use Rattle.places.specs.Queue.{queue, Shaped}
use Rattle.classes.specs.Soundness.{all_sound}
use Rattle.places.specs.declared.Entry.{Entry}
use Rattle.bridge.specs.History.{Reply, replies, after}
use Rattle.event.specs.Next.{stop_number}
use Rattle.event.specs.declared.Stop.{Stop}
use Rattle.event.specs.declared.Stop.TheVariants.{BudgetSpent, Refused, TooLate}
use Rattle.line.specs.Run.{Input, State, Outcome, sending_ticks, stopped, begun, run_gives, ran_values}
use Rattle.line.specs.Events.{Takes, frames_from, numbers, entrances, Departure, departures, handles_of, moments_of, written, entered_into, left_from, count, entered_handles, zeros_from}

-- the queues have the lengths that the code gives them, and are sound
pub record Sound (s : State) : Type 0 where
  pub shaped : Shaped s.waiting
  pub sound : all_sound s.waiting.times s.waiting.bits s.waiting.fills ≡ true

-- ---- the events of a run

-- the outcome of a run that is not refused: its events, one after the other, and where it stopped
pub record Ran (i : Input) (budget : ℕ) (s : State) (o : Outcome) : Type 0 where
  pub events : ℕ
  pub stop : Stop
  pub last : State
  pub takes : Takes i budget s events stop last
  pub gives : o ≡ stopped stop last

-- a run is refused, and then nothing changes; or it takes its events one after the other
abbrev pub RunIsItsEvents : Type 0
RunIsItsEvents =
    (i : Input) (budget : ℕ) (s : State) →
    ((why : Refusal) × (run_gives i budget s ≡ stopped (Refused why) s))
    ⊎ ((all_sound s.waiting.times s.waiting.bits s.waiting.fills ≡ true) × Ran i budget s (run_gives i budget s))

-- a number from 9 up leaves all as it was, except 27, which ends a run and gives its whole result
abbrev pub RefusedChangesNothing : Type 0
RefusedChangesNothing =
    (i : Input) (budget : ℕ) (s : State) → least_refusal ≤ stop_number (run_gives i budget s).ran.stop → (stop_number (run_gives i budget s).ran.stop ≡ stop_number TooLate → ⊥) →
    (run_gives i budget s ≡ stopped (run_gives i budget s).ran.stop s) × (ran_values (run_gives i budget s).ran ≡ [])

-- the count of events goes up by the events taken, which are the arrivals and the picks, and are not more than the budget
abbrev pub EventsAreCounted : Type 0
EventsAreCounted =
    (i : Input) (left k : ℕ) (why : Stop) (s s' : State) → Sound s → Takes i left s k why s' →
    (s'.events ≡ s.events + k) × ((k ≤ left) × (s'.next + s'.picks ≡ (s.next + s.picks) + k))

-- ---- what a run judges

-- the tables after a run are those after the frames of the places taken, called one after the other in list order
abbrev pub HistoryOfFrames : Type 0
HistoryOfFrames =
    (i : Input) (left k : ℕ) (why : Stop) (s s' : State) → Takes i left s k why s' →
    (n : ℕ) × ((s'.next ≡ s.next + n) × (s'.bridge ≡ after s.bridge (frames_from i s.next n)))

-- a number given is its call's, or 22 where that is 0: released, and its class is full
pub data Answers : List ℕ → List Reply → Type 0 where
  none : Answers [] []
  one : {x : ℕ} {r : Reply} {xs : List ℕ} {rs : List Reply} → (x ≡ r.number) ⊎ ((r.number ≡ 0) × (x ≡ number_of ClassFull)) → Answers xs rs → Answers (x ∷ xs) (r ∷ rs)

abbrev pub NumbersOfFrames : Type 0
NumbersOfFrames =
    (i : Input) (left k : ℕ) (why : Stop) (s s' : State) → Sound s → (t : Takes i left s k why s') →
    Answers (numbers t) (replies s.bridge (frames_from i s.next (length (numbers t))))

-- what enters are the frames whose number is 0, each with its place in the list as its handle
abbrev pub ReleasedEnter : Type 0
ReleasedEnter = (i : Input) (left k : ℕ) (why : Stop) (s s' : State) → Sound s → (t : Takes i left s k why s') → entered_handles (entrances t) ≡ zeros_from s.next (numbers t)

-- ---- the lent lists

-- the numbers are written from the starting place on, the handles and moments of the entries that left from the next free place on, and nothing else changes
abbrev pub ListsAreWritten : Type 0
ListsAreWritten =
    (i : Input) (left k : ℕ) (why : Stop) (s s' : State) → Sound s → (t : Takes i left s k why s') →
    (s'.answers ≡ written s.answers s.next (numbers t))
    × ((s'.picked ≡ written s.picked s.picks (handles_of (departures t)))
    × (s'.moments ≡ written s.moments s.picks (moments_of (departures t))))

-- list places not reached stay
abbrev pub OtherPlacesStay : Type 0
OtherPlacesStay =
    (i : Input) (left k : ℕ) (why : Stop) (s s' : State) → Sound s → Takes i left s k why s' → (j : ℕ) →
    (((j < s.next) ⊎ (s'.next ≤ j)) → get_or s'.answers j 0 ≡ get_or s.answers j 0)
    × ((((j < s.picks) ⊎ (s'.picks ≤ j)) → get_or s'.picked j 0 ≡ get_or s.picked j 0)
    × (((j < s.picks) ⊎ (s'.picks ≤ j)) → get_or s'.moments j 0 ≡ get_or s.moments j 0))

-- ---- on the line

-- no frame leaves before its eligibility time
pub data InTime : List Departure → Type 0 where
  none : InTime []
  one : {d : Departure} {ds : List Departure} → d.entry.time.0 ≤ d.moment → InTime ds → InTime (d ∷ ds)

abbrev pub NoneBeforeItsTime : Type 0
NoneBeforeItsTime = (i : Input) (left k : ℕ) (why : Stop) (s s' : State) → Sound s → (t : Takes i left s k why s') → InTime (departures t)

-- from a moment at which the line is free to another: each frame leaves when the line is free, and the line is busy with it until it is sent
pub data Apart (rate : ℕ) : ℕ → List Departure → ℕ → Type 0 where
  idle : {free : ℕ} → Apart rate free [] free
  sends : {free last : ℕ} {d : Departure} {ds : List Departure} → free ≤ d.moment → Apart rate (d.moment + sending_ticks d.entry.bits.0 rate) ds last → Apart rate free (d ∷ ds) last

-- no two frames overlap
abbrev pub NoneOverlap : Type 0
NoneOverlap = (i : Input) (left k : ℕ) (why : Stop) (s s' : State) → Sound s → (t : Takes i left s k why s') → Apart i.rate s.free (departures t) s'.free

-- ---- nothing is lost and nothing doubled

-- of each class, the entries that wait after a run and those that left are those that waited before it and those that entered, by any test that counts them
abbrev pub NothingLostOrDoubled : Type 0
NothingLostOrDoubled =
    (i : Input) (left k : ℕ) (why : Stop) (s s' : State) → Sound s → (t : Takes i left s k why s') → (c : ℕ) (p : Entry → Bool) →
    count p (queue s'.waiting c) + count p (left_from c (departures t)) ≡ count p (queue s.waiting c) + count p (entered_into c (entrances t))

-- ---- in pieces

-- a run continued from an outcome: from its place, its line-free, its tables and queues, with what is left of the pick lists
unfoldable pub continued : Outcome → State
continued o =
    begun o.ran.bridge o.ran.waiting o.ran.next o.ran.free.0 o.answers (drop o.ran.picks o.picked) (drop o.ran.picks o.moments)

-- one outcome after the other, events and picks added up
unfoldable pub joined : Outcome → Outcome → Outcome
joined o o' = record {
  ran = record {
    stop = o'.ran.stop;
    next = o'.ran.next;
    free = o'.ran.free;
    events = o.ran.events + o'.ran.events;
    picks = o.ran.picks + o'.ran.picks;
    bridge = o'.ran.bridge;
    waiting = o'.ran.waiting;
  };
  answers = o'.answers;
  picked = take o.ran.picks o.picked ++ o'.picked;
  moments = take o.ran.picks o.moments ++ o'.moments;
}

-- a run that its budget stopped, and then continued, is the run in one
abbrev pub RunInPieces : Type 0
RunInPieces =
    (i : Input) (n m : ℕ) (s : State) → s.events ≡ 0 → s.picks ≡ 0 → Shaped s.waiting → (run_gives i n s).ran.stop ≡ BudgetSpent →
    run_gives i (n + m) s ≡ joined (run_gives i n s) (run_gives i m (continued (run_gives i n s)))

-- what a run gives is accepted by the run that continues it
abbrev pub ContinuedIsAccepted : Type 0
ContinuedIsAccepted =
    (i : Input) (n m : ℕ) (s : State) → s.picks ≡ 0 → Shaped s.waiting → ((why : Refusal) → (run_gives i n s).ran.stop ≡ Refused why → ⊥) →
    (why : Refusal) → (run_gives i m (continued (run_gives i n s))).ran.stop ≡ Refused why → ⊥
