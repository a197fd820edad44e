-- Document 01, 'A run against a line': a run as the events that it takes, and what happens in it: numbers given, entries that enter, entries that leave.
-- i is a run's input, s a state, k a count of events, t a run taken event by event.
use Rattle.std.specs.Prelude.{ℕ, zero, suc, ◌+◌, ◌≡◌, Bool, cond, Ok, Err, List, [], ◌∷◌, ◌++◌, eqb, get_or, set}
use Rattle.quantity.specs.declared.Ticks.{Ticks}
use Rattle.records.specs.declared.Group.{Group}
use Rattle.records.specs.declared.Answer.{Answer}
use Rattle.records.specs.declared.Answer.TheVariants.{Released, Discarded, Refused as FrameRefused}
use Rattle.classes.specs.Calls.{Entered, enter_gives, pick_gives}
use Rattle.places.specs.declared.Waiting.{Waiting}
use Rattle.places.specs.declared.Entry.{Entry}
use Rattle.places.specs.declared.Picked.{Picked}
use Rattle.places.specs.declared.Picked.TheVariants.{Leaves, Nothing, Refused as NotPicked}
use Rattle.bridge.specs.History.{Call, frame}
use Rattle.event.specs.declared.Stop.{Stop}
use Rattle.event.specs.declared.Step.TheVariants.{Ends, Arrival, Pick}
use Rattle.line.specs.Run.{Input, State, step, handed, frame_at, group_of, settled_at, arrived, picked_at}
use Rattle.line.specs.declared.Handed.{Handed}

-- ---- event by event

-- from the state s, with so many left of the budget, a run takes k events and stops in the state s'
pub data Takes (i : Input) : ℕ → State → ℕ → Stop → State → Type 0 where
  stops : {left : ℕ} {s : State} {why : Stop} → step i left s ≡ Ends why → Takes i left s 0 why s
  arrives : {left k : ℕ} {s s' : State} {why : Stop} → step i (suc left) s ≡ Arrival → Takes i left (arrived i s) k why s' → Takes i (suc left) s (suc k) why s'
  picks : {left k : ℕ} {s s' : State} {why : Stop} (m : Ticks) → step i (suc left) s ≡ Pick m → Takes i left (picked_at i s m.0) k why s' → Takes i (suc left) s (suc k) why s'

-- ---- the frames of the list, as calls on the bridge

unfoldable pub frame_call : Input → ℕ → Call
frame_call i k = frame (get_or i.ids k 0) (get_or i.octets k 0) (get_or i.arrivals k 0)

-- those of n places from k on, in list order
unfoldable pub frames_from : Input → ℕ → ℕ → List Call
frames_from i k zero = []
frames_from i k (suc n) = frame_call i k ∷ frames_from i (k + 1) n

-- ---- what happens in a run

-- the number given to each frame taken, in list order
unfoldable pub numbers : {i : Input} {left : ℕ} {s : State} {k : ℕ} {why : Stop} {s' : State} → Takes i left s k why s' → List ℕ
numbers (stops e) = []
numbers {i} (arrives {s = s} e t) = (settled_at i s).number ∷ numbers t
numbers (picks m e t) = numbers t

-- what enters its class, of a frame that was answered
unfoldable pub entering_by : Handed → Entered → List Handed
entering_by h (Ok done) = h ∷ []
entering_by h (Err why) = []

unfoldable pub entering_of : Waiting → Group → ℕ → ℕ → Answer → List Handed
entering_of w g k n (Released T) = entering_by (handed g k n T.0) (enter_gives w (handed g k n T.0).class (handed g k n T.0).entry).answer
entering_of w g k n (Discarded T) = []
entering_of w g k n (FrameRefused why) = []

unfoldable pub entering : Input → State → List Handed
entering i s = entering_of s.waiting (group_of i s.bridge s.next) s.next (get_or i.octets s.next 0) (frame_at i s.bridge s.next).answer

-- the entries that enter in a run, each with its class, in order
unfoldable pub entrances : {i : Input} {left : ℕ} {s : State} {k : ℕ} {why : Stop} {s' : State} → Takes i left s k why s' → List Handed
entrances (stops e) = []
entrances {i} (arrives {s = s} e t) = entering i s ++ entrances t
entrances (picks m e t) = entrances t

-- an entry that leaves for the line: its class, the entry and the moment
pub record Departure : Type 0 where
  pub class : ℕ
  pub entry : Entry
  pub moment : ℕ

unfoldable pub leaving : ℕ → Picked → List Departure
leaving m (Leaves c e) = record { class = c; entry = e; moment = m } ∷ []
leaving m Nothing = []
leaving m (NotPicked why) = []

-- the entries that leave in a run, in order
unfoldable pub departures : {i : Input} {left : ℕ} {s : State} {k : ℕ} {why : Stop} {s' : State} → Takes i left s k why s' → List Departure
departures (stops e) = []
departures (arrives e t) = departures t
departures (picks {s = s} m e t) = leaving m.0 (pick_gives s.waiting m.0).answer ++ departures t

-- ---- lists of what happened

unfoldable pub handles_of : List Departure → List ℕ
handles_of [] = []
handles_of (d ∷ ds) = d.entry.handle ∷ handles_of ds

unfoldable pub moments_of : List Departure → List ℕ
moments_of [] = []
moments_of (d ∷ ds) = d.moment ∷ moments_of ds

-- the list l with the numbers xs written from place k on
unfoldable pub written : List ℕ → ℕ → List ℕ → List ℕ
written l k [] = l
written l k (x ∷ xs) = written (set l k x) (k + 1) xs

-- what entered class c, and what left it
unfoldable pub entered_into : ℕ → List Handed → List Entry
entered_into c [] = []
entered_into c (h ∷ hs) = cond (eqb h.class c) (h.entry ∷ entered_into c hs) (entered_into c hs)

unfoldable pub left_from : ℕ → List Departure → List Entry
left_from c [] = []
left_from c (d ∷ ds) = cond (eqb d.class c) (d.entry ∷ left_from c ds) (left_from c ds)

-- how many entries of a list pass a test
unfoldable pub count : (Entry → Bool) → List Entry → ℕ
count p [] = 0
count p (e ∷ es) = cond (p e) 1 0 + count p es

-- the handles of what entered
unfoldable pub entered_handles : List Handed → List ℕ
entered_handles [] = []
entered_handles (h ∷ hs) = h.entry.handle ∷ entered_handles hs

-- the places, counted from k on, whose number is 0
unfoldable pub zeros_from : ℕ → List ℕ → List ℕ
zeros_from k [] = []
zeros_from k (x ∷ xs) = cond (eqb x 0) (k ∷ zeros_from (k + 1) xs) (zeros_from (k + 1) xs)
