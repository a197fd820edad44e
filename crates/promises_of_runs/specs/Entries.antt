-- Document 01, 'A run against a line' and demand 3: what enters the queues in a run are released frames of the history, and the span limit said of entries.
-- i is a run's input, s a state, t a run taken event by event; b is a bridge, xs a list of calls, h what enters a class, f a frame, r a run, ss a list of steps.
use Rattle.std.specs.Prelude.{ℕ, zero, suc, ◌≡◌, Ok, Err, List, [], ◌∷◌, ◌++◌, length, get_or}
use Rattle.quantity.specs.Numbers.{number_of}
use Rattle.quantity.specs.declared.Refusal.TheVariants.{ClassFull}
use Rattle.bridge.specs.Tables.{fresh_bridge, group_at}
use Rattle.bridge.specs.History.{Call, reply, after_call, Frame, released, outcome}
use Rattle.bridge.specs.Spans.{Sent, burst_at, rate_at, WithinBurstAndRate}
use Rattle.bridge.specs.declared.Bridge.{Bridge}
use Rattle.event.specs.declared.Stop.{Stop}
use Rattle.event.specs.declared.Step.{Step as Next}
use Rattle.event.specs.declared.Step.TheVariants.{Ends, Arrival, Pick}
use Rattle.line.specs.Run.{Input, State, step, arrived, picked_at, Start, start_at}
use Rattle.line.specs.Events.{Takes, frames_from, numbers, entering, entrances}
use Rattle.line.specs.Promises.{Sound}
use Rattle.line.specs.declared.Handed.{Handed}
use Rattle.promises_of_runs.specs.Steps.{Run, beginning, frames_of, Step, call, run, after_step, tables_after}

-- ---- entries and frames

-- the entry is the frame's: at its handle's place of the list stands the frame's stream, its time is the frame's eligibility time T, its bits are the frame's charged bits, its class is that of the frame's group
pub record EntryOf (i : Input) (b : Bridge) (h : Handed) (f : Frame) : Type 0 where
  pub stream : get_or i.ids h.entry.handle 0 ≡ f.stream
  pub time : h.entry.time.0 ≡ f.time
  pub bits : h.entry.bits.0 ≡ f.bits
  pub class : h.class ≡ (group_at b f.group).class

-- the entries are, in order, those of some released frames of the calls, each by the tables that the calls before it left
pub data Among (i : Input) : Bridge → List Call → List Handed → Type 0 where
  none : {b : Bridge} → Among i b [] []
  enters : {b : Bridge} {x : Call} {xs : List Call} {h : Handed} {hs : List Handed} (f : Frame) → outcome b x ≡ released f ∷ [] → EntryOf i b h f → Among i (after_call b x) xs hs → Among i b (x ∷ xs) (h ∷ hs)
  passes : {b : Bridge} {x : Call} {xs : List Call} {hs : List Handed} → Among i (after_call b x) xs hs → Among i b (x ∷ xs) hs

-- what enters in a run are released frames of the places that it takes
abbrev pub EntriesAreReleased : Type 0
EntriesAreReleased = (i : Input) (left k : ℕ) (why : Stop) (s s' : State) (t : Takes i left s k why s') → Among i s.bridge (frames_from i s.next (length (numbers t))) (entrances t)

-- what becomes of each frame, by the tables that those before it left: its number, and what enters. A released one finds room in its class and enters, with 0, or finds it full and gets 22; any other gets its own number
pub data Settles (i : Input) : Bridge → List Call → List ℕ → List Handed → Type 0 where
  done : {b : Bridge} → Settles i b [] [] []
  room : {b : Bridge} {x : Call} {n : ℕ} {xs : List Call} {ns : List ℕ} {h : Handed} {hs : List Handed} (f : Frame) → outcome b x ≡ released f ∷ [] → n ≡ 0 → EntryOf i b h f → Settles i (after_call b x) xs ns hs → Settles i b (x ∷ xs) (n ∷ ns) (h ∷ hs)
  full : {b : Bridge} {x : Call} {n : ℕ} {xs : List Call} {ns : List ℕ} {hs : List Handed} (f : Frame) → outcome b x ≡ released f ∷ [] → n ≡ number_of ClassFull → Settles i (after_call b x) xs ns hs → Settles i b (x ∷ xs) (n ∷ ns) hs
  other : {b : Bridge} {x : Call} {n : ℕ} {xs : List Call} {ns : List ℕ} {hs : List Handed} → ((f : Frame) → outcome b x ≡ released f ∷ [] → ⊥) → n ≡ (reply b x).number → Settles i (after_call b x) xs ns hs → Settles i b (x ∷ xs) (n ∷ ns) hs

-- so it is of each frame that a run takes, where its queues are sound
abbrev pub EachFrameSettles : Type 0
EachFrameSettles = (i : Input) (left k : ℕ) (why : Stop) (s s' : State) → Sound s → (t : Takes i left s k why s') → Settles i s.bridge (frames_from i s.next (length (numbers t))) (numbers t) (entrances t)

-- ---- the entries of a run, as a list

-- what enters at a step of a run and after it
unfoldable pub entering_after : Input → State → Next → (State → List Handed) → List Handed
entering_after i s (Ends why) more = []
entering_after i s Arrival more = entering i s ++ more (arrived i s)
entering_after i s (Pick m) more = more (picked_at i s m.0)

-- event by event, with so many left of the budget
unfoldable pub entering_for : Input → ℕ → State → List Handed
entering_for i zero s = []
entering_for i (suc left) s = entering_after i s (step i (suc left) s) (entering_for i left)

-- they are the entrances of its events
abbrev pub EnteringIsEntrances : Type 0
EnteringIsEntrances = (i : Input) (left k : ℕ) (why : Stop) (s s' : State) (t : Takes i left s k why s') → entering_for i left s ≡ entrances t

-- nothing enters where the run is refused
unfoldable pub entered_by : Input → ℕ → State → Start → List Handed
entered_by i budget s (Ok runs) = entering_for i budget s
entered_by i budget s (Err why) = []

unfoldable pub entered_in : Bridge → Run → List Handed
entered_in b r = entered_by r.input r.budget (beginning b r) (start_at r.input (beginning b r))

-- what enters in a run are released frames of the calls that it makes
abbrev pub RunEntersReleased : Type 0
RunEntersReleased = (b : Bridge) (r : Run) → Among r.input b (frames_of b r) (entered_in b r)

-- ---- the span limit of entries

-- the bits of what enters, each at its time, and of the stream that stands at its handle's place
unfoldable pub sent_by : Input → Handed → Sent
sent_by i h = record { stream = get_or i.ids h.entry.handle 0; bits = h.entry.bits.0; tick = h.entry.time.0 }

unfoldable pub sent_of : Input → List Handed → List Sent
sent_of i [] = []
sent_of i (h ∷ hs) = sent_by i h ∷ sent_of i hs

-- over all runs of a list of steps, in order
unfoldable pub entered_through : Bridge → List Step → List Sent
entered_through b [] = []
entered_through b (call x ∷ ss) = entered_through (after_step b (call x)) ss
entered_through b (run r ∷ ss) = sent_of r.input (entered_in b r) ++ entered_through (after_step b (run r)) ss

-- from a fresh start: whatever arrives in whatever runs, the bits of one stream that enter the queues with a time within any span never exceed its burst plus its rate times the span
abbrev pub EntriesWithinBurstAndRate : Type 0
EntriesWithinBurstAndRate = (ss : List Step) (i : ℕ) → WithinBurstAndRate (burst_at (tables_after ss) i) (rate_at (tables_after ss) i) i (entered_through fresh_bridge ss)
