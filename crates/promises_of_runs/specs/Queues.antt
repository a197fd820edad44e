-- Document 01, 'Waiting and picking' and 'A run against a line': the queues through entering, picking and runs, from empty on.
-- w is the queues, b a bridge, r a run, c a class, e an entry, m a moment.
use Rattle.std.specs.Prelude.{ℕ, ◌≡◌, true}
use Rattle.quantity.specs.Numbers.{number_of}
use Rattle.quantity.specs.declared.Refusal.TheVariants.{Unsound}
use Rattle.places.specs.Queue.{nothing, Shaped}
use Rattle.places.specs.declared.Entry.{Entry}
use Rattle.places.specs.declared.Waiting.{Waiting}
use Rattle.classes.specs.Calls.{enter_gives, pick_gives}
use Rattle.classes.specs.Soundness.{all_sound}
use Rattle.waiting.specs.Answers.{entered_number, picked_number}
use Rattle.waiting.specs.Promises as of_calls
use Rattle.bridge.specs.declared.Bridge.{Bridge}
use Rattle.event.specs.Next.{stop_number}
use Rattle.promises_of_runs.specs.Steps.{Run, ran_on}

-- the queues have the lengths that the code gives them, and are sound
abbrev pub ShapedAndSound : Waiting → Type 0
ShapedAndSound w = Shaped w × (all_sound w.times w.bits w.fills ≡ true)

-- a run leaves sound queues sound, whatever the tables are and whatever else it is given
abbrev pub RunKeepsQueues : Type 0
RunKeepsQueues = (b : Bridge) (r : Run) → ShapedAndSound r.waiting → ShapedAndSound (ran_on b r).ran.waiting

-- queues reached from the empty ones by entering, picking and runs, each run on any tables
pub data Reached : Waiting → Type 0 where
  start : Reached nothing
  entering : {w : Waiting} → Reached w → (c : ℕ) (e : Entry) → Reached (enter_gives w c e).waiting
  picking : {w : Waiting} → Reached w → (m : ℕ) → Reached (pick_gives w m).waiting
  running : (b : Bridge) (r : Run) → Reached r.waiting → Reached (ran_on b r).ran.waiting

-- a run takes the queues nowhere that entering and picking would not
abbrev pub RunsReachNothingElse : Type 0
RunsReachNothingElse = (w : Waiting) → Reached w → of_calls.Reached w

-- what is reached from empty is sound
abbrev pub ReachedIsSound : Type 0
ReachedIsSound = (w : Waiting) → Reached w → ShapedAndSound w

-- from empty on, no entering, no pick and no run answers 9, whatever it is given
pub record NeverNine (w : Waiting) : Type 0 where
  pub entering : (c : ℕ) (e : Entry) → entered_number (enter_gives w c e).answer ≡ number_of Unsound → ⊥
  pub picking : (m : ℕ) → picked_number (pick_gives w m).answer ≡ number_of Unsound → ⊥
  pub running : (b : Bridge) (r : Run) → r.waiting ≡ w → stop_number (ran_on b r).ran.stop ≡ number_of Unsound → ⊥

abbrev pub ReachedIsNeverRefused : Type 0
ReachedIsNeverRefused = (w : Waiting) → Reached w → NeverNine w
