-- Document 01, 'A run against a line': which event of a run is next, where it stops, and the number of a stop.
-- l is the list of arrival times, k a place in it, m a moment.
use Rattle.std.specs.Prelude.{ℕ, max, Bool, cond, not, ◌&&◌, ◌||◌, Option, Some, None, List, ltb, leb, length, get_or}
use Rattle.quantity.specs.Kinds.{ticks}
use Rattle.quantity.specs.Ranges.{in_range}
use Rattle.quantity.specs.declared.Ticks.{Ticks}
use Rattle.quantity.specs.Numbers.{number_of}
use Rattle.quantity.specs.declared.Item.TheVariants.{PickMoment}
use Rattle.event.specs.declared.Stop.{Stop}
use Rattle.event.specs.declared.Stop.TheVariants.{Done, BudgetSpent, TooLate, PicksFull, Refused}
use Rattle.event.specs.declared.Step.{Step}
use Rattle.event.specs.declared.Step.TheVariants.{Ends, Arrival, Pick}

-- ---- which event is next

-- an arrival, a pick at a moment; or none is left
pub data Event : Type 0 where
  arrival : Event
  pick : ℕ → Event
  none : Event

-- an arrival remains, at place k, and its time is not after m
unfoldable pub arrives_by : List ℕ → ℕ → ℕ → Bool
arrives_by l k m = ltb k (length l) && leb (get_or l k 0) m

-- the next arrival, if one remains and its time is not after the candidate moment m; otherwise the pick at m
unfoldable pub at_candidate : List ℕ → ℕ → ℕ → Event
at_candidate l k m = cond (arrives_by l k m) arrival (pick m)

-- where nothing waits, the next arrival, if one remains; where something waits, the candidate moment is the later of line-free and the smallest waiting time
unfoldable pub next_event : List ℕ → ℕ → ℕ → Option Ticks → Event
next_event l k free None = cond (ltb k (length l)) arrival none
next_event l k free (Some t) = at_candidate l k (max free t.0)

-- ---- where a run stops, with so many events left of its budget: done, budget spent, pick too late, either pick list full

unfoldable pub arrival_step : ℕ → Step
arrival_step left = cond (ltb left 1) (Ends BudgetSpent) Arrival

unfoldable pub pick_step : ℕ → ℕ → ℕ → ℕ → ℕ → Step
pick_step left picks handles moments m =
    cond (ltb left 1) (Ends BudgetSpent)
    (cond (not (in_range PickMoment m)) (Ends TooLate)
    (cond (leb handles picks || leb moments picks) (Ends PicksFull)
    (Pick (ticks m))))

unfoldable pub step_for : ℕ → ℕ → ℕ → ℕ → Event → Step
step_for left picks handles moments none = Ends Done
step_for left picks handles moments arrival = arrival_step left
step_for left picks handles moments (pick m) = pick_step left picks handles moments m

-- ---- the number of a stop

unfoldable pub stop_number : Stop → ℕ
stop_number Done = 0
stop_number BudgetSpent = 3
stop_number TooLate = 27
stop_number PicksFull = 4
stop_number (Refused why) = number_of why
