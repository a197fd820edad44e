-- Runs at which the premises of the promises of `line` hold: one that comes to its end, one for each other stop, one where a frame gets 22, and two that are refused.
-- The tables are those of document 01's figures: group 0 of class 6 with a residence limit of 224,000, and stream 0 in it with rate 9,000,000 and burst 1,344.
use Rattle.std.specs.Prelude.{ℕ, ◌≤◌, ◌≡◌, [], ◌∷◌, ◌++◌, replicate}
use Rattle.quantity.specs.Numbers.{least_refusal}
use Rattle.quantity.specs.declared.Refusal.{Refusal}
use Rattle.places.specs.Queue.{all_places, lists, nothing, Shaped}
use Rattle.places.specs.declared.Waiting.{Waiting}
use Rattle.bridge.specs.History.{bridge_after}
use Rattle.bridge.specs.declared.Bridge.{Bridge}
use Rattle.event.specs.Next.{stop_number}
use Rattle.event.specs.declared.Stop.{Stop}
use Rattle.event.specs.declared.Stop.TheVariants.{Done, BudgetSpent, TooLate, PicksFull, Refused}
use Rattle.line.specs.Run.{Input, State, begun, run_gives, ran_values}
use Rattle.line.specs.Events.{Takes}
use Rattle.line.specs.Promises.{Sound, continued}
use Rattle.promises.specs.Examples.{yard}

abbrev pub tables : Bridge
tables = bridge_after (yard [])

-- three frames of 64 octets of stream 0 arrive at one tick; the line sends 1,000,000,000 bits a second, so 672 ticks for each
abbrev pub three_frames : ℕ → Input
three_frames arrival = record { arrivals = replicate 3 arrival; ids = replicate 3 0; octets = replicate 3 64; rate = 1_000_000_000 }

-- the same with two lengths for three frames, and on a line of rate 0
abbrev pub unequal_lists : Input
unequal_lists = record { arrivals = replicate 3 0; ids = replicate 3 0; octets = replicate 2 64; rate = 1_000_000_000 }

abbrev pub no_line : Input
no_line = record { arrivals = replicate 3 0; ids = replicate 3 0; octets = replicate 3 64; rate = 0 }

-- 32 entries of class 6 wait, each with the time 0 and 672 charged bits
abbrev pub class_six_full : Waiting
class_six_full = lists (replicate all_places 0) (replicate all_places 0) (replicate all_places 672) (replicate 6 0 ++ (32 ∷ 0 ∷ []))

-- at the first place, with the line free from tick 0 on, a place for each answer, which holds 99 until one is written, and so many places for picks
abbrev pub beginning : Waiting → ℕ → State
beginning waiting places = begun tables waiting 0 0 (replicate 3 99) (replicate places 99) (replicate places 99)

-- a run takes so many events and stops there
abbrev pub Stops : Input → ℕ → State → ℕ → Stop → Type 0
Stops i budget s events why = (last : State) × Takes i budget s events why last

pub record LineExamples : Type 0 where
  -- the premises of all that is promised of a run's events: the queues are sound, and the run takes its events and stops
  pub sound : Sound (beginning nothing 3)
  -- three arrivals and three picks, and it is done: the first two frames are eligible at once, the third at 74,667
  pub done : Stops (three_frames 0) 10 (beginning nothing 3) 6 Done
  pub answers : (run_gives (three_frames 0) 10 (beginning nothing 3)).answers ≡ 0 ∷ 0 ∷ 0 ∷ []
  pub picked : (run_gives (three_frames 0) 10 (beginning nothing 3)).picked ≡ 0 ∷ 1 ∷ 2 ∷ []
  pub moments : (run_gives (three_frames 0) 10 (beginning nothing 3)).moments ≡ 0 ∷ 672 ∷ 74_667 ∷ []
  pub done_values : ran_values (run_gives (three_frames 0) 10 (beginning nothing 3)).ran ≡ 3 ∷ 75_339 ∷ 6 ∷ 3 ∷ []
  -- a budget of 4 is spent after one pick
  pub budget_spent : Stops (three_frames 0) 4 (beginning nothing 3) 4 BudgetSpent
  -- OtherPlacesStay: it does not reach the last place for picks
  pub not_reached : budget_spent.0.picks ≤ 2
  -- two places for picks are full before the third
  pub two_places : Sound (beginning nothing 2)
  pub picks_full : Stops (three_frames 0) 10 (beginning nothing 2) 5 PicksFull
  -- three frames at the last tick that an arrival may have: one is picked, and the second would be picked too late
  pub too_late : Stops (three_frames 4_000_000_000_000_000_000) 10 (beginning nothing 3) 4 TooLate
  pub late_values : ran_values (run_gives (three_frames 4_000_000_000_000_000_000) 10 (beginning nothing 3)).ran ≡ 3 ∷ 4_000_000_000_000_000_672 ∷ 4 ∷ 1 ∷ []
  -- 32 entries of class 6 wait already: the first frame is released, and gets 22
  pub full_sound : Sound (beginning class_six_full 3)
  pub one_more : Stops (three_frames 0) 1 (beginning class_six_full 3) 1 BudgetSpent
  pub gets_22 : one_more.0.answers ≡ 22 ∷ 99 ∷ 99 ∷ []
  -- RunInPieces: the budget of 4 stops the run, and two events more end it
  pub no_events : (beginning nothing 3).events ≡ 0
  pub no_picks : (beginning nothing 3).picks ≡ 0
  pub shaped : Shaped (beginning nothing 3).waiting
  pub first_piece : (run_gives (three_frames 0) 4 (beginning nothing 3)).ran.stop ≡ BudgetSpent
  pub second_piece : (run_gives (three_frames 0) 2 (continued (run_gives (three_frames 0) 4 (beginning nothing 3)))).ran.stop ≡ Done
  -- ContinuedIsAccepted: the first piece is not refused
  pub accepted : (why : Refusal) → (run_gives (three_frames 0) 4 (beginning nothing 3)).ran.stop ≡ Refused why → ⊥
  -- RefusedChangesNothing: 28 for lists of unequal length, 29 for a line of rate 0
  pub refused_28 : stop_number (run_gives unequal_lists 10 (beginning nothing 3)).ran.stop ≡ 28
  pub refused_29 : stop_number (run_gives no_line 10 (beginning nothing 3)).ran.stop ≡ 29
  pub from_9_up : least_refusal ≤ stop_number (run_gives unequal_lists 10 (beginning nothing 3)).ran.stop
  pub not_27 : stop_number (run_gives unequal_lists 10 (beginning nothing 3)).ran.stop ≡ stop_number TooLate → ⊥
