-- Document 01, 'A run against a line' and 'How tight each guarantee is': a history of calls and runs, in any order, and the calls that it is made of.
-- b is a bridge, x a call, r a run, ss a list of steps.
use Rattle.std.specs.Prelude.{ℕ, ◌-◌, ◌≡◌, List, [], ◌∷◌, ◌++◌}
use Rattle.places.specs.declared.Waiting.{Waiting}
use Rattle.bridge.specs.Tables.{fresh_bridge}
use Rattle.bridge.specs.History.{Call, after_call, after}
use Rattle.bridge.specs.declared.Bridge.{Bridge}
use Rattle.line.specs.Run.{Input, State, Outcome, begun, run_gives}
use Rattle.line.specs.Events.{frames_from}

-- ---- a run on the tables

-- all that a run is given beside the tables: the lists of arrivals and the line rate, the budget, the queues, the starting place, the moment the line is free, and the three lent lists
pub record Run : Type 0 where
  pub input : Input
  pub budget : ℕ
  pub waiting : Waiting
  pub start : ℕ
  pub free : ℕ
  pub answers : List ℕ
  pub picked : List ℕ
  pub moments : List ℕ

-- how it begins, and what it gives
unfoldable pub beginning : Bridge → Run → State
beginning b r = begun b r.waiting r.start r.free r.answers r.picked r.moments

unfoldable pub ran_on : Bridge → Run → Outcome
ran_on b r = run_gives r.input r.budget (beginning b r)

-- the frames of the places that it takes, as calls: from the starting place up to the next arrival's; a run that is refused takes none
unfoldable pub frames_of : Bridge → Run → List Call
frames_of b r = frames_from r.input r.start ((ran_on b r).ran.next - r.start)

-- ---- steps

-- a step of a longer history: a call, or a run
pub data Step : Type 0 where
  call : Call → Step
  run : Run → Step

-- the tables after a step, and the calls that it makes
unfoldable pub after_step : Bridge → Step → Bridge
after_step b (call x) = after_call b x
after_step b (run r) = (ran_on b r).ran.bridge

unfoldable pub calls_of_step : Bridge → Step → List Call
calls_of_step b (call x) = x ∷ []
calls_of_step b (run r) = frames_of b r

-- of one step after the other
unfoldable pub after_steps : Bridge → List Step → Bridge
after_steps b [] = b
after_steps b (s ∷ ss) = after_steps (after_step b s) ss

unfoldable pub calls_of : Bridge → List Step → List Call
calls_of b [] = []
calls_of b (s ∷ ss) = calls_of_step b s ++ calls_of (after_step b s) ss

-- from a fresh start
abbrev pub tables_after : List Step → Bridge
tables_after ss = after_steps fresh_bridge ss

abbrev pub calls_in : List Step → List Call
calls_in ss = calls_of fresh_bridge ss

-- ---- runs are frames

-- the tables after any steps are those after the calls that they make, one after the other
abbrev pub RunsAreFrames : Type 0
RunsAreFrames = (b : Bridge) (ss : List Step) → after_steps b ss ≡ after b (calls_of b ss)
