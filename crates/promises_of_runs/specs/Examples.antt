-- Document 01's figures in steps that meet the premises of the promises of runs: set-up calls, runs that take all their frames, and one that is refused.
-- A yard of one group and one stream with document 01's figures; ss is what follows its set-up.
use Rattle.std.specs.Prelude.{ℕ, ◌≤◌, ◌≡◌, List, [], ◌∷◌, replicate}
use Rattle.quantity.specs.Numbers.{least_refusal}
use Rattle.places.specs.Queue.{nothing}
use Rattle.bridge.specs.Tables.{fresh_bridge}
use Rattle.bridge.specs.History.{group, stream}
use Rattle.bridge.specs.Spans.{Sent}
use Rattle.event.specs.Next.{stop_number}
use Rattle.event.specs.declared.Stop.TheVariants.{TooLate}
use Rattle.promises.specs.Examples.{two, three, three_judged}
use Rattle.promises_of_runs.specs.Steps.{Run, ran_on, Step, call, run, tables_after, calls_in}
use Rattle.promises_of_runs.specs.Demands.{history_of, step_number, Conforming}
use Rattle.promises_of_runs.specs.Queues.{Reached}
use Rattle.promises_of_runs.specs.Entries.{entered_through}

-- group 0 of class 6 with a residence limit of 224,000, stream 0 in it with rate 9,000,000 and burst 1,344
abbrev pub yard_steps : List Step → List Step
yard_steps ss = call (group 0 6 224_000) ∷ call (stream 0 0 9_000_000 1_344) ∷ ss

-- n frames of 64 octets at tick 0, of which m have their octets in the list, on a line of 1,000,000,000 bits a second, from empty queues; each place of the lent lists holds 99 until something is written
abbrev pub at_once : ℕ → ℕ → Run
at_once n m = record {
  input = record { arrivals = replicate n 0; ids = replicate n 0; octets = replicate m 64; rate = 1_000_000_000 };
  budget = 10;
  waiting = nothing;
  start = 0;
  free = 0;
  answers = replicate n 99;
  picked = replicate n 99;
  moments = replicate n 99;
}

-- with two of its three octets a run is refused; with all of them it takes its frames
abbrev pub evening : List Step
evening = yard_steps (run (at_once 3 2) ∷ run (at_once 3 3) ∷ [])

-- two frames fit the burst
abbrev pub calm_evening : List Step
calm_evening = yard_steps (run (at_once 2 2) ∷ [])

-- so many bits of stream 0 at a tick
abbrev pub sent_at : ℕ → Sent
sent_at T = record { stream = 0; bits = 672; tick = T }

pub record RunExamples : Type 0 where
  -- the calls that the steps make are the set-up and the three frames, and so their judged frames are those of the three calls
  pub calls : calls_in evening ≡ three
  pub judged : history_of evening ≡ three_judged
  -- all three enter, each at its own eligibility time
  pub entered : entered_through fresh_bridge evening ≡ sent_at 0 ∷ sent_at 0 ∷ sent_at 74_667 ∷ []
  -- where two arrive, they arrive within burst and rate
  pub calm_calls : calls_in calm_evening ≡ two
  pub conforming : Conforming calm_evening 0
  -- the queues that such a run leaves are reached
  pub reached : Reached (ran_on (tables_after (yard_steps [])) (at_once 3 3)).ran.waiting
  -- the premises of a refusal: 28 is from 9 up, and is not 27
  pub refused : least_refusal ≤ step_number (tables_after (yard_steps [])) (run (at_once 3 2))
  pub not_27 : step_number (tables_after (yard_steps [])) (run (at_once 3 2)) ≡ stop_number TooLate → ⊥
