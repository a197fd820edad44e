-- Demands 1 to 3, 'One frame through a scheduler' and 'How tight each guarantee is' of document 01, over any list of calls and runs from a fresh start.
-- b is a bridge, s a step, ss a list of steps, r a run, i a stream, g a group, j a place of the answer list.
use Rattle.std.specs.Prelude.{ℕ, ◌%◌, ◌^◌, ◌≤◌, ◌<◌, ◌≡◌, true, List, [], get_or}
use Rattle.quantity.specs.Numbers.{number_of, least_refusal}
use Rattle.quantity.specs.declared.Refusal.TheVariants.{Unsound}
use Rattle.records.specs.Numbers.{is_set_up}
use Rattle.places.specs.Queue.{Shaped}
use Rattle.bridge.specs.Tables.{fresh_bridge, group_at, stream_at}
use Rattle.bridge.specs.History.{Outcome, reply, replies, history}
use Rattle.bridge.specs.Spans.{burst_at, rate_at, eligible, arriving, WithinBurstAndRate}
use Rattle.bridge.specs.declared.Bridge.{Bridge}
use Rattle.event.specs.Next.{stop_number}
use Rattle.event.specs.declared.Stop.TheVariants.{TooLate}
use Rattle.line.specs.Run.{stopped, ran_values}
use Rattle.promises.specs.Demand1.{SoundRecords, NoneUnsound}
use Rattle.promises.specs.Demand2.{EachByProcessFrame}
use Rattle.promises.specs.Demand3.{EligibleOnArrival, EachOf}
use Rattle.promises.specs.Independence.{SameFor, without_others}
use Rattle.promises.specs.Discards.{discards_of}
use Rattle.promises_of_runs.specs.Steps.{Run, beginning, ran_on, frames_of, Step, call, run, after_step, tables_after, calls_in}

-- the judged frames of a list of steps: those of its calls and those of its runs, in order
abbrev pub history_of : List Step → List Outcome
history_of ss = history (calls_in ss)

-- ---- demand 1

-- every record stays sound
abbrev pub RecordsStaySound : Type 0
RecordsStaySound = (ss : List Step) → SoundRecords (tables_after ss)

-- the number that a step answers: a call's, or the one that a run stops with
unfoldable pub step_number : Bridge → Step → ℕ
step_number b (call x) = (reply b x).number
step_number b (run r) = stop_number (ran_on b r).ran.stop

-- a number from 9 up, but for 27, leaves the tables
abbrev pub RefusedChangesNothing : Type 0
RefusedChangesNothing = (b : Bridge) (s : Step) → least_refusal ≤ step_number b s → (step_number b s ≡ stop_number TooLate → ⊥) → after_step b s ≡ b

-- a run that is refused judges no frame, leaves the queues and the lent lists too, and gives no value
pub record Refused (b : Bridge) (r : Run) : Type 0 where
  pub frames : frames_of b r ≡ []
  pub gives : ran_on b r ≡ stopped (ran_on b r).ran.stop (beginning b r)
  pub values : ran_values (ran_on b r).ran ≡ []

abbrev pub RefusedRunJudgesNothing : Type 0
RefusedRunJudgesNothing = (b : Bridge) (r : Run) → least_refusal ≤ step_number b (run r) → (step_number b (run r) ≡ stop_number TooLate → ⊥) → Refused b r

-- no call, and no frame of a run, ever answers 9
abbrev pub NeverUnsound : Type 0
NeverUnsound = (ss : List Step) → NoneUnsound (replies fresh_bridge (calls_in ss))

-- and so no run writes 9 at a place of the answer list, whatever steps came before it and whatever it is given
abbrev pub NineIsNeverWritten : Type 0
NineIsNeverWritten =
    (ss : List Step) (r : Run) → Shaped r.waiting →
    (j : ℕ) → r.start ≤ j → j < (ran_on (tables_after ss) r).ran.next → get_or (ran_on (tables_after ss) r).answers j 0 ≡ number_of Unsound → ⊥

-- ---- demand 2

-- each frame is refused, or its answer and its two records are ProcessFrame's
abbrev pub ProcessFrameThroughout : Type 0
ProcessFrameThroughout = (ss : List Step) → EachByProcessFrame fresh_bridge (calls_in ss)

-- ---- demand 3

-- first half: whatever arrives, the bits of one stream that become eligible within any span never exceed its burst plus its rate times the span
abbrev pub SpanLimit : Type 0
SpanLimit = (ss : List Step) (i : ℕ) → WithinBurstAndRate (burst_at (tables_after ss) i) (rate_at (tables_after ss) i) i (eligible (history_of ss))

-- every judged frame of group g arrives within its stream's burst and rate: said of arrivals alone
abbrev pub Conforming : List Step → ℕ → Type 0
Conforming ss g = (i : ℕ) → is_set_up (stream_at (tables_after ss) i).regulator ≡ true → (stream_at (tables_after ss) i).group ≡ g → WithinBurstAndRate (burst_at (tables_after ss) i) (rate_at (tables_after ss) i) i (arriving (history_of ss))

-- second half: where every frame that a group judges arrives within its stream's burst and rate, each is eligible at the moment it arrives and none is discarded, whatever the other groups send
abbrev pub ConformingArrivals : Type 0
ConformingArrivals = (ss : List Step) (g : ℕ) → Conforming ss g → EachOf g EligibleOnArrival (history_of ss)

-- ---- what a group sees, and its count

-- a group's answers and records are those of the history with every other group's frames left out
abbrev pub Independence : Type 0
Independence = (ss : List Step) (g : ℕ) → SameFor (tables_after ss) g (calls_in ss) (without_others (tables_after ss) g (calls_in ss))

-- the discard count of a group is that of the history; 4,294,967,295 is followed by 0
abbrev pub DiscardCount : Type 0
DiscardCount = (ss : List Step) (g : ℕ) → (group_at (tables_after ss) g).discards ≡ discards_of g (history_of ss) % 2 ^ 32
