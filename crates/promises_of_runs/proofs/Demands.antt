-- The statements of specs/Demands.antt, each proved under its name: what is promised of calls, said of the calls that the steps make. Assumes nothing.
use mathlib.Core.Bool.{true}
use mathlib.Core.Path.{◌≡◌, refl, sym, ap, subst}
use mathlib.Core.List.{List, [], ◌∷◌}
use mathlib.Core.Logic.{⊎_elim}
use Prim.Native.Nat.{ℕ, ◌-◌, ◌%◌, ◌^◌, ◌≤◌, ◌<◌}
use native.Mathlib.Omega.{arith}
use lib.ListN.{length, get_or}
use Rattle.quantity.specs.Numbers.{number_of}
use Rattle.quantity.specs.declared.Refusal.TheVariants.{Unsound}
use Rattle.places.specs.Queue.{Shaped}
use Rattle.classes.specs.Soundness.{all_sound}
use Rattle.records.specs.Numbers.{is_set_up}
use Rattle.bridge.specs.Tables.{fresh_bridge, group_at, stream_at}
use Rattle.bridge.specs.Spans.{burst_at, rate_at, eligible, arriving, WithinBurstAndRate}
use Rattle.bridge.specs.History.{Call, after_call, replies, bridge_after}
use Rattle.bridge.specs.declared.Bridge.{Bridge}
use Rattle.event.specs.declared.Stop.{Stop}
use Rattle.line.specs.Run.{Outcome, begun, stopped}
use Rattle.line.specs.Events.{frames_from, numbers}
use Rattle.line.specs.Promises.{Sound, Ran}
use Rattle.line.proofs.Promises as of-run
use Rattle.promises.specs.Demand1 as demand1
use Rattle.promises.specs.Demand2 as demand2
use Rattle.promises.specs.Demand3 as demand3
use Rattle.promises.specs.Independence as alone
use Rattle.promises.specs.Discards as count
use Rattle.promises.proofs.Demand1 as of_calls
use Rattle.promises.proofs.SoundBridges.{SoundBridge, sound_fresh, sound_call, sound_after, sound_reply}
use Rattle.promises.proofs.Demand2.{process_frame_throughout as of_every_call}
use Rattle.promises.proofs.Demand3 as of-history
use Rattle.promises.proofs.Independence as of-groups
use Rattle.promises.proofs.Discards as of-counts
use Rattle.promises_of_runs.specs.Steps.{Run, beginning, ran_on, frames_of, Step, call, run, after_step, tables_after, calls_in}
use Rattle.promises_of_runs.specs.Demands.{history_of, RecordsStaySound, step_number, RefusedChangesNothing, RefusedRunJudgesNothing, NeverUnsound, NineIsNeverWritten, ProcessFrameThroughout, SpanLimit, ConformingArrivals, Independence, DiscardCount}
use Rattle.promises_of_runs.proofs.Steps.{runs_are_frames}
use Rattle.promises_of_runs.proofs.Picks.{numbers_count}
use Rattle.promises_of_runs.proofs.Writing.{no_nine_written}

-- the tables after the steps are those after their calls
tables : (ss : List Step) → bridge_after (calls_in ss) ≡ tables_after ss
tables ss = sym (runs_are_frames fresh_bridge ss)

-- ---- demand 1
pub records_stay_sound : RecordsStaySound
unfolding demand1.RecordsStaySound
records_stay_sound ss = subst (λ (b : Bridge). demand1.SoundRecords b) (tables ss) (of_calls.records_stay_sound (calls_in ss))

-- a run that leaves all as it was takes no place
no_frames : (b : Bridge) (r : Run) (why : Stop) → ran_on b r ≡ stopped why (beginning b r) → frames_of b r ≡ []
unfolding frames_of stopped beginning begun frames_from
no_frames b r why e = let z : r.start - r.start ≡ 0 = omega arith in rw (ap (λ (o : Outcome). o.ran.next) e) (rw z refl)

pub refused_run_judges_nothing : RefusedRunJudgesNothing
unfolding step_number ran_on
refused_run_judges_nothing b r l n =
    let z = of-run.refused_changes_nothing r.input r.budget (beginning b r) l n in
    record { frames = no_frames b r (ran_on b r).ran.stop z.0; gives = z.0; values = z.1 }

pub refused_changes_nothing : RefusedChangesNothing
unfolding demand1.RefusedChangesNothing step_number after_step stopped beginning begun
refused_changes_nothing b (call x) l n = (of_calls.refused_changes_nothing b x l).0
refused_changes_nothing b (run r) l n = ap (λ (o : Outcome). o.ran.bridge) (refused_run_judges_nothing b r l n).gives

pub never_unsound : NeverUnsound
unfolding demand1.NeverUnsound
never_unsound ss = of_calls.never_unsound (calls_in ss)

none_unsound : (b : Bridge) → SoundBridge b → (xs : List Call) → demand1.NoneUnsound (replies b xs)
unfolding demand1.NoneUnsound replies
none_unsound b q [] = tt
none_unsound b q (x ∷ xs) = (sound_reply b q x, none_unsound (after_call b x) (sound_call b q x) xs)

module _ (b : Bridge) (r : Run) (j : ℕ) (q : SoundBridge b) (w : Shaped r.waiting) where
  -- it is so of a run that takes its events
  ran_writes : (o : Ran r.input r.budget (beginning b r) (ran_on b r)) → all_sound r.waiting.times r.waiting.bits r.waiting.fills ≡ true
      → r.start ≤ j → j < o.last.next → get_or o.last.answers j 0 ≡ number_of Unsound → ⊥
  unfolding beginning begun
  ran_writes o s l m e =
      let S : Sound (beginning b r) = record { shaped = w; sound = s } in
      let n = numbers_count o.takes in
      let f = of-run.numbers_of_frames r.input r.budget o.events o.stop (beginning b r) o.last S o.takes in
      let x = (of-run.lists_are_written r.input r.budget o.events o.stop (beginning b r) o.last S o.takes).0 in
      no_nine_written r.answers r.start f (none_unsound b q (frames_from r.input r.start (length (numbers o.takes)))) j l (omega arith) (rw x at e)

  nine_not_written : r.start ≤ j → j < (ran_on b r).ran.next → get_or (ran_on b r).answers j 0 ≡ number_of Unsound → ⊥
  unfolding ran_on stopped beginning begun
  nine_not_written l m e =
      ⊎_elim (λ v. let z = ap (λ (o : Outcome). o.ran.next) v.1 in omega arith)
      (λ v. ran_writes v.1 v.0 l (rw v.1.gives at m) (rw v.1.gives at e)) (of-run.run_is_its_events r.input r.budget (beginning b r))

pub nine_is_never_written : NineIsNeverWritten
nine_is_never_written ss r w j l m e =
    nine_not_written (tables_after ss) r j (subst (λ (b : Bridge). SoundBridge b) (tables ss) (sound_after fresh_bridge sound_fresh (calls_in ss))) w l m e

-- ---- demand 2
pub process_frame_throughout : ProcessFrameThroughout
unfolding demand2.ProcessFrameThroughout
process_frame_throughout ss = of_every_call (calls_in ss)

-- ---- demand 3
pub span_limit : SpanLimit
unfolding demand3.SpanLimit
span_limit ss i = subst (λ (b : Bridge). WithinBurstAndRate (burst_at b i) (rate_at b i) i (eligible (history_of ss))) (tables ss) (of-history.span_limit (calls_in ss) i)

pub conforming_arrivals : ConformingArrivals
unfolding demand3.ConformingArrivals demand3.Conforms
conforming_arrivals ss g h = of-history.conforming_arrivals (calls_in ss) g (subst (λ (b : Bridge). (i : ℕ) → is_set_up (stream_at b i).regulator ≡ true → (stream_at b i).group ≡ g → WithinBurstAndRate (burst_at b i) (rate_at b i) i (arriving (history_of ss))) (runs_are_frames fresh_bridge ss) h)

-- ---- what a group sees, and its count
pub independence : Independence
unfolding alone.Independence
independence ss g = subst (λ (b : Bridge). alone.SameFor b g (calls_in ss) (alone.without_others b g (calls_in ss))) (tables ss) (of-groups.independence (calls_in ss) g)

pub discard_count : DiscardCount
unfolding count.DiscardCount
discard_count ss g = subst (λ (b : Bridge). (group_at b g).discards ≡ count.discards_of g (history_of ss) % 2 ^ 32) (tables ss) (of-counts.discard_count (calls_in ss) g)
