-- The statements of specs/Steps.antt, each proved under its name. Assumes nothing.
use mathlib.Core.Path.{◌≡◌, refl, sym, ap, ◌∙◌}
use mathlib.Core.List.{[], ◌∷◌}
use mathlib.Core.Logic.{⊎_elim}
use Prim.Native.Nat.{◌-◌}
use native.Mathlib.Omega.{arith}
use Rattle.quantity.specs.declared.Refusal.{Refusal}
use Rattle.bridge.specs.History.{after}
use Rattle.bridge.specs.declared.Bridge.{Bridge}
use Rattle.event.specs.declared.Stop.TheVariants.{Refused}
use Rattle.line.specs.Run.{Outcome, begun, stopped}
use Rattle.line.specs.Events.{frames_from}
use Rattle.line.specs.Promises.{Ran}
use Rattle.line.proofs.Promises.{run_is_its_events, history_of_frames}
use Rattle.promises_of_runs.specs.Steps.{Run, beginning, ran_on, frames_of, Step, call, run, after_step, calls_of_step, after_steps, calls_of, RunsAreFrames}
use Rattle.promises_of_runs.proofs.Lists.{after_append}

-- what a run gives, with its count of places
abbrev TakenFrom : Bridge → Run → Outcome → Type 0
TakenFrom b r o = o.ran.bridge ≡ after b (frames_from r.input r.start (o.ran.next - r.start))

module _ (b : Bridge) (r : Run) where
  -- a run that is refused leaves the tables and takes no place
  refused_taken : (why : Refusal) → TakenFrom b r (stopped (Refused why) (beginning b r))
  unfolding stopped beginning begun after frames_from
  refused_taken why = let z : r.start - r.start ≡ 0 = omega arith in rw z refl

  ran_taken : (o : Ran r.input r.budget (beginning b r) (ran_on b r)) → TakenFrom b r (stopped o.stop o.last)
  unfolding stopped beginning begun
  ran_taken o =
      let h = history_of_frames r.input r.budget o.events o.stop (beginning b r) o.last o.takes in
      let y = h.1.0 in
      let z : o.last.next - r.start ≡ h.0 = omega arith in
      rw z h.1.1

  pub run_is_frames : (ran_on b r).ran.bridge ≡ after b (frames_of b r)
  unfolding frames_of ran_on
  run_is_frames = ⊎_elim (λ v. rw v.1 (refused_taken v.0)) (λ v. rw v.1.gives (ran_taken v.1)) (run_is_its_events r.input r.budget (beginning b r))

pub step_is_calls : (b : Bridge) (s : Step) → after_step b s ≡ after b (calls_of_step b s)
unfolding after_step calls_of_step after
step_is_calls b (call x) = refl
step_is_calls b (run r) = run_is_frames b r

pub runs_are_frames : RunsAreFrames
unfolding after_steps calls_of after
runs_are_frames b [] = refl
runs_are_frames b (s ∷ ss) =
    runs_are_frames (after_step b s) ss ∙ ap (λ (c : Bridge). after c (calls_of (after_step b s) ss)) (step_is_calls b s) ∙ sym (after_append b (calls_of_step b s) (calls_of (after_step b s) ss))
