-- The examples, proved by what the definitions give. Assumes nothing.
use mathlib.Core.Path.{◌≡◌, refl, sym, ◌∙◌, subst}
use mathlib.Core.Bool.{true}
use mathlib.Core.List.{List, [], ◌∷◌}
use Prim.Native.Nat.{ℕ}
use native.Mathlib.Omega.{arith}
use Rattle.quantity.specs.Ranges.{in_range}
use Rattle.quantity.specs.Charge.{charged_bits}
use Rattle.records.specs.ExactTime.{exactly, moment_of, rounded_up, E_first}
use Rattle.records.specs.Sound.{sound_group, sound_regulator, sound}
use Rattle.setup.specs.SetUp.{fresh_group, fresh_stream, group_set_up, stream_set_up}
use Rattle.admission.specs.Tests.{above_burst, tested}
use Rattle.shaper.specs.Frame.{S, F, E_after, earliest, after_release, eligibility_time, released, settled, process_frame}
use Rattle.shaper.specs.Numbers.{after_tests, judged}
use Rattle.calls.specs.Calls.{taken, group_placed, stream_placed, judged_at}
use Rattle.places.specs.Queue.{nothing, count_of, entry_at}
use Rattle.places.specs.Places.{with_last, has_room, moved, closed, without, take_gives}
use Rattle.firsts.specs.Firsts.{part, first_from, first_in, first_of, smaller, smallest_below, smallest_of}
use Rattle.classes.specs.Soundness.{every, entry_sound, sound_at, class_sound, all_sound}
use Rattle.classes.specs.Calls.{not_entered, enter_gives, due_or, due_below, due_of, take_due, pick_gives}
use Rattle.bridge.specs.Tables.{fresh_bridge, group_at, stream_at, with_group, with_stream}
use Rattle.bridge.specs.Calls.{group_stored, group_called, stream_stored, stream_called, frame_stored, frame_called}
use Rattle.bridge.specs.History.{Call, after_call, outcome_of, outcome, outcomes}
use Rattle.bridge.specs.Spans.{burst_at, rate_at, arriving, WithinBurstAndRate}
use Rattle.bridge.specs.declared.Bridge.{Bridge}
use Rattle.records.specs.Numbers.{is_set_up}
use Rattle.event.specs.Next.{arrives_by, at_candidate, next_event, arrival_step, pick_step, step_for, stop_number}
use Rattle.line.specs.Run as line-run
use Rattle.line.specs.Run.{step, handed, entered, frame_at, group_of, settled_at, arrived, sending_ticks, sent, picked_at, stopped, onward, run_for, begun, lists_fit, line_fits, start_of, start_at, started_by, run_gives}
use Rattle.line.specs.Events.{frame_call, frames_from, entering_by, entering_of, entering}
use Rattle.promises.specs.Demand3.{Conforms}
use Rattle.promises.specs.Examples.{two, three, three_judged}
use Rattle.promises.proofs.Examples.{two_conforms}
use Rattle.promises_of_runs.specs.Steps.{beginning, ran_on, frames_of, after_step, calls_of_step, after_steps, calls_of, run, tables_after, calls_in}
use Rattle.promises_of_runs.specs.Demands.{history_of, step_number, Conforming}
use Rattle.promises_of_runs.specs.Queues.{start, running}
use Rattle.promises_of_runs.specs.Entries.{entering_after, entering_for, entered_by, entered_in, sent_by, sent_of, entered_through}
use Rattle.promises_of_runs.specs.Examples.{yard_steps, at_once, evening, calm_evening, sent_at, RunExamples}
use Rattle.promises_of_runs.proofs.Steps.{runs_are_frames}

-- ---- what the definitions give
pub record Given : Type 0 where
  pub calls : calls_in evening ≡ three
  pub judged : history_of evening ≡ three_judged
  pub entered : entered_through fresh_bridge evening ≡ sent_at 0 ∷ sent_at 0 ∷ sent_at 74_667 ∷ []
  pub calm_calls : calls_in calm_evening ≡ two
  pub number : step_number (tables_after (yard_steps [])) (run (at_once 3 2)) ≡ 28

given : Given
unfolding beginning ran_on frames_of after_step calls_of_step after_steps calls_of step_number entering_after entering_for entered_by entered_in sent_by sent_of entered_through frame_call frames_from entering_by entering_of entering step handed entered frame_at group_of settled_at arrived sending_ticks sent picked_at stopped onward run_for begun lists_fit line_fits start_of start_at started_by run_gives line-run.settled arrives_by at_candidate next_event arrival_step pick_step step_for stop_number nothing not_entered enter_gives with_last has_room all_sound class_sound every sound_at entry_sound in_range entry_at count_of pick_gives take_due take_gives without closed moved due_of due_below due_or first_of first_in first_from part smallest_of smallest_below smaller after_call outcome_of outcome outcomes fresh_bridge group_at stream_at with_group with_stream group_called group_stored group_placed taken stream_called stream_stored stream_placed frame_called frame_stored judged_at group_set_up stream_set_up fresh_group fresh_stream judged after_tests tested above_burst sound sound_group sound_regulator process_frame settled released eligibility_time earliest after_release E_first S F E_after exactly moment_of rounded_up charged_bits
given = record { calls = refl; judged = refl; entered = refl; calm_calls = refl; number = refl }

-- ---- two frames at once conform
calm_conforms : Conforming calm_evening 0
unfolding Conforms
calm_conforms =
    subst (λ (b : Bridge). (i : ℕ) → is_set_up (stream_at b i).regulator ≡ true → (stream_at b i).group ≡ 0 → WithinBurstAndRate (burst_at b i) (rate_at b i) i (arriving (history_of calm_evening)))
    (sym (runs_are_frames fresh_bridge calm_evening)) (subst (λ (xs : List Call). Conforms xs 0) (sym given.calm_calls) two_conforms)

pub run_examples : RunExamples
unfolding stop_number
run_examples = record {
  calls = given.calls;
  judged = given.judged;
  entered = given.entered;
  calm_calls = given.calm_calls;
  conforming = calm_conforms;
  reached = running (tables_after (yard_steps [])) (at_once 3 3) start;
  refused = rw given.number (omega arith);
  not_27 = λ e. let z : ◌≡◌ {A = ℕ} 28 27 = sym given.number ∙ e in omega (arith, z);
}
