-- The examples of runs, proved. Assumes nothing.
use mathlib.Core.Path.{◌≡◌, refl}
use mathlib.Core.Bool.{true}
use mathlib.Core.Logic.{inr}
use Prim.Native.Nat.{ℕ, max}
use lib.Dec.{leb-zero, lit≤}
use lib.ListN.{replicate}
use native.Mathlib.Omega.{arith}
use Rattle.quantity.specs.Kinds.{ticks}
use Rattle.quantity.specs.Ranges.{in_range}
use Rattle.quantity.specs.declared.Refusal.{Refusal}
use Rattle.quantity.specs.Charge.{charged_bits}
use Rattle.records.specs.ExactTime.{exactly, moment_of, rounded_up, E_first}
use Rattle.records.specs.Sound.{sound_group, sound_regulator, sound}
use Rattle.records.specs.Numbers.{answer_number}
use Rattle.setup.specs.SetUp.{fresh_group, fresh_stream, group_set_up, stream_set_up}
use Rattle.admission.specs.Tests.{above_burst, tested}
use Rattle.shaper.specs.Frame.{S, F, E_after, earliest, after_release, eligibility_time, released, settled, process_frame}
use Rattle.shaper.specs.Numbers.{after_tests, judged}
use Rattle.calls.specs.Calls.{taken, group_placed, stream_placed, judged_at}
use Rattle.bridge.specs.Tables.{fresh_bridge, group_at, stream_at, with_group, with_stream}
use Rattle.bridge.specs.Calls.{group_stored, group_called, stream_stored, stream_called, frame_stored, frame_called}
use Rattle.bridge.specs.History.{after_call, after}
use Rattle.places.specs.declared.Waiting.{Waiting}
use Rattle.places.specs.Queue.{nothing, count_of, entry_at}
use Rattle.places.specs.Places.{with_last, has_room, moved, closed, without, take_gives}
use Rattle.firsts.specs.Firsts.{part, first_from, first_in, first_of, smaller, smallest_below, smallest_of}
use Rattle.std.specs.Prelude.{Option, Some, None}
use Rattle.quantity.specs.declared.Ticks.{Ticks}
use Rattle.classes.specs.Soundness.{every, entry_sound, sound_at, class_sound, all_sound}
use Rattle.classes.specs.Calls.{not_entered, enter_gives, due_or, due_below, due_of, take_due, pick_gives}
use Rattle.waiting.specs.Promises.{start}
use Rattle.waiting.proofs.Promises.{reached_is_sound}
use Rattle.event.specs.Next.{arrives_by, at_candidate, next_event, arrival_step, pick_step, step_for, stop_number}
use Rattle.event.specs.declared.Stop.{Stop}
use Rattle.event.specs.declared.Stop.TheVariants.{Done, BudgetSpent, TooLate, PicksFull, Refused}
use Rattle.event.specs.declared.Step.TheVariants.{Ends, Arrival}
use Rattle.line.specs.Run as run
use Rattle.line.specs.Run.{Input, State, step, handed, entered, frame_at, group_of, settled_at, arrived, sending_ticks, sent, picked_at, stopped, onward, run_for, begun, lists_fit, line_fits, start_of, start_at, started_by, run_gives, ran_values, values_with}
use Rattle.line.specs.Events.{stops, arrives, picks}
use Rattle.line.specs.Promises.{Sound, continued}
use Rattle.line.proofs.Promises.{refused_changes_nothing, events_are_counted, history_of_frames, numbers_of_frames, released_enter, lists_are_written, other_places_stay, none_before_its_time, none_overlap, nothing_lost_or_doubled}
use Rattle.line.proofs.Pieces.{run_in_pieces, continued_is_accepted}
use Rattle.cases.specs.Line.{three_frames, class_six_full, unequal_lists, beginning, Stops, LineExamples}

-- ---- where class 6 is full, the run of one event: an arrival at tick 0 is next, whatever waits
arrives_first : (x : Option Ticks) → step_for 1 0 3 3 (next_event (replicate 3 0) 0 0 x) ≡ Arrival
unfolding step_for next_event at_candidate arrives_by arrival_step
arrives_first None = refl
arrives_first (Some t) = rw (leb-zero (max 0 t.0)) refl

stops_after : (x : Option Ticks) → step_for 0 0 3 3 (next_event (replicate 3 0) 1 0 x) ≡ Ends BudgetSpent
unfolding step_for next_event at_candidate arrives_by arrival_step
stops_after None = refl
stops_after (Some t) = rw (leb-zero (max 0 t.0)) refl

full_arrives : step (three_frames 0) 1 (beginning class_six_full 3) ≡ Arrival
unfolding step begun
full_arrives = arrives_first (smallest_of class_six_full.times class_six_full.fills)

full_stops : step (three_frames 0) 0 (arrived (three_frames 0) (beginning class_six_full 3)) ≡ Ends BudgetSpent
unfolding step begun arrived
full_stops =
    let w : Waiting = (settled_at (three_frames 0) (beginning class_six_full 3)).waiting in
    stops_after (smallest_of w.times w.fills)

abbrev full_run : Stops (three_frames 0) 1 (beginning class_six_full 3) 1 BudgetSpent
full_run = (arrived (three_frames 0) (beginning class_six_full 3), arrives full_arrives (stops full_stops))

-- empty queues are sound
begins_sound : (places : ℕ) → Sound (beginning nothing places)
unfolding begun
begins_sound places = record { shaped = (reached_is_sound nothing start).0; sound = (reached_is_sound nothing start).1 }

-- a budget that is spent is no refusal
not_refused : (why : Refusal) → BudgetSpent ≡ Refused why → ⊥
not_refused why e =
    let z : ◌≡◌ {A = ℕ} 0 1 = cc in
    omega arith

pub line_examples : LineExamples
unfolding continued step handed entered frame_at group_of settled_at arrived sending_ticks sent picked_at stopped onward run_for begun lists_fit line_fits start_of start_at started_by run_gives ran_values values_with run.settled arrives_by at_candidate next_event arrival_step pick_step step_for stop_number nothing not_entered enter_gives with_last has_room all_sound class_sound every sound_at entry_sound in_range entry_at count_of pick_gives take_due take_gives without closed moved due_of due_below due_or first_of first_in first_from part smallest_of smallest_below smaller after_call fresh_bridge group_at stream_at with_group with_stream group_called group_stored group_placed taken stream_called stream_stored stream_placed frame_called frame_stored judged_at group_set_up stream_set_up fresh_group fresh_stream judged after_tests tested above_burst sound sound_group sound_regulator process_frame settled released eligibility_time earliest after_release E_first S F E_after exactly moment_of rounded_up charged_bits after answer_number
line_examples = record {
  sound = begins_sound 3;
  done = (_, arrives refl (arrives refl (arrives refl (picks (ticks 0) refl (picks (ticks 672) refl (picks (ticks 74_667) refl (stops refl)))))));
  answers = refl;
  picked = refl;
  moments = refl;
  done_values = refl;
  budget_spent = (_, arrives refl (arrives refl (arrives refl (picks (ticks 0) refl (stops refl)))));
  not_reached = lit≤ tt;
  two_places = begins_sound 2;
  picks_full = (_, arrives refl (arrives refl (arrives refl (picks (ticks 0) refl (picks (ticks 672) refl (stops refl))))));
  too_late = (_, arrives refl (arrives refl (arrives refl (picks (ticks 4_000_000_000_000_000_000) refl (stops refl)))));
  late_values = refl;
  full_sound = record { shaped = record { times = refl; handles = refl; bits = refl; fills = refl }; sound = refl };
  one_more = full_run;
  gets_22 = refl;
  no_events = refl;
  no_picks = refl;
  shaped = (begins_sound 3).shaped;
  first_piece = refl;
  second_piece = refl;
  accepted = not_refused;
  refused_28 = refl;
  refused_29 = refl;
  from_9_up = lit≤ tt;
  not_27 = λ e. let z : ◌≡◌ {A = ℕ} 28 27 = e in omega (arith, z);
}

-- ---- each promise at these values: its premises are all among the examples
of_a_run : (i : Input) (left k : ℕ) (why : Stop) (s : State) → Sound s → Stops i left s k why → Unit {0}
of_a_run i left k why s sound t =
    let counted = events_are_counted i left k why s t.0 sound t.1 in
    let history = history_of_frames i left k why s t.0 t.1 in
    let answers = numbers_of_frames i left k why s t.0 sound t.1 in
    let enter = released_enter i left k why s t.0 sound t.1 in
    let lists = lists_are_written i left k why s t.0 sound t.1 in
    let in-time = none_before_its_time i left k why s t.0 sound t.1 in
    let apart = none_overlap i left k why s t.0 sound t.1 in
    let kept = nothing_lost_or_doubled i left k why s t.0 sound t.1 6 (λ e. true) in
    tt

pub line_premises : LineExamples → Unit {0}
line_premises x =
    let done = of_a_run (three_frames 0) 10 6 Done (beginning nothing 3) x.sound x.done in
    let spent = of_a_run (three_frames 0) 4 4 BudgetSpent (beginning nothing 3) x.sound x.budget_spent in
    let full = of_a_run (three_frames 0) 10 5 PicksFull (beginning nothing 2) x.two_places x.picks_full in
    let late = of_a_run (three_frames 4_000_000_000_000_000_000) 10 4 TooLate (beginning nothing 3) x.sound x.too_late in
    let more = of_a_run (three_frames 0) 1 1 BudgetSpent (beginning class_six_full 3) x.full_sound x.one_more in
    let stays = (other_places_stay (three_frames 0) 4 4 BudgetSpent (beginning nothing 3) x.budget_spent.0 x.sound x.budget_spent.1 2).1.0 (inr x.not_reached) in
    let pieces = run_in_pieces (three_frames 0) 4 2 (beginning nothing 3) x.no_events x.no_picks x.shaped x.first_piece in
    let accepted = continued_is_accepted (three_frames 0) 4 2 (beginning nothing 3) x.no_picks x.shaped x.accepted in
    let refused = refused_changes_nothing unequal_lists 10 (beginning nothing 3) x.from_9_up x.not_27 in
    tt
