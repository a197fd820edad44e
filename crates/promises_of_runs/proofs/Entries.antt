-- The statements of specs/Entries.antt, each proved under its name, along the events of a run. Assumes nothing.
use mathlib.Core.Path.{◌≡◌, refl, ap, subst}
use mathlib.Core.List.{List, [], ◌∷◌, ◌++◌}
use Prim.Native.Nat.{ℕ, zero, suc, ◌+◌, ◌-◌}
use native.Mathlib.Omega.{arith}
use lib.ListN.{length}
use Rattle.bridge.specs.Tables.{fresh_bridge}
use Rattle.bridge.specs.History.{Call, after_call, Frame, outcome, outcomes}
use Rattle.bridge.specs.Spans.{eligible}
use Rattle.bridge.specs.declared.Bridge.{Bridge}
use Rattle.line.specs.Run.{Input, State, settled_at, frame_at, group_of, arrived, picked_at, begun, Start, start_at, stopped, run_gives, run_for, started_by}
use Rattle.line.specs.Events.{stops, arrives, picks, frames_from, numbers, entering, entrances}
use Rattle.line.specs.declared.Handed.{Handed}
use Rattle.std.specs.Prelude.{Ok, Err}
use Rattle.line.proofs.Happening.{arrival_ways, arrived_sound, picked_sound}
use Rattle.line.proofs.Promises.{runs}
use Rattle.promises_of_runs.specs.Steps.{Run, beginning, ran_on, frames_of, Step, call, run, after_step, calls_of_step, calls_of}
use Rattle.promises_of_runs.specs.Entries.{EntryOf, Among, none, enters, passes, EntriesAreReleased, Settles, done, EachFrameSettles, entering_after, entering_for, EnteringIsEntrances, entered_by, entered_in, RunEntersReleased, sent_by, sent_of, entered_through, EntriesWithinBurstAndRate}
use Rattle.promises_of_runs.proofs.Lists.{outcomes_append, eligible_append}
use Rattle.promises_of_runs.proofs.Picks.{pick_keeps, numbers_count}
use Rattle.promises_of_runs.proofs.Arrivals.{called, judged, answered, enters_of, settles_of}
use Rattle.promises_of_runs.proofs.Parts.{Part, none as no_part, both, part_after, part_append, part_within}
use Rattle.promises_of_runs.proofs.Steps.{run_is_frames}
use Rattle.promises_of_runs.proofs.Demands.{span_limit}

-- ---- along the events
pub entries_are_released : EntriesAreReleased
unfolding numbers entrances entering arrived frame_at group_of frames_from
entries_are_released i left k why s s' (stops e) = none
entries_are_released i left k why s s' (arrives {left = l} {k = j} e t) =
    enters_of i s.bridge s.waiting s.next _ _ (subst (λ (b : Bridge). Among i b (frames_from i (s.next + 1) (length (numbers t))) (entrances t)) (called i s.bridge s.next) (entries_are_released i l j why (arrived i s) s' t))
    (frame_at i s.bridge s.next).answer (judged i s.bridge s.next)
entries_are_released i left k why s s' (picks {left = l} {k = j} m e t) =
    let v = pick_keeps i s m.0 in
    subst (λ (b : Bridge). Among i b (frames_from i s.next (length (numbers t))) (entrances t)) v.0
    (subst (λ (n : ℕ). Among i (picked_at i s m.0).bridge (frames_from i n (length (numbers t))) (entrances t)) v.1 (entries_are_released i l j why (picked_at i s m.0) s' t))

pub each_frame_settles : EachFrameSettles
unfolding numbers entrances entering arrived settled_at group_of frames_from
each_frame_settles i left k why s s' S (stops e) = done
each_frame_settles i left k why s s' S (arrives {left = l} {k = j} e t) =
    settles_of i s _ _ _
    (subst (λ (b : Bridge). Settles i b (frames_from i (s.next + 1) (length (numbers t))) (numbers t) (entrances t)) (called i s.bridge s.next) (each_frame_settles i l j why (arrived i s) s' (arrived_sound i s S) t))
    (frame_at i s.bridge s.next).answer (judged i s.bridge s.next) (answered i s.bridge s.next) (arrival_ways i s S)
each_frame_settles i left k why s s' S (picks {left = l} {k = j} m e t) =
    let v = pick_keeps i s m.0 in
    subst (λ (b : Bridge). Settles i b (frames_from i s.next (length (numbers t))) (numbers t) (entrances t)) v.0
    (subst (λ (n : ℕ). Settles i (picked_at i s m.0).bridge (frames_from i n (length (numbers t))) (numbers t) (entrances t)) v.1 (each_frame_settles i l j why (picked_at i s m.0) s' (picked_sound i (suc l) s m e S) t))

-- ---- the entries of a run, as a list
pub entering_is_entrances : EnteringIsEntrances
unfolding entering_for entering_after entrances
entering_is_entrances i zero k why s s' (stops e) = refl
entering_is_entrances i (suc l) k why s s' (stops e) = rw e refl
entering_is_entrances i left k why s s' (arrives {left = l} {k = j} e t) = rw e (ap (λ (hs : List Handed). entering i s ++ hs) (entering_is_entrances i l j why (arrived i s) s' t))
entering_is_entrances i left k why s s' (picks {left = l} {k = j} m e t) = rw e (entering_is_entrances i l j why (picked_at i s m.0) s' t)

-- nothing that enters is among any calls
among_none : (i : Input) (b : Bridge) (xs : List Call) → Among i b xs []
among_none i b [] = none
among_none i b (x ∷ xs) = passes (among_none i (after_call b x) xs)

-- a run that takes its events
ran : (b : Bridge) (r : Run) → Among r.input b (frames_from r.input r.start ((run_for r.input r.budget (beginning b r)).ran.next - r.start)) (entering_for r.input r.budget (beginning b r))
unfolding beginning begun stopped
ran b r =
    let o = runs r.input r.budget (beginning b r) in
    let t = o.takes in
    let n = numbers_count t in
    let z : o.last.next - r.start ≡ length (numbers t) = omega arith in
    rw (o.gives, entering_is_entrances r.input r.budget o.events o.stop (beginning b r) o.last t, z) (entries_are_released r.input r.budget o.events o.stop (beginning b r) o.last t)

pub run_enters_released : RunEntersReleased
unfolding entered_in entered_by frames_of ran_on run_gives started_by
run_enters_released b r = go (start_at i s) refl where
  i : Input
  i = r.input

  s : State
  s = beginning b r

  go : (x : Start) → start_at i s ≡ x → Among i b (frames_from i r.start ((started_by i r.budget s x).ran.next - r.start)) (entered_by i r.budget s x)
  go (Err why) e = among_none i b (frames_from i r.start ((started_by i r.budget s (Err why)).ran.next - r.start))
  go (Ok runs) e = ran b r

-- ---- the span limit of entries
same : {i : Input} {b : Bridge} {h : Handed} {f : Frame} → EntryOf i b h f → sent_by i h ≡ record { stream = f.stream; bits = f.bits; tick = f.time }
unfolding sent_by
same e = λ k. record { stream = e.stream k; bits = e.bits k; tick = e.time k }

among_part : {i : Input} {b : Bridge} {xs : List Call} {hs : List Handed} → Among i b xs hs → Part (sent_of i hs) (eligible (outcomes b xs))
unfolding sent_of outcomes eligible
among_part none = no_part
among_part {i} {b} (enters {x = x} {xs = xs} {h = h} f o e p) = rw o (both (same e) (among_part p))
among_part {b = b} (passes {x = x} {xs = xs} p) = rw (eligible_append (outcome b x) (outcomes (after_call b x) xs)) (part_after (eligible (outcome b x)) (among_part p))

steps_part : (b : Bridge) (ss : List Step) → Part (entered_through b ss) (eligible (outcomes b (calls_of b ss)))
unfolding entered_through calls_of calls_of_step after_step outcomes eligible
steps_part b [] = no_part
steps_part b (call x ∷ ss) = rw (eligible_append (outcome b x) (outcomes (after_call b x) (calls_of (after_call b x) ss))) (part_after (eligible (outcome b x)) (steps_part (after_call b x) ss))
steps_part b (run r ∷ ss) =
    let c = (ran_on b r).ran.bridge in
    rw (outcomes_append b (frames_of b r) (calls_of c ss), ← run_is_frames b r, eligible_append (outcomes b (frames_of b r)) (outcomes c (calls_of c ss)))
    (part_append (among_part (run_enters_released b r)) (steps_part c ss))

pub entries_within_burst_and_rate : EntriesWithinBurstAndRate
entries_within_burst_and_rate ss i = part_within _ _ i (steps_part fresh_bridge ss) (span_limit ss i)
