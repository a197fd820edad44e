-- The statements of specs/Queues.antt, each proved under its name, along the events of a run. Assumes nothing.
use mathlib.Core.Path.{◌≡◌, refl, sym, ap, ◌∙◌}
use mathlib.Core.Bool.{Bool, true, false}
use mathlib.Core.Logic.{⊎_elim}
use Prim.Native.Nat.{ℕ}
use native.Mathlib.Omega.{arith}
use lib.ListN.{length, get_or}
use Rattle.quantity.specs.Numbers.{number_of}
use Rattle.quantity.specs.declared.Refusal.{Refusal}
use Rattle.quantity.specs.declared.Refusal.TheVariants.{Unsound, ListsUnfit, LineUnfit}
use Rattle.records.specs.declared.Group.{Group}
use Rattle.records.specs.declared.Answer.{Answer}
use Rattle.records.specs.declared.Answer.TheVariants.{Released, Discarded, Refused as FrameRefused}
use Rattle.places.specs.declared.Waiting.{Waiting}
use Rattle.places.specs.declared.Picked.{Picked}
use Rattle.places.specs.declared.Picked.TheVariants.{Leaves, Nothing, Refused as NotPicked}
use Rattle.classes.specs.Calls.{pick_gives}
use Rattle.waiting.specs.Promises as of_calls
use Rattle.waiting.proofs.Promises.{reached_is_sound as reached_by_calls_is_sound, reached_is_never_refused as reached_by_calls_is_never_refused}
use Rattle.bridge.specs.declared.Bridge.{Bridge}
use Rattle.event.specs.Next.{stop_number}
use Rattle.event.specs.declared.Stop.{Stop}
use Rattle.event.specs.declared.Stop.TheVariants.{Done, BudgetSpent, TooLate, PicksFull, Refused}
use Rattle.line.specs.Run.{Input, State, Outcome, handed, entered, settled, frame_at, group_of, settled_at, arrived, sent, picked_at, begun, stopped, lists_fit, line_fits}
use Rattle.line.specs.Events.{Takes, stops, arrives, picks}
use Rattle.line.specs.Promises.{Sound}
use Rattle.line.proofs.Turns.{gives_unfit, gives_off_line, gives_run}
use Rattle.line.proofs.Happening.{arrived_sound, picked_sound}
use Rattle.line.proofs.Promises.{runs, run_is_its_events, plainly}
use Rattle.promises_of_runs.specs.Steps.{Run, beginning, ran_on}
use Rattle.promises_of_runs.specs.Queues.{ShapedAndSound, RunKeepsQueues, start, entering, picking, running, RunsReachNothingElse, ReachedIsSound, ReachedIsNeverRefused}

-- ---- sound queues
takes_sound : {i : Input} {left : ℕ} {s : State} {k : ℕ} {why : Stop} {s' : State} → Takes i left s k why s' → Sound s → Sound s'
takes_sound (stops e) S = S
takes_sound {i} {s = s} (arrives e t) S = takes_sound t (arrived_sound i s S)
takes_sound {i} {s = s} (picks m e t) S = takes_sound t (picked_sound i _ s m e S)

pub run_keeps_queues : RunKeepsQueues
unfolding ran_on stopped beginning begun
run_keeps_queues b r q =
    ⊎_elim (λ v. rw v.1 q)
    (λ v. let z = takes_sound v.1.takes (record { shaped = q.0; sound = q.1 }) in rw v.1.gives (z.shaped, z.sound)) (run_is_its_events r.input r.budget (beginning b r))

-- ---- an event enters or picks, or leaves the queues
settled_reached : (w : Waiting) (g : Group) (k n : ℕ) (a : Answer) → of_calls.Reached w → of_calls.Reached (settled w g k n a).waiting
unfolding settled entered
settled_reached w g k n (Released T) h = of_calls.entering h (handed g k n T.0).class (handed g k n T.0).entry
settled_reached w g k n (Discarded T) h = h
settled_reached w g k n (FrameRefused why) h = h

arrived_reached : (i : Input) (s : State) → of_calls.Reached s.waiting → of_calls.Reached (arrived i s).waiting
unfolding arrived settled_at
arrived_reached i s h = settled_reached s.waiting (group_of i s.bridge s.next) s.next (get_or i.octets s.next 0) (frame_at i s.bridge s.next).answer h

sent_reached : (i : Input) (s : State) (m : ℕ) (w : Waiting) (p : Picked) → of_calls.Reached w → of_calls.Reached s.waiting → of_calls.Reached (sent i s m w p).waiting
unfolding sent
sent_reached i s m w (Leaves c e) h k = h
sent_reached i s m w Nothing h k = k
sent_reached i s m w (NotPicked why) h k = k

picked_reached : (i : Input) (s : State) (m : ℕ) → of_calls.Reached s.waiting → of_calls.Reached (picked_at i s m).waiting
unfolding picked_at
picked_reached i s m h = sent_reached i s m (pick_gives s.waiting m).waiting (pick_gives s.waiting m).answer (of_calls.picking h m) h

takes_reached : {i : Input} {left : ℕ} {s : State} {k : ℕ} {why : Stop} {s' : State} → Takes i left s k why s' → of_calls.Reached s.waiting → of_calls.Reached s'.waiting
takes_reached (stops e) h = h
takes_reached {i} {s = s} (arrives e t) h = takes_reached t (arrived_reached i s h)
takes_reached {i} {s = s} (picks m e t) h = takes_reached t (picked_reached i s m.0 h)

run_reached : (b : Bridge) (r : Run) → of_calls.Reached r.waiting → of_calls.Reached (ran_on b r).ran.waiting
unfolding ran_on stopped beginning begun
run_reached b r h = ⊎_elim (λ v. rw v.1 h) (λ v. rw v.1.gives (takes_reached v.1.takes h)) (run_is_its_events r.input r.budget (beginning b r))

pub runs_reach_nothing_else : RunsReachNothingElse
runs_reach_nothing_else _ start = of_calls.start
runs_reach_nothing_else _ (entering {w} h c e) = of_calls.entering (runs_reach_nothing_else w h) c e
runs_reach_nothing_else _ (picking {w} h m) = of_calls.picking (runs_reach_nothing_else w h) m
runs_reach_nothing_else _ (running b r h) = run_reached b r (runs_reach_nothing_else r.waiting h)

pub reached_is_sound : ReachedIsSound
reached_is_sound w h = reached_by_calls_is_sound w (runs_reach_nothing_else w h)

-- ---- 9 is the number of no stop that a run which starts can have
stop_nine : (why : Stop) → ((r : Refusal) → why ≡ Refused r → ⊥) → stop_number why ≡ number_of Unsound → ⊥
unfolding stop_number
stop_nine Done p e = omega arith
stop_nine BudgetSpent p e = omega arith
stop_nine TooLate p e = omega arith
stop_nine PicksFull p e = omega arith
stop_nine (Refused why) p e = p why refl

run_not_nine : (b : Bridge) (r : Run) → ShapedAndSound r.waiting → stop_number (ran_on b r).ran.stop ≡ number_of Unsound → ⊥
unfolding ran_on stopped stop_number beginning begun
run_not_nine b r q e = go (lists_fit (length i.arrivals) (length i.ids) (length i.octets) r.start (length r.answers)) (line_fits i.rate r.free) refl refl where
  i : Input
  i = r.input

  s : State
  s = beginning b r

  Nine : Outcome → Type 0
  Nine o = stop_number o.ran.stop ≡ number_of Unsound

  go : (x y : Bool) → lists_fit (length i.arrivals) (length i.ids) (length i.octets) r.start (length r.answers) ≡ x → line_fits i.rate r.free ≡ y → ⊥
  go false y a c = let z : Nine (stopped (Refused ListsUnfit) s) = rw (gives_unfit i r.budget s a) at e in omega arith
  go true false a c = let z : Nine (stopped (Refused LineUnfit) s) = rw (gives_off_line i r.budget s a c) at e in omega arith
  go true true a c =
      let o = runs i r.budget s in
      stop_nine o.stop (plainly o.takes) (sym (ap (λ (x : Outcome). stop_number x.ran.stop) (gives_run i r.budget s a c q.1 ∙ o.gives)) ∙ e)

pub reached_is_never_refused : ReachedIsNeverRefused
reached_is_never_refused w h =
    let k = reached_by_calls_is_never_refused w (runs_reach_nothing_else w h) in
    record {
      entering = k.0;
      picking = k.1;
      running = λ b r q n. run_not_nine b r (rw q (reached_is_sound w h)) n;
    }
