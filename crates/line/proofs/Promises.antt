-- The promises of specs/Promises.antt, each proved under its name, along the events of a run. Assumes nothing.
use mathlib.Core.Path.{◌≡◌, refl, sym, ap, ap₂, subst, ◌∙◌}
use mathlib.Core.Bool.{Bool, true, false, cond}
use mathlib.Core.Logic.{◌⊎◌, inl, inr, ⊎_elim}
use mathlib.Core.List.{List, [], ◌∷◌, ◌++◌}
use Prim.Native.Nat.{ℕ, zero, suc, ◌+◌, ◌≤◌, ◌<◌}
use native.Mathlib.Omega.{arith}
use lib.Dec.{eqb}
use lib.ListN.{length, get_or, set}
use lib.Seq.{get_or-set_other}
use borrow.Author.Tests.{eqb-true, eqb-false, eq-eqb, ne_eqb}
use Rattle.quantity.specs.Numbers.{least_refusal}
use Rattle.quantity.specs.declared.Refusal.{Refusal}
use Rattle.quantity.specs.declared.Refusal.TheVariants.{Unsound, ListsUnfit, LineUnfit}
use Rattle.quantity.specs.declared.Ticks.{Ticks}
use Rattle.places.specs.Queue.{queue}
use Rattle.waiting.specs.Rules.{Enters, Picks}
use Rattle.classes.specs.Soundness.{all_sound}
use Rattle.classes.specs.Calls.{pick_gives}
use Rattle.places.specs.declared.Waiting.{Waiting}
use Rattle.places.specs.declared.Entry.{Entry}
use Rattle.places.specs.declared.After.{After}
use Rattle.bridge.specs.History.{reply, after_call, after, replies}
use Rattle.bridge.specs.declared.Bridge.{Bridge}
use Rattle.places.specs.declared.Picked.{Picked}
use Rattle.places.specs.declared.Picked.TheVariants.{Leaves, Nothing, Refused as NotPicked}
use Rattle.event.specs.Next.{stop_number}
use Rattle.event.specs.declared.Stop.{Stop}
use Rattle.event.specs.declared.Stop.TheVariants.{Done, BudgetSpent, TooLate, PicksFull, Refused}
use Rattle.event.specs.declared.Step.{Step}
use Rattle.event.specs.declared.Step.TheVariants.{Ends, Arrival, Pick}
use Rattle.event.proofs.Steps.{plain_step}
use Rattle.line.specs.Run.{Input, State, step, settled_at, frame_at, arrived, sent, picked_at, stopped, run_for, run_gives, lists_fit, line_fits, values_with, ran_values}
use Rattle.line.specs.Events.{Takes, stops, arrives, picks, frame_call, frames_from, numbers, entering, entrances, Departure, leaving, departures, handles_of, moments_of, written, entered_into, left_from, count, entered_handles, zeros_from}
use Rattle.line.specs.Promises.{Sound, Ran, RunIsItsEvents, RefusedChangesNothing, ReleasedEnter, EventsAreCounted, HistoryOfFrames, Answers, none, one, NumbersOfFrames, ListsAreWritten, OtherPlacesStay, InTime, NoneBeforeItsTime, Apart, idle, sends, NoneOverlap, NothingLostOrDoubled}
use Rattle.line.specs.declared.Handed.{Handed}
use Rattle.line.proofs.Turns.{run_ends, run_arrives, run_picks, arrival_means, gives_unfit, gives_off_line, gives_unsound, gives_run}
use Rattle.line.proofs.Happening.{arrival_ways, arrived_sound, Leave, picks_at, free_by, leaves, picked_sound}

-- ---- the events of a run
pub runs : (i : Input) (n : ℕ) (s : State) → Ran i n s (run_for i n s)
runs i zero s = go (step i zero s) refl where
  go : (st : Step) → step i zero s ≡ st → Ran i zero s (run_for i zero s)
  go (Ends why) e = record { events = 0; stop = why; last = s; takes = stops e; gives = run_ends i zero s why e }
  go Arrival e = let z = (arrival_means i zero s e).0 in absurd (omega arith)
  go (Pick m) e = let z = (picks_at i zero s m e).some in absurd (omega arith)
runs i (suc n) s = go (λ x. runs i n x) (step i (suc n) s) refl where
  go : ((x : State) → Ran i n x (run_for i n x)) → (st : Step) → step i (suc n) s ≡ st → Ran i (suc n) s (run_for i (suc n) s)
  go more (Ends why) e = record { events = 0; stop = why; last = s; takes = stops e; gives = run_ends i (suc n) s why e }
  go more Arrival e =
      let r = more (arrived i s) in
      record { events = suc r.events; stop = r.stop; last = r.last; takes = arrives e r.takes; gives = run_arrives i n s e ∙ r.gives }
  go more (Pick m) e =
      let r = more (picked_at i s m.0) in
      record { events = suc r.events; stop = r.stop; last = r.last; takes = picks m e r.takes; gives = run_picks i n s m e ∙ r.gives }

pub run_is_its_events : RunIsItsEvents
run_is_its_events i budget s =
    go (lists_fit (length i.arrivals) (length i.ids) (length i.octets) s.next (length s.answers)) (line_fits i.rate s.free) (all_sound s.waiting.times s.waiting.bits s.waiting.fills) refl refl refl where
      go : (a b c : Bool) → lists_fit (length i.arrivals) (length i.ids) (length i.octets) s.next (length s.answers) ≡ a → line_fits i.rate s.free ≡ b
          → all_sound s.waiting.times s.waiting.bits s.waiting.fills ≡ c
          → ((why : Refusal) × (run_gives i budget s ≡ stopped (Refused why) s)) ⊎ ((all_sound s.waiting.times s.waiting.bits s.waiting.fills ≡ true) × Ran i budget s (run_gives i budget s))
      go false b c p q r = inl (ListsUnfit, gives_unfit i budget s p)
      go true false c p q r = inl (LineUnfit, gives_off_line i budget s p q)
      go true true false p q r = inl (Unsound, gives_unsound i budget s p q r)
      go true true true p q r =
          let x = runs i budget s in
          inr (r, record { events = x.events; stop = x.stop; last = x.last; takes = x.takes; gives = gives_run i budget s p q r ∙ x.gives })

-- a run that takes its events stops with 0, 3, 27 or 4
pub plainly : {i : Input} {left : ℕ} {s : State} {k : ℕ} {why : Stop} {s' : State} → Takes i left s k why s' → (r : Refusal) → why ≡ Refused r → ⊥
unfolding step
plainly {left = left} {s = s} (stops e) r q = plain_step left s.picks (length s.picked) (length s.moments) _ r (e ∙ ap Ends q)
plainly (arrives e t) r q = plainly t r q
plainly (picks m e t) r q = plainly t r q

-- of the stops, only a refusal has a number from 9 up other than 27
low_number : (why : Stop) → ((r : Refusal) → why ≡ Refused r → ⊥) → least_refusal ≤ stop_number why → (stop_number why ≡ stop_number TooLate → ⊥) → ⊥
unfolding stop_number
low_number Done p l n = omega arith
low_number BudgetSpent p l n = omega arith
low_number TooLate p l n = n refl
low_number PicksFull p l n = omega arith
low_number (Refused why) p l n = p why refl

pub refused_changes_nothing : RefusedChangesNothing
unfolding stopped ran_values values_with
refused_changes_nothing i budget s l n =
    ⊎_elim (λ v. (rw v.1 refl, rw v.1 refl))
    (λ v. absurd (low_number v.1.stop (plainly v.1.takes) (rw v.1.gives at l) (λ e. n (rw v.1.gives e)))) (run_is_its_events i budget s)

pub events_are_counted : EventsAreCounted
unfolding arrived
events_are_counted i left k why s s' S (stops e) = (omega arith, (omega arith, omega arith))
events_are_counted i left k why s s' S (arrives {left = l} {k = j} e t) =
    let r = events_are_counted i l j why (arrived i s) s' (arrived_sound i s S) t in
    (omega (arith, r.0), (omega (arith, r.1.0), omega (arith, r.1.1)))
events_are_counted i left k why s s' S (picks {left = l} {k = j} m e t) =
    let v = leaves i (suc l) s m e S in
    let r = rw v.state at (events_are_counted i l j why (picked_at i s m.0) s' (picked_sound i (suc l) s m e S) t) in
    (omega (arith, r.0), (omega (arith, r.1.0), omega (arith, r.1.1)))

-- ---- what a run judges
-- a pick leaves the tables and the next arrival's place, whatever it finds
sent_keeps : (i : Input) (s : State) (m : ℕ) (w : Waiting) (p : Picked) → ((sent i s m w p).bridge ≡ s.bridge) × ((sent i s m w p).next ≡ s.next)
unfolding sent
sent_keeps i s m w (Leaves c e) = (refl, refl)
sent_keeps i s m w Nothing = (refl, refl)
sent_keeps i s m w (NotPicked why) = (refl, refl)

pick_keeps : (i : Input) (s : State) (m : ℕ) → ((picked_at i s m).bridge ≡ s.bridge) × ((picked_at i s m).next ≡ s.next)
unfolding picked_at
pick_keeps i s m = sent_keeps i s m (pick_gives s.waiting m).waiting (pick_gives s.waiting m).answer

pub history_of_frames : HistoryOfFrames
unfolding arrived frame_at frames_from frame_call after after_call
history_of_frames i left k why s s' (stops e) = (0, (omega arith, refl))
history_of_frames i left k why s s' (arrives {left = l} {k = j} e t) =
    let r = history_of_frames i l j why (arrived i s) s' t in
    let z = r.1.0 in
    (suc r.0, (omega arith, r.1.1))
history_of_frames i left k why s s' (picks {left = l} {k = j} m e t) =
    let r = history_of_frames i l j why (picked_at i s m.0) s' t in
    let v = pick_keeps i s m.0 in
    let z = v.1 in
    let y = r.1.0 in
    (r.0, (omega arith, r.1.1 ∙ ap₂ (λ (b : Bridge) (n : ℕ). after b (frames_from i n r.0)) v.0 v.1))

pub numbers_of_frames : NumbersOfFrames
unfolding numbers arrived settled_at frame_at frames_from frame_call replies reply after_call
numbers_of_frames i left k why s s' S (stops e) = none
numbers_of_frames i left k why s s' S (arrives {left = l} {k = j} e t) =
    one (⊎_elim (λ v. inl v.number) (λ v. v.number) (arrival_ways i s S)) (numbers_of_frames i l j why (arrived i s) s' (arrived_sound i s S) t)
numbers_of_frames i left k why s s' S (picks {left = l} {k = j} m e t) =
    let v = pick_keeps i s m.0 in
    let r = numbers_of_frames i l j why (picked_at i s m.0) s' (picked_sound i (suc l) s m e S) t in
    subst (λ (b : Bridge). Answers (numbers t) (replies b (frames_from i s.next (length (numbers t))))) v.0
    (subst (λ (n : ℕ). Answers (numbers t) (replies (picked_at i s m.0).bridge (frames_from i n (length (numbers t))))) v.1 r)

pub released_enter : ReleasedEnter
unfolding numbers entrances entering arrived settled_at entered_handles zeros_from
released_enter i left k why s s' S (stops e) = refl
released_enter i left k why s s' S (arrives {left = l} {k = j} e t) =
    let r = released_enter i l j why (arrived i s) s' (arrived_sound i s S) t in
    ⊎_elim
    (λ v. ap (λ (hs : List Handed). entered_handles (hs ++ entrances t)) v.list ∙ ap₂ (λ (h : ℕ) (hs : List ℕ). h ∷ hs) v.handle r
    ∙ ap (λ (b : Bool). cond b (s.next ∷ zeros_from (s.next + 1) (numbers t)) (zeros_from (s.next + 1) (numbers t))) (sym (eq-eqb _ 0 v.zero)))
    (λ v. ap (λ (hs : List Handed). entered_handles (hs ++ entrances t)) v.list ∙ r
    ∙ ap (λ (b : Bool). cond b (s.next ∷ zeros_from (s.next + 1) (numbers t)) (zeros_from (s.next + 1) (numbers t))) (sym (ne_eqb _ 0 v.some)))
    (arrival_ways i s S)
released_enter i left k why s s' S (picks {left = l} {k = j} m e t) =
    released_enter i l j why (picked_at i s m.0) s' (picked_sound i (suc l) s m e S) t ∙ ap (λ (n : ℕ). zeros_from n (numbers t)) (pick_keeps i s m.0).1

-- ---- the lent lists
-- what leaves at a pick
module _ (i : Input) (l : ℕ) (s : State) (m : Ticks) (e : step i (suc l) s ≡ Pick m) (S : Sound s) where
  abbrev lv : Leave i s m.0
  lv = leaves i (suc l) s m e S

  departs : {k : ℕ} {why : Stop} {s' : State} (t : Takes i l (picked_at i s m.0) k why s') → departures (picks m e t) ≡ record { class = lv.class; entry = lv.entry; moment = m.0 } ∷ departures t
  unfolding departures leaving
  departs t = ap (λ (p : After Picked). leaving m.0 p.answer ++ departures t) lv.gives

pub lists_are_written : ListsAreWritten
unfolding numbers departures arrived written handles_of moments_of
lists_are_written i left k why s s' S (stops e) = (refl, (refl, refl))
lists_are_written i left k why s s' S (arrives {left = l} {k = j} e t) = lists_are_written i l j why (arrived i s) s' (arrived_sound i s S) t
lists_are_written i left k why s s' S (picks {left = l} {k = j} m e t) =
    let v = leaves i (suc l) s m e S in
    let r = lists_are_written i l j why (picked_at i s m.0) s' (picked_sound i (suc l) s m e S) t in
    let d = sym (departs i l s m e S t) in (
      r.0 ∙ ap₂ (λ (x : List ℕ) (n : ℕ). written x n (numbers t)) (ap (λ (x : State). x.answers) v.state) (pick_keeps i s m.0).1,
      (
        r.1.0 ∙ ap₂ (λ (x : List ℕ) (n : ℕ). written x n (handles_of (departures t))) (ap (λ (x : State). x.picked) v.state) (ap (λ (x : State). x.picks) v.state)
            ∙ ap (λ (x : List Departure). written s.picked s.picks (handles_of x)) d,
        r.1.1 ∙ ap₂ (λ (x : List ℕ) (n : ℕ). written x n (moments_of (departures t))) (ap (λ (x : State). x.moments) v.state) (ap (λ (x : State). x.picks) v.state)
            ∙ ap (λ (x : List Departure). written s.moments s.picks (moments_of x)) d,
      ),
    )

-- the counts are those of what happened
numbers_count : {i : Input} {left : ℕ} {s : State} {k : ℕ} {why : Stop} {s' : State} (t : Takes i left s k why s') → s'.next ≡ s.next + length (numbers t)
unfolding numbers arrived
numbers_count (stops e) = omega arith
numbers_count (arrives e t) = let z = numbers_count t in omega arith
numbers_count {i} {s = s} (picks m e t) = let z = numbers_count t in let y = (pick_keeps i s m.0).1 in omega arith

departures_count : (i : Input) (left k : ℕ) (why : Stop) (s s' : State) → Sound s → (t : Takes i left s k why s') → s'.picks ≡ s.picks + length (departures t)
unfolding departures arrived
departures_count i left k why s s' S (stops e) = omega arith
departures_count i left k why s s' S (arrives {left = l} {k = j} e t) = departures_count i l j why (arrived i s) s' (arrived_sound i s S) t
departures_count i left k why s s' S (picks {left = l} {k = j} m e t) =
    let v = leaves i (suc l) s m e S in
    let z = departures_count i l j why (picked_at i s m.0) s' (picked_sound i (suc l) s m e S) t in
    let y = ap (λ (x : State). x.picks) v.state in
    let d = ap length (departs i l s m e S t) in
    omega arith

handles_length : (ds : List Departure) → length (handles_of ds) ≡ length ds
unfolding handles_of
handles_length [] = refl
handles_length (d ∷ ds) = ap suc (handles_length ds)

moments_length : (ds : List Departure) → length (moments_of ds) ≡ length ds
unfolding moments_of
moments_length [] = refl
moments_length (d ∷ ds) = ap suc (moments_length ds)

written_other : (l : List ℕ) (k : ℕ) (xs : List ℕ) (j : ℕ) → (j < k) ⊎ (k + length xs ≤ j) → get_or (written l k xs) j 0 ≡ get_or l j 0
unfolding written
written_other l k [] j h = refl
written_other l k (x ∷ xs) j h =
    written_other (set l k x) (k + 1) xs j (⊎_elim (λ a. inl (omega arith)) (λ a. inr (omega arith)) h) ∙ get_or-set_other l k j x 0 (λ e. ⊎_elim (λ a. omega arith) (λ a. omega arith) h)

pub other_places_stay : OtherPlacesStay
other_places_stay i left k why s s' S t j =
    let r = lists_are_written i left k why s s' S t in
    let n = numbers_count t in
    let d = departures_count i left k why s s' S t in
    let a = handles_length (departures t) in
    let b = moments_length (departures t) in (
      (λ h. ap (λ (l : List ℕ). get_or l j 0) r.0 ∙ written_other s.answers s.next (numbers t) j (⊎_elim (λ x. inl x) (λ x. inr (omega arith)) h)),
      (
        (λ h. ap (λ (l : List ℕ). get_or l j 0) r.1.0 ∙ written_other s.picked s.picks (handles_of (departures t)) j (⊎_elim (λ x. inl x) (λ x. inr (omega arith)) h)),
        (λ h. ap (λ (l : List ℕ). get_or l j 0) r.1.1 ∙ written_other s.moments s.picks (moments_of (departures t)) j (⊎_elim (λ x. inl x) (λ x. inr (omega arith)) h)),
      ),
    )

-- ---- on the line
pub none_before_its_time : NoneBeforeItsTime
unfolding departures arrived
none_before_its_time i left k why s s' S (stops e) = none
none_before_its_time i left k why s s' S (arrives {left = l} {k = j} e t) = none_before_its_time i l j why (arrived i s) s' (arrived_sound i s S) t
none_before_its_time i left k why s s' S (picks {left = l} {k = j} m e t) =
    subst (λ (ds : List Departure). InTime ds) (sym (departs i l s m e S t))
    (one (leaves i (suc l) s m e S).picks.eligible (none_before_its_time i l j why (picked_at i s m.0) s' (picked_sound i (suc l) s m e S) t))

pub none_overlap : NoneOverlap
unfolding departures arrived
none_overlap i left k why s s' S (stops e) = idle
none_overlap i left k why s s' S (arrives {left = l} {k = j} e t) = none_overlap i l j why (arrived i s) s' (arrived_sound i s S) t
none_overlap i left k why s s' S (picks {left = l} {k = j} m e t) =
    subst (λ (ds : List Departure). Apart i.rate s.free ds s'.free) (sym (departs i l s m e S t))
    (sends (free_by i (suc l) s m e)
    (subst (λ (f : ℕ). Apart i.rate f (departures t) s'.free) (ap (λ (x : State). x.free) (leaves i (suc l) s m e S).state) (none_overlap i l j why (picked_at i s m.0) s' (picked_sound i (suc l) s m e S) t)))

-- ---- nothing is lost and nothing doubled
module _ (p : Entry → Bool) where
  count_append : (a b : List Entry) → count p (a ++ b) ≡ count p a + count p b
  unfolding count
  count_append [] b = omega arith
  count_append (x ∷ a) b = let z = count_append a b in omega arith

  -- one entry more, last in its class
  entered_count : (w v : Waiting) (h : Handed) → Enters w v h.class h.entry → (c : ℕ) (hs : List Handed)
      → count p (queue v c) + count p (entered_into c hs) ≡ count p (queue w c) + count p (entered_into c (h ∷ hs))
  unfolding entered_into count
  entered_count w v h E c hs = go (eqb h.class c) refl where
    go : (b : Bool) → eqb h.class c ≡ b → count p (queue v c) + count p (entered_into c hs) ≡ count p (queue w c) + count p (cond b (h.entry ∷ entered_into c hs) (entered_into c hs))
    go true q =
        let z = eqb-true h.class c q in
        let y : queue v c ≡ queue w c ++ (h.entry ∷ []) = rw z at E.last in
        let x = ap (count p) y ∙ count_append (queue w c) (h.entry ∷ []) in
        omega arith
    go false q = let z = eqb-false h.class c q in let x = ap (count p) (E.others c (λ y. z (sym y))) in omega arith

  -- one entry fewer
  left_count : (w v : Waiting) (m : ℕ) (d : Departure) → Picks w v m d.class d.entry → (c : ℕ) (ds : List Departure)
      → count p (queue w c) + count p (left_from c ds) ≡ count p (queue v c) + count p (left_from c (d ∷ ds))
  unfolding left_from count
  left_count w v m d P c ds = go (eqb d.class c) refl where
    go : (b : Bool) → eqb d.class c ≡ b → count p (queue w c) + count p (left_from c ds) ≡ count p (queue v c) + count p (cond b (d.entry ∷ left_from c ds) (left_from c ds))
    go true q =
        let z = eqb-true d.class c q in
        let y : queue w c ≡ P.ahead ++ (d.entry ∷ P.behind) = rw z at P.was in
        let x : queue v c ≡ P.ahead ++ P.behind = rw z at P.is in
        let y' = ap (count p) y ∙ count_append P.ahead (d.entry ∷ P.behind) in
        let x' = ap (count p) x ∙ count_append P.ahead P.behind in
        omega arith
    go false q = let z = eqb-false d.class c q in let x = ap (count p) (P.others c (λ y. z (sym y))) in omega arith

pub nothing_lost_or_doubled : NothingLostOrDoubled
unfolding departures entrances entering arrived settled_at entered_into left_from
nothing_lost_or_doubled i left k why s s' S (stops e) c p = refl
nothing_lost_or_doubled i left k why s s' S (arrives {left = l} {k = j} e t) c p =
    let r = nothing_lost_or_doubled i l j why (arrived i s) s' (arrived_sound i s S) t c p in
    r ∙ ⊎_elim
    (λ v. entered_count p s.waiting (arrived i s).waiting v.handed v.enters c (entrances t)
    ∙ ap (λ (hs : List Handed). count p (queue s.waiting c) + count p (entered_into c (hs ++ entrances t))) (sym v.list))
    (λ v. ap₂ (λ (w : Waiting) (hs : List Handed). count p (queue w c) + count p (entered_into c (hs ++ entrances t))) v.stays (sym v.list))
    (arrival_ways i s S)
nothing_lost_or_doubled i left k why s s' S (picks {left = l} {k = j} m e t) c p =
    let v = leaves i (suc l) s m e S in
    let r = nothing_lost_or_doubled i l j why (picked_at i s m.0) s' (picked_sound i (suc l) s m e S) t c p in
    let q = ap (λ (x : State). count p (queue x.waiting c)) v.state in
    let d = ap (λ (ds : List Departure). count p (left_from c ds)) (departs i l s m e S t) in
    let n = left_count p s.waiting v.rest m.0 (record { class = v.class; entry = v.entry; moment = m.0 }) v.picks c (departures t) in
    omega arith
