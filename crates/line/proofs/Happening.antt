-- What one event does to the queues, as cases: a frame enters last, or the queues stay; a pick takes the entry that the rule names. Sound queues stay sound. Assumes nothing.
use mathlib.Core.Path.{◌≡◌, refl, sym, ap, ◌∙◌}
use mathlib.Core.Bool.{Bool, true, false, cond}
use mathlib.Core.Logic.{◌⊎◌, inl, inr, ⊎_elim}
use mathlib.Core.List.{[], ◌∷◌, ◌++◌}
use Prim.Native.Nat.{ℕ, ◌+◌, ◌*◌, ◌≤◌, max}
use native.Mathlib.Omega.{arith}
use lib.ListN.{length, get_or, set}
use Rattle.quantity.proofs.Refusals.{refusal_number}
use Rattle.quantity.specs.Ranges.{most_of}
use Rattle.quantity.specs.Numbers.{number_of}
use Rattle.quantity.specs.declared.Item.TheVariants.{Charge}
use Rattle.quantity.specs.declared.Refusal.TheVariants.{ClassFull}
use Rattle.quantity.specs.declared.Ticks.{Ticks}
use Rattle.records.specs.Numbers.{answer_number}
use Rattle.records.specs.declared.Group.{Group}
use Rattle.records.specs.declared.Answer.{Answer}
use Rattle.records.specs.declared.Answer.TheVariants.{Released, Discarded, Refused}
use Rattle.places.specs.Queue.{places, entry_at, Shaped}
use Rattle.waiting.specs.Rules.{Each, After, Enters, Picks, NothingEligible}
use Rattle.classes.specs.Soundness.{all_sound}
use Rattle.places.specs.Places.{with_last, put_gives, without}
use Rattle.classes.specs.Calls.{Entered, enter_gives, due_of, picked_after, pick_gives}
use Rattle.firsts.specs.Firsts.{smallest_of}
use Rattle.places.specs.declared.Waiting.{Waiting}
use Rattle.places.specs.declared.Entry.{Entry}
use Rattle.std.specs.Prelude.{Some, Ok, Err}
use Rattle.places.specs.declared.After.{After as AfterCall}
use Rattle.places.specs.declared.Picked.{Picked}
use Rattle.places.specs.declared.Picked.TheVariants.{Leaves}
use Rattle.waiting.proofs.Lines.{each_split, each_head}
use Rattle.waiting.proofs.Choosing.{chosen}
use Rattle.waiting.proofs.Cases.{Taking, pick_ways, taken}
use Rattle.waiting.proofs.Kept.{due_inside, put_keeps, take_keeps, taken_fine, enter_untested}
use Rattle.waiting.proofs.Promises.{enters_last, picks_first, picks_nothing, smallest_is_smallest}
use Rattle.event.specs.declared.Step.TheVariants.{Pick}
use Rattle.event.proofs.Steps.{Picks as PicksAt, step_picks, event_picks}
use Rattle.line.specs.Run.{Input, State, step, handed, entered, settled, frame_at, group_of, settled_at, arrived, sending_ticks, sent, picked_at}
use Rattle.line.specs.Events.{entering_by, entering_of}
use Rattle.line.specs.Promises.{Sound}
use Rattle.line.specs.Firsts.{Enterable}
use Rattle.line.specs.declared.Handed.{Handed}
use Rattle.line.proofs.Noting.{put_not, put_did, fine_bits}
use Rattle.line.proofs.Settling.{may_enter}

-- ---- an arrival
-- the frame enters: it is released, and its class has room
pub record Enter (w : Waiting) (g : Group) (k n : ℕ) (a : Answer) : Type 0 where
  pub handed : Handed
  pub list : entering_of w g k n a ≡ handed ∷ []
  pub handle : handed.entry.handle ≡ k
  pub number : (settled w g k n a).number ≡ answer_number a
  pub zero : (settled w g k n a).number ≡ 0
  pub enters : Enters w (settled w g k n a).waiting handed.class handed.entry
  pub shaped : Shaped (settled w g k n a).waiting
  pub sound : all_sound (settled w g k n a).waiting.times (settled w g k n a).waiting.bits (settled w g k n a).waiting.fills ≡ true

-- or it does not
pub record Pass (w : Waiting) (g : Group) (k n : ℕ) (a : Answer) : Type 0 where
  pub list : entering_of w g k n a ≡ []
  pub number : ((settled w g k n a).number ≡ answer_number a) ⊎ ((answer_number a ≡ 0) × ((settled w g k n a).number ≡ number_of ClassFull))
  pub some : (settled w g k n a).number ≡ 0 → ⊥
  pub stays : (settled w g k n a).waiting ≡ w

module _ (w : Waiting) (g : Group) (k n : ℕ) (sh : Shaped w) (so : all_sound w.times w.bits w.fills ≡ true) where
  settle_ways : (a : Answer) → ((T : Ticks) → a ≡ Released T → Enterable (handed g k n T.0)) → Enter w g k n a ⊎ Pass w g k n a
  unfolding settled entered entering_of entering_by answer_number handed
  settle_ways (Discarded T) may = inr (record { list = refl; number = inl refl; some = λ e. omega arith; stays = refl })
  settle_ways (Refused why) may = inr (record { list = refl; number = inl refl; some = λ e. omega (arith, refusal_number why); stays = refl })
  settle_ways (Released T) may = go (put_gives w h.class h.entry).placed refl where
    h : Handed
    h = handed g k n T.0

    E : Enterable h
    E = may T refl

    X : AfterCall Entered
    X = enter_gives w h.class h.entry

    told : X ≡ record { answer = cond (put_gives w h.class h.entry).placed (Ok tt) (Err ClassFull); waiting = (put_gives w h.class h.entry).waiting }
    told = enter_untested w h.class h.entry so E.class E.entry

    go : (b : Bool) → (put_gives w h.class h.entry).placed ≡ b → Enter w g k n (Released T) ⊎ Pass w g k n (Released T)
    go true q =
        let d = put_did w h.class h.entry q in
        let u : X ≡ record { answer = Ok tt; waiting = with_last w h.class h.entry } = told ∙ rw (q, d.1) refl in
        let z = put_keeps w h.class h.entry sh E.class d.0 so E.entry in
        inl (record {
          handed = h;
          list = rw u refl;
          handle = refl;
          number = rw u refl;
          zero = rw u refl;
          enters = enters_last w h.class h.entry sh (ap (λ (x : AfterCall Entered). x.answer) u);
          shaped = rw u z.0;
          sound = rw u z.1;
        })
    go false q =
        let u : X ≡ record { answer = Err ClassFull; waiting = w } = told ∙ rw (q, put_not w h.class h.entry q) refl in
        inr (record { list = rw u refl; number = inr (refl, rw u refl); some = rw u (λ e. omega arith); stays = rw u refl })

module _ (i : Input) (s : State) (S : Sound s) where
  abbrev EntersNow : Type 0
  EntersNow = Enter s.waiting (group_of i s.bridge s.next) s.next (get_or i.octets s.next 0) (frame_at i s.bridge s.next).answer

  abbrev PassesNow : Type 0
  PassesNow = Pass s.waiting (group_of i s.bridge s.next) s.next (get_or i.octets s.next 0) (frame_at i s.bridge s.next).answer

  pub arrival_ways : EntersNow ⊎ PassesNow
  unfolding group_of frame_at
  arrival_ways =
      settle_ways s.waiting (group_of i s.bridge s.next) s.next (get_or i.octets s.next 0) S.shaped S.sound (frame_at i s.bridge s.next).answer
      (λ T e. may_enter s.bridge (get_or i.ids s.next 0) (get_or i.octets s.next 0) (get_or i.arrivals s.next 0) T e s.next)

  pub arrived_sound : Sound (arrived i s)
  unfolding arrived settled_at
  arrived_sound = ⊎_elim (λ v. record { shaped = v.shaped; sound = v.sound }) (λ v. record { shaped = rw v.stays S.shaped; sound = rw v.stays S.sound }) arrival_ways

-- ---- a pick
pub record Leave (i : Input) (s : State) (m : ℕ) : Type 0 where
  pub class : ℕ
  pub entry : Entry
  pub rest : Waiting
  pub gives : pick_gives s.waiting m ≡ record { answer = Leaves class entry; waiting = rest }
  pub picks : Picks s.waiting rest m class entry
  pub light : entry.bits.0 ≤ most_of Charge
  pub shaped : Shaped rest
  pub sound : all_sound rest.times rest.bits rest.fills ≡ true
  pub state : picked_at i s m ≡ record {
    bridge = s.bridge;
    waiting = rest;
    next = s.next;
    free = m + sending_ticks entry.bits.0 i.rate;
    events = s.events + 1;
    picks = s.picks + 1;
    answers = s.answers;
    picked = set s.picked s.picks entry.handle;
    moments = set s.moments s.picks m;
  }

module _ (w : Waiting) (t : Ticks) (m : ℕ) (e : smallest_of w.times w.fills ≡ Some t) (h : t.0 ≤ m) where
  -- where something waits at a time that is not after m, a pick at m finds an entry
  some_eligible : NothingEligible w m → ⊥
  some_eligible n =
      let z = (smallest_is_smallest w).0 t e in
      let y : Each (After m) (z.ahead ++ (z.entry ∷ z.behind)) = rw z.waits at (n z.class) in
      let x = (each_head (each_split z.ahead (z.entry ∷ z.behind) y).1).0 in
      let v = z.has in
      omega arith

module _ (i : Input) (s : State) (S : Sound s) (m : ℕ) where
  leaves_from : Taking s.waiting m → Leave i s m
  unfolding due_of picked_at sent
  leaves_from k =
      let w = s.waiting in
      let d = k.chosen in
      let inside = due_inside w m 8 d (chosen w.times w.fills m 8 d k.due) in
      let z = take_keeps w d.class d.place S.shaped inside S.sound in
      let e : Entry = entry_at w (d.class * places + d.place) in
      let u : pick_gives w m ≡ record { answer = Leaves d.class e; waiting = without w d.class d.place } = k.gives ∙ ap (picked_after d.class) (taken w d.class d.place inside) in
      record {
        class = d.class;
        entry = e;
        rest = without w d.class d.place;
        gives = u;
        picks = rw (ap (λ (x : AfterCall Picked). x.waiting) u) at (picks_first w m d.class e S.shaped (ap (λ (x : AfterCall Picked). x.answer) u));
        light = fine_bits e.time.0 e.bits.0 (taken_fine w d.class d.place S.shaped inside S.sound);
        shaped = z.0;
        sound = z.1;
        state = ap (λ (x : AfterCall Picked). sent i s m x.waiting x.answer) u;
      }

  pub pick_leaves : (t : Ticks) → smallest_of s.waiting.times s.waiting.fills ≡ Some t → t.0 ≤ m → Leave i s m
  pick_leaves t e h =
      ⊎_elim (λ v. let z : false ≡ true = sym v.sound ∙ S.sound in let y : ◌≡◌ {A = ℕ} 0 1 = cc in absurd (omega arith))
      (⊎_elim (λ v. absurd (some_eligible s.waiting t m e h (picks_nothing s.waiting m (ap (λ (x : AfterCall Picked). x.answer) v.gives)).0)) leaves_from)
      (pick_ways s.waiting m)

-- what a pick as the next step says
module _ (i : Input) (left : ℕ) (s : State) (m : Ticks) (e : step i left s ≡ Pick m) where
  pub picks_at : PicksAt left s.picks (length s.picked) (length s.moments) m.0
  unfolding step
  picks_at = (step_picks left s.picks (length s.picked) (length s.moments) _ m e).1

  candidate : (t : Ticks) × (smallest_of s.waiting.times s.waiting.fills ≡ Some t) × (m.0 ≡ max s.free t.0)
  unfolding step
  candidate = event_picks i.arrivals s.next s.free (smallest_of s.waiting.times s.waiting.fills) m.0 (step_picks left s.picks (length s.picked) (length s.moments) _ m e).0

  pub free_by : s.free ≤ m.0
  free_by = let z = candidate.2 in omega arith

  pub leaves : Sound s → Leave i s m.0
  leaves S = let z = candidate.2 in pick_leaves i s S m.0 candidate.0 candidate.1 (omega arith)

  pub picked_sound : Sound s → Sound (picked_at i s m.0)
  picked_sound S = let v = leaves S in rw v.state (record { shaped = v.shaped; sound = v.sound })
