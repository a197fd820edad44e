-- Proofs of the statements of specs/Promises.antt, each under its name. Assumes nothing.
use mathlib.Core.Path.{◌≡◌, refl, sym, ap, ap₂, ◌∙◌}
use mathlib.Core.Bool.{Bool, true, false}
use mathlib.Core.List.{List, [], ◌∷◌, ◌++◌}
use mathlib.Core.Logic.{⊎_elim}
use Prim.Native.Nat.{ℕ, ◌+◌, ◌*◌, ◌-◌, ◌≤◌, ◌<◌}
use native.Mathlib.Omega.{arith}
use lib.Dec.{ltb, eqb}
use lib.ListN.{length, get_or}
use borrow.Author.Tests.{ltb-true, ltb-false, eqb-true, eqb-false}
use Rattle.quantity.specs.Numbers.{least_refusal, number_of}
use Rattle.quantity.specs.declared.Refusal.{Refusal}
use Rattle.quantity.proofs.Refusals.{refusal_number, same_refusal}
use Rattle.quantity.specs.declared.Item.TheVariants.{Class}
use Rattle.quantity.specs.declared.Refusal.TheVariants.{Unsound, ClassFull}
use Rattle.quantity.proofs.Ranges.{at_most}
use Rattle.places.specs.declared.Waiting.{Waiting}
use Rattle.places.specs.declared.Entry.{Entry}
use Rattle.std.specs.Prelude.{None, Ok, Err}
use Rattle.places.specs.declared.Picked.{Picked}
use Rattle.places.specs.declared.Picked.TheVariants.{Leaves, Nothing, Refused as NotPicked}
use Rattle.places.specs.declared.After.{After}
use Rattle.quantity.specs.declared.Ticks.{Ticks}
use Rattle.places.specs.Queue.{places, classes, nothing, count_of, entry_at, entries_from, queue, Shaped}
use Rattle.waiting.specs.Rules.{Each, none, NotBefore, Enters, Picks, NothingEligible, SmallestTime}
use Rattle.classes.specs.Soundness.{every, entry_sound, class_sound, all_sound}
use Rattle.places.specs.Places.{with_last, has_room, without}
use Rattle.classes.specs.Calls.{Entered, not_entered, enter_gives, due_of, picked_after, pick_gives}
use Rattle.firsts.specs.Firsts.{smallest_of}
use Rattle.waiting.specs.Answers.{entered_number, picked_number, picked_values}
use Rattle.waiting.specs.Promises.{Reached, start, entering, picking, ReachedIsSound, ReachedIsNeverRefused, EnteredIsLast, FullIsThirtyTwo, PickedIsFirst, PickIsFixed, NothingIsNothing, RefusedChangesNothing, SmallestIsSmallest}
use Rattle.places.proofs.Counts.{count_is}
use Rattle.waiting.proofs.Lines.{each_split, each_head, same_first}
use Rattle.waiting.proofs.Standing.{queue_length, queue_beyond, last_entered, others_stay, stood, stands, others_remain}
use Rattle.waiting.proofs.SoundClasses.{Fine, each_class, class_means}
use Rattle.waiting.proofs.Choosing.{Chosen, chosen, none_chosen, all_after, all_classes_after}
use Rattle.waiting.proofs.SmallestTimes.{nothing_below, Least, smallest_below_law}
use Rattle.waiting.proofs.Kept.{lead, first_parts, first_time, due_first, due_inside, put_keeps, take_keeps}
use Rattle.waiting.proofs.Cases.{Refusing, Accepting, enter_ways, NotPicking, Idle, Taking, pick_ways, taken}

-- ---- an answer is known by its number and its values

is_done : (a : Entered) → entered_number a ≡ 0 → a ≡ Ok tt
is_done (Ok done) h = refl
is_done (Err why) h = absurd (omega (arith, h, (refusal_number why).0))

is_not_entered : (x : Refusal) (a : Entered) → entered_number a ≡ number_of x → a ≡ Err x
is_not_entered x (Ok done) h = absurd (omega (arith, h, (refusal_number x).0))
is_not_entered x (Err why) h = ap (λ (y : Refusal). Err y) (same_refusal why x h)

is_nothing : (a : Picked) → picked_number a ≡ picked_number Nothing → a ≡ Nothing
is_nothing (Leaves c e) h = absurd (omega (arith, h))
is_nothing Nothing h = refl
is_nothing (NotPicked why) h = absurd (omega (arith, h, (refusal_number why).0))

is_not_picked : (x : Refusal) (a : Picked) → picked_number a ≡ number_of x → a ≡ NotPicked x
is_not_picked x (Leaves c e) h = absurd (omega (arith, h, (refusal_number x).0))
is_not_picked x Nothing h = absurd (omega (arith, h, (refusal_number x).0))
is_not_picked x (NotPicked why) h = ap (λ (y : Refusal). NotPicked y) (same_refusal why x h)

-- the answer that has these values
leaves_with : List ℕ → Picked
leaves_with l = Leaves (get_or l 0 0) (record { handle = get_or l 1 0; time = record { 0 = get_or l 2 0 }; bits = record { 0 = get_or l 3 0 } })

is_leaving : (a : Picked) (c : ℕ) (e : Entry) → picked_number a ≡ 0 → picked_values a ≡ picked_values (Leaves c e) → a ≡ Leaves c e
unfolding leaves_with
is_leaving (Leaves d x) c e h v = ap leaves_with v
is_leaving Nothing c e h v = absurd (omega (arith, h))
is_leaving (NotPicked why) c e h v = absurd (omega (arith, h, (refusal_number why).0))

-- ---- an entry that entered
module _ (w : Waiting) (c : ℕ) (e : Entry) (a : Accepting w c e) where
  in-class : c ≤ 7
  in-class = at_most Class c a.class

  has_room_law : get_or w.fills c 0 < places
  unfolding has_room
  has_room_law = ltb-true (get_or w.fills c 0) places a.room

  is_fine : Fine e
  unfolding entry_sound
  is_fine = let b = a.charge in let t = a.time in rw (b, t) refl

  enters : Shaped w → Enters w (with_last w c e) c e
  enters s = record { last = last_entered w c e s in-class has_room_law; others = others_stay w c e s in-class has_room_law }

-- the answer of entering and what it leaves
abbrev answer_of : After Entered → Entered
answer_of x = x.answer

abbrev left_by : After Entered → Waiting
left_by x = x.waiting

refused_is : (w : Waiting) (c : ℕ) (e : Entry) (r : Refusing w c e) → (enter_gives w c e).answer ≡ Err r.why
unfolding not_entered
refused_is w c e r = ap answer_of r.gives

refused_left : (w : Waiting) (c : ℕ) (e : Entry) (r : Refusing w c e) → (enter_gives w c e).waiting ≡ w
unfolding not_entered
refused_left w c e r = ap left_by r.gives

-- by the answer itself
pub enters_last : (w : Waiting) (c : ℕ) (e : Entry) → Shaped w → (enter_gives w c e).answer ≡ Ok tt → Enters w (enter_gives w c e).waiting c e
enters_last w c e s h = ⊎_elim (λ r. absurd (no r)) (λ a. yes a) (enter_ways w c e) where
  no : Refusing w c e → ⊥
  no r = let g = refused_is w c e r in let z : ◌≡◌ {A = ℕ} 0 1 = cc in omega arith

  yes : Accepting w c e → Enters w (enter_gives w c e).waiting c e
  yes a = rw (ap left_by a.gives) (enters w c e a s)

pub entered_is_last : EnteredIsLast
entered_is_last w c e s h = enters_last w c e s (is_done (enter_gives w c e).answer h)

full_answers : (w : Waiting) (c : ℕ) (e : Entry) →
    ((enter_gives w c e).answer ≡ Err ClassFull → length (queue w c) ≡ places) × ((enter_gives w c e).answer ≡ Ok tt → length (queue w c) < places)
unfolding has_room
full_answers w c e = (λ h. ⊎_elim (λ r. full h r) (λ a. absurd (not_full h a)) (enter_ways w c e), λ h. ⊎_elim (λ r. absurd (not_done h r)) (λ a. done a) (enter_ways w c e)) where
  full : (enter_gives w c e).answer ≡ Err ClassFull → Refusing w c e → length (queue w c) ≡ places
  full h r =
      let g = refused_is w c e r in
      let y : r.why ≡ ClassFull = cc in
      let f = r.full y in
      let i = at_most Class c f.0 in
      let m = (class_means w c i f.1.0).0 in
      let x = ltb-false (get_or w.fills c 0) places f.1.1 in
      let n = count_is w.fills c i m in
      queue_length w c ∙ omega arith

  not_full : (enter_gives w c e).answer ≡ Err ClassFull → Accepting w c e → ⊥
  not_full h a = let g : (enter_gives w c e).answer ≡ Ok tt = ap answer_of a.gives in let z : ◌≡◌ {A = ℕ} 0 1 = cc in omega arith

  not_done : (enter_gives w c e).answer ≡ Ok tt → Refusing w c e → ⊥
  not_done h r = let g = refused_is w c e r in let z : ◌≡◌ {A = ℕ} 0 1 = cc in omega arith

  done : Accepting w c e → length (queue w c) < places
  done a =
      let r = has_room_law w c e a in
      let n = count_is w.fills c (in-class w c e a) (omega arith) in
      omega (arith, queue_length w c)

-- ---- the entry that is picked
abbrev answered : After Picked → Picked
answered x = x.answer

abbrev remains : After Picked → Waiting
remains x = x.waiting

module _ (w : Waiting) (m : ℕ) (t : Taking w m) where
  abbrev c : ℕ
  c = t.chosen.class

  abbrev k : ℕ
  k = t.chosen.place

  choice : Chosen w.times w.fills m classes t.chosen
  unfolding due_of
  choice = chosen w.times w.fills m classes t.chosen t.due

  inside : k < count_of w.fills c
  inside = due_inside w m classes t.chosen choice

  gives : pick_gives w m ≡ record { answer = Leaves c (entry_at w (c * places + k)); waiting = without w c k }
  gives = t.gives ∙ ap (picked_after c) (taken w c k inside)

  picks : Shaped w → Picks w (without w c k) m c (entry_at w (c * places + k))
  picks s =
      let x = choice in
      let f = due_first w m classes t.chosen x in
      let l = lead w c _ f in
      let a = first_parts w c _ f s in
      let e = first_time w c _ f s in
      record {
        ahead = entries_from w (c * places) k;
        behind = entries_from w ((c * places + k) + 1) (get_or w.fills c 0 - (k + 1));
        was = stood w c k s inside;
        is = stands w c k s inside;
        others = others_remain w c k s inside;
        eligible = rw e x.early;
        highest = λ d h. all_classes_after w m (c + 1) (λ i y z. all_after w i m (x.higher i (omega arith) z)) d (omega arith);
        first = rw e (rw a.0 at l.first);
        smallest = rw e (rw a.1.1 at l.smallest);
      }

pub picks_first : (w : Waiting) (m c : ℕ) (e : Entry) → Shaped w → (pick_gives w m).answer ≡ Leaves c e → Picks w (pick_gives w m).waiting m c e
picks_first w m c e s h = ⊎_elim (λ r. absurd (no r)) (λ q. ⊎_elim (λ i. absurd (idle i)) (λ t. yes t) q) (pick_ways w m) where
  no : NotPicking w m → ⊥
  no r = let g : (pick_gives w m).answer ≡ NotPicked Unsound = ap answered r.gives in let z : ◌≡◌ {A = ℕ} 0 1 = cc in omega arith

  idle : Idle w m → ⊥
  idle i = let g : (pick_gives w m).answer ≡ Nothing = ap answered i.gives in let z : ◌≡◌ {A = ℕ} 0 1 = cc in omega arith

  yes : Taking w m → Picks w (pick_gives w m).waiting m c e
  yes t =
      let g : (pick_gives w m).answer ≡ Leaves t.chosen.class (entry_at w (t.chosen.class * places + t.chosen.place)) = ap answered (gives w m t) in
      let x : t.chosen.class ≡ c = cc in
      let y : entry_at w (t.chosen.class * places + t.chosen.place) ≡ e = cc in
      rw (ap remains (gives w m t), sym y, sym x) (picks w m t s)

pub picked_is_first : PickedIsFirst
picked_is_first w m c e s n v = picks_first w m c e s (is_leaving (pick_gives w m).answer c e n v)

pub picks_nothing : (w : Waiting) (m : ℕ) → (pick_gives w m).answer ≡ Nothing → NothingEligible w m × ((pick_gives w m).waiting ≡ w)
unfolding due_of
picks_nothing w m h = ⊎_elim (λ r. absurd (no r)) (λ q. ⊎_elim (λ i. yes i) (λ t. absurd (taking t)) q) (pick_ways w m) where
  no : NotPicking w m → ⊥
  no r = let g : (pick_gives w m).answer ≡ NotPicked Unsound = ap answered r.gives in let z : ◌≡◌ {A = ℕ} 0 1 = cc in omega arith

  taking : Taking w m → ⊥
  taking t =
      let g : (pick_gives w m).answer ≡ Leaves t.chosen.class (entry_at w (t.chosen.class * places + t.chosen.place)) = ap answered (gives w m t) in
      let z : ◌≡◌ {A = ℕ} 0 1 = cc in
      omega arith

  yes : Idle w m → NothingEligible w m × ((pick_gives w m).waiting ≡ w)
  yes i =
      (λ d. all_classes_after w m 0 (λ j y z. all_after w j m (none_chosen w.times w.fills m classes i.due j z)) d (omega arith), ap remains i.gives)

pub nothing_is_nothing : NothingIsNothing
nothing_is_nothing w m h = picks_nothing w m (is_nothing (pick_gives w m).answer h)

pub full_is_thirty_two : FullIsThirtyTwo
full_is_thirty_two w c e =
    (λ h. (full_answers w c e).0 (is_not_entered ClassFull (enter_gives w c e).answer h), λ h. (full_answers w c e).1 (is_done (enter_gives w c e).answer h))

-- ---- the rule names one entry only
module _ (w v v' : Waiting) (m c c' : ℕ) (e e' : Entry) (p : Picks w v m c e) (p' : Picks w v' m c' e') where
  not_lower : c < c' → ⊥
  not_lower l =
      let x = (each_head (each_split p'.ahead (e' ∷ p'.behind) (rw p'.was at (p.highest c' l))).1).0 in
      let y = p'.eligible in
      omega arith

pub pick_is_fixed : PickIsFixed
pick_is_fixed w v v' m c c' e e' p p' = (same, (parts.1.0, λ d. go d (eqb d c) refl)) where
  same : c ≡ c'
  same = go (ltb c c') (ltb c' c) refl refl where
    go : (x y : Bool) → ltb c c' ≡ x → ltb c' c ≡ y → c ≡ c'
    go true y f g = absurd (not_lower w v v' m c c' e e' p p' (ltb-true c c' f))
    go false true f g = absurd (not_lower w v' v m c' c e' e p' p (ltb-true c' c g))
    go false false f g = let a = ltb-false c c' f in let b = ltb-false c' c g in omega arith

  parts : (p.ahead ≡ p'.ahead) × ((e ≡ e') × (p.behind ≡ p'.behind))
  parts =
      same_first p.ahead e p.behind p'.ahead e' p'.behind (sym p.was ∙ ap (queue w) same ∙ p'.was) p.first p.smallest p'.first p'.smallest

  go : (d : ℕ) (x : Bool) → eqb d c ≡ x → queue v d ≡ queue v' d
  go d true f =
      let z = eqb-true d c f in
      rw z (p.is ∙ ap₂ (λ (a b : List Entry). a ++ b) parts.0 parts.1.1 ∙ sym p'.is ∙ ap (queue v') (sym same))
  go d false f =
      let n = eqb-false d c f in
      p.others d n ∙ sym (p'.others d (λ q. n (q ∙ sym same)))

-- ---- refusals
pub refused_changes_nothing : RefusedChangesNothing
refused_changes_nothing w = (λ c e h. ⊎_elim (λ r. refused_left w c e r) (λ a. absurd (accepted c e h a)) (enter_ways w c e), λ m h. ⊎_elim (λ r. refused m r) (λ q. ⊎_elim (λ i. absurd (idle m h i)) (λ t. absurd (taking m h t)) q) (pick_ways w m)) where
  accepted : (c : ℕ) (e : Entry) → least_refusal ≤ entered_number (enter_gives w c e).answer → Accepting w c e → ⊥
  accepted c e h a = let g : (enter_gives w c e).answer ≡ Ok tt = ap answer_of a.gives in let z : entered_number (enter_gives w c e).answer ≡ 0 = ap entered_number g in omega arith

  refused : (m : ℕ) → NotPicking w m → ((pick_gives w m).waiting ≡ w) × (picked_values (pick_gives w m).answer ≡ [])
  refused m r = (ap remains r.gives, ap picked_values (ap answered r.gives))

  idle : (m : ℕ) → least_refusal ≤ picked_number (pick_gives w m).answer → Idle w m → ⊥
  idle m h i = let z : picked_number (pick_gives w m).answer ≡ 2 = ap picked_number (ap answered i.gives) in omega arith

  taking : (m : ℕ) → least_refusal ≤ picked_number (pick_gives w m).answer → Taking w m → ⊥
  taking m h t = let z : picked_number (pick_gives w m).answer ≡ 0 = ap picked_number (ap answered (gives w m t)) in omega arith

-- ---- what is reached from empty
abbrev Good : Waiting → Type 0
Good w = Shaped w × (all_sound w.times w.bits w.fills ≡ true)

good_entered : (w : Waiting) (c : ℕ) (e : Entry) → Good w → Good (enter_gives w c e).waiting
good_entered w c e g = ⊎_elim (λ r. rw (refused_left w c e r) g) (λ a. rw (ap left_by a.gives) (yes a)) (enter_ways w c e) where
  yes : Accepting w c e → Good (with_last w c e)
  yes a = put_keeps w c e g.0 (in-class w c e a) (has_room_law w c e a) g.1 (is_fine w c e a)

good_picked : (w : Waiting) (m : ℕ) → Good w → Good (pick_gives w m).waiting
good_picked w m g = ⊎_elim (λ r. rw (ap remains r.gives) g) (λ q. ⊎_elim (λ i. rw (ap remains i.gives) g) (λ t. rw (ap remains (gives w m t)) (yes t)) q) (pick_ways w m) where
  yes : (t : Taking w m) → Good (without w t.chosen.class t.chosen.place)
  yes t = take_keeps w t.chosen.class t.chosen.place g.0 (inside w m t) g.1

pub reached_is_sound : ReachedIsSound
unfolding nothing all_sound every class_sound
reached_is_sound w start = (record { times = refl; handles = refl; bits = refl; fills = refl }, refl)
reached_is_sound _ (entering {w} r c e) = good_entered w c e (reached_is_sound w r)
reached_is_sound _ (picking {w} r m) = good_picked w m (reached_is_sound w r)

never_refused : (w : Waiting) → Reached w →
    ((c : ℕ) (e : Entry) → (enter_gives w c e).answer ≡ Err Unsound → ⊥) × ((m : ℕ) → (pick_gives w m).answer ≡ NotPicked Unsound → ⊥)
never_refused w r = (λ c e h. ⊎_elim (λ x. enter c e h x) (λ a. accepted c e h a) (enter_ways w c e), λ m h. ⊎_elim (λ x. pick m x) (λ q. ⊎_elim (λ i. idle m h i) (λ t. taking m h t) q) (pick_ways w m)) where
  sound : all_sound w.times w.bits w.fills ≡ true
  sound = (reached_is_sound w r).1

  enter : (c : ℕ) (e : Entry) → (enter_gives w c e).answer ≡ Err Unsound → Refusing w c e → ⊥
  enter c e h x =
      let g = refused_is w c e x in
      let y : x.why ≡ Unsound = cc in
      let u = x.unsound y in
      let s = each_class w sound c (at_most Class c u.0) in
      let n = u.1 in
      let z : ◌≡◌ {A = ℕ} 0 1 = cc in
      omega arith

  accepted : (c : ℕ) (e : Entry) → (enter_gives w c e).answer ≡ Err Unsound → Accepting w c e → ⊥
  accepted c e h a = let g : (enter_gives w c e).answer ≡ Ok tt = ap answer_of a.gives in let z : ◌≡◌ {A = ℕ} 0 1 = cc in omega arith

  pick : (m : ℕ) → NotPicking w m → ⊥
  pick m x = let s = sound in let n = x.sound in let z : ◌≡◌ {A = ℕ} 0 1 = cc in omega arith

  idle : (m : ℕ) → (pick_gives w m).answer ≡ NotPicked Unsound → Idle w m → ⊥
  idle m h i = let g : (pick_gives w m).answer ≡ Nothing = ap answered i.gives in let z : ◌≡◌ {A = ℕ} 0 1 = cc in omega arith

  taking : (m : ℕ) → (pick_gives w m).answer ≡ NotPicked Unsound → Taking w m → ⊥
  taking m h t =
      let g : (pick_gives w m).answer ≡ Leaves t.chosen.class (entry_at w (t.chosen.class * places + t.chosen.place)) = ap answered (gives w m t) in
      let z : ◌≡◌ {A = ℕ} 0 1 = cc in
      omega arith

pub reached_is_never_refused : ReachedIsNeverRefused
reached_is_never_refused w r =
    (λ c e h. (never_refused w r).0 c e (is_not_entered Unsound (enter_gives w c e).answer h), λ m h. (never_refused w r).1 m (is_not_picked Unsound (pick_gives w m).answer h))

pub smallest_is_smallest : SmallestIsSmallest
unfolding smallest_of
smallest_is_smallest w = (λ t h. time t (smallest_below_law w classes t h), λ h c. empty h c (ltb c classes) refl) where
  time : (t : Ticks) → Least w classes t.0 → SmallestTime w t.0
  time t l = record {
    class = l.class;
    ahead = l.ahead;
    entry = l.entry;
    behind = l.behind;
    waits = l.waits;
    has = l.has;
    smallest = λ d. go d (ltb d classes) refl;
  } where
    go : (d : ℕ) (x : Bool) → ltb d classes ≡ x → Each (NotBefore t.0) (queue w d)
    go d true q = l.smallest d (ltb-true d classes q)
    go d false q = let z = ltb-false d classes q in rw (queue_beyond w d (omega arith)) none

  empty : smallest_of w.times w.fills ≡ None → (c : ℕ) (x : Bool) → ltb c classes ≡ x → queue w c ≡ []
  empty h c true q = nothing_below w classes h c (ltb-true c classes q)
  empty h c false q = let z = ltb-false c classes q in queue_beyond w c (omega arith)
