-- Laws of what a run keeps beside the waiting places: how it follows an entry and one that leaves. Assumes nothing.
use mathlib.Core.Path.{◌≡◌, refl, sym, ap, ◌∙◌}
use mathlib.Core.Bool.{Bool, true, false, cond, ◌&&◌}
use mathlib.Core.List.{List}
use Prim.Native.Nat.{ℕ, ◌+◌, ◌≤◌, ◌<◌}
use native.Mathlib.Omega.{arith}
use lib.Dec.{ltb, eqb}
use lib.ListN.{length, get_or, set, length-set}
use lib.Seq.{get_or-set_same, get_or-set_other, set-get_or}
use borrow.Author.Tests.{ltb-true, lt-ltb, le-ltb, eqb-true, eqb-false}
use Rattle.std.specs.Prelude.{Option, Some, None, Ok, Err}
use Rattle.quantity.specs.Kinds.{ticks}
use Rattle.quantity.specs.Ranges.{in_range, most_of}
use Rattle.quantity.specs.declared.Item.TheVariants.{Class, Charge, EntryTime}
use Rattle.quantity.specs.declared.Refusal.TheVariants.{ClassFull}
use Rattle.quantity.proofs.Booleans.{both}
use Rattle.quantity.proofs.Ranges.{at_most}
use Rattle.places.specs.Queue.{classes, places as room_of_class}
use Rattle.classes.specs.Soundness.{entry_sound}
use Rattle.places.specs.Places.{with_last, has_room, AfterPut, put_gives, AfterTake, take_gives}
use Rattle.firsts.specs.Firsts.{first_of}
use Rattle.classes.specs.Calls.{enter_gives, due_of}
use Rattle.places.specs.declared.Waiting.{Waiting}
use Rattle.places.specs.declared.Entry.{Entry}
use Rattle.firsts.specs.declared.First.{First}
use Rattle.classes.specs.declared.Due.{Due}
use Rattle.waiting.proofs.Choosing.{Chosen, chosen}
use Rattle.waiting.proofs.Cases.{taken}
use Rattle.waiting.proofs.Kept.{last_beside, or_last, due_inside, put_keeps, put_first, put_first_other, take_keeps, take_first_other, enter_untested}
use Rattle.line.specs.Firsts.{never, noted, noted_at, Noted, Keeps, Enterable}
use Rattle.line.specs.declared.Handed.{Handed}

-- ---- one class noted anew
each_set : (f : List First) (c : ℕ) (x : First) (Q : ℕ → First → Type 0) → c < length f → Q c x → (j : ℕ) → ((j ≡ c → ⊥) → Q j (noted_at f j)) → Q j (noted_at (set f c x) j)
each_set f c x Q h here j there = go (eqb j c) refl where
  go : (b : Bool) → eqb j c ≡ b → Q j (noted_at (set f c x) j)
  go true e = let z = eqb-true j c e in rw (z, get_or-set_same f c x (record { place = 0; time = ticks 0 }) h) here
  go false e = let z = eqb-false j c e in rw (get_or-set_other f c j x (record { place = 0; time = ticks 0 }) z) (there z)

-- the next class, where those below it are noted
pub note_next : (ts fs : List ℕ) (f : List First) (n : ℕ) → Noted ts fs f n → n < classes → (x : First) → x ≡ noted (first_of ts fs n) → Noted ts fs (set f n x) (n + 1)
note_next ts fs f n k h x e =
    let p = k.long in
    record {
      long = length-set f n x ∙ p;
      first = λ c l. each_set f n x (λ j y. y ≡ noted (first_of ts fs j)) (omega arith) e c (λ d. k.first c (omega arith));
    }

-- one class, where the firsts of the others stay
module _ (ts fs ts' fs' : List ℕ) (f : List First) (c : ℕ) (h : c < classes) (k : Noted ts fs f classes)
    (others : (d : ℕ) → (d ≡ c → ⊥) → first_of ts' fs' d ≡ first_of ts fs d) where
  note_anew : (x : First) → x ≡ noted (first_of ts' fs' c) → Noted ts' fs' (set f c x) classes
  note_anew x e =
      let p = k.long in
      record {
        long = length-set f c x ∙ p;
        first = λ d l. each_set f c x (λ j y. y ≡ noted (first_of ts' fs' j)) (omega arith) e d (λ n. k.first d l ∙ ap noted (sym (others d n)));
      }

  note_stays : noted_at f c ≡ noted (first_of ts' fs' c) → Noted ts' fs' f classes
  note_stays e = rw (set-get_or f c (record { place = 0; time = ticks 0 })) at (note_anew (noted_at f c) e)

-- ---- the times are those of sound entries
pub fine_time : (t b : ℕ) → entry_sound t b ≡ true → t ≤ most_of EntryTime
unfolding entry_sound
fine_time t b e = at_most EntryTime t (both (in_range Charge b) (in_range EntryTime t) e).1

pub fine_bits : (t b : ℕ) → entry_sound t b ≡ true → b ≤ most_of Charge
unfolding entry_sound
fine_bits t b e = at_most Charge b (both (in_range Charge b) (in_range EntryTime t) e).0

-- ---- entering
-- the first of a class with one entry more of time t
last_lower : (o : Option First) (n t : ℕ) → t < (noted o).time.0 → record { place = n; time = ticks t } ≡ or_last o n t
unfolding or_last last_beside
last_lower None n t h = refl
last_lower (Some f) n t h = rw (lt-ltb t f.time.0 h) refl

last_stays : (o : Option First) (n t : ℕ) → (noted o).time.0 ≤ t → t < never → noted o ≡ or_last o n t
unfolding or_last last_beside
last_stays None n t h l = absurd (omega arith)
last_stays (Some f) n t h l = rw (le-ltb t f.time.0 h) refl

-- what putting says by its answer
pub put_not : (w : Waiting) (c : ℕ) (e : Entry) → (put_gives w c e).placed ≡ false → (put_gives w c e).waiting ≡ w
unfolding put_gives
put_not w c e = go (in_range Class c && has_room w.fills c) where
  go : (b : Bool) → let p : AfterPut = cond b (record { placed = true; waiting = with_last w c e }) (record { placed = false; waiting = w }) in p.placed ≡ false → p.waiting ≡ w
  go true h = let z : ◌≡◌ {A = ℕ} 0 1 = cc in absurd (omega arith)
  go false h = refl

pub put_did : (w : Waiting) (c : ℕ) (e : Entry) → (put_gives w c e).placed ≡ true → (get_or w.fills c 0 < room_of_class) × ((put_gives w c e).waiting ≡ with_last w c e)
unfolding put_gives has_room
put_did w c e = go (in_range Class c) (ltb (get_or w.fills c 0) room_of_class) refl where
  go : (a b : Bool) → ltb (get_or w.fills c 0) room_of_class ≡ b
      → let p : AfterPut = cond (a && b) (record { placed = true; waiting = with_last w c e }) (record { placed = false; waiting = w }) in p.placed ≡ true → (get_or w.fills c 0 < room_of_class) × (p.waiting ≡ with_last w c e)
  go true true q h = (ltb-true (get_or w.fills c 0) room_of_class q, refl)
  go true false q h = let z : ◌≡◌ {A = ℕ} 0 1 = cc in absurd (omega arith)
  go false b q h = let z : ◌≡◌ {A = ℕ} 0 1 = cc in absurd (omega arith)

module _ (w : Waiting) (f : List First) (h : Handed) (K : Keeps w f) (E : Enterable h) (b : Bool) (W : Waiting)
    (e : record { placed = b; waiting = W } ≡ put_gives w h.class h.entry) where
  -- what the code's test says
  gives : (t : Bool) → b ≡ t → record { placed = t; waiting = W } ≡ put_gives w h.class h.entry
  gives t q = ap (λ (x : Bool). record { placed = x; waiting = W }) (sym q) ∙ e

  enters : (t : Bool) → b ≡ t → record { answer = cond t (Ok tt) (Err ClassFull); waiting = W } ≡ enter_gives w h.class h.entry
  enters t q =
      ap (λ (p : AfterPut). record { answer = cond p.placed (Ok tt) (Err ClassFull); waiting = p.waiting }) (gives t q)
      ∙ sym (enter_untested w h.class h.entry K.sound E.class E.entry)

  module _ (n : b ≡ false) where
    pub full_gives : record { answer = Err ClassFull; waiting = W } ≡ enter_gives w h.class h.entry
    full_gives = enters false n

    pub full_keeps : Keeps W f
    full_keeps =
        let g = gives false n in
        let z : W ≡ w = ap (λ (x : AfterPut). x.waiting) g ∙ put_not w h.class h.entry (sym (ap (λ (x : AfterPut). x.placed) g)) in
        rw z K

  module _ (d : b ≡ true) where
    pub in_gives : record { answer = Ok tt; waiting = W } ≡ enter_gives w h.class h.entry
    in_gives = enters true d

    abbrev v : Waiting
    v = with_last w h.class h.entry

    entered : (get_or w.fills h.class 0 < room_of_class) × (W ≡ v)
    entered =
        let g = gives true d in
        let z = put_did w h.class h.entry (sym (ap (λ (x : AfterPut). x.placed) g)) in
        (z.0, ap (λ (x : AfterPut). x.waiting) g ∙ z.1)

    keep : (g : List First) → Noted v.times v.fills g classes → Keeps W g
    keep g n =
        let z = put_keeps w h.class h.entry K.shaped E.class entered.0 K.sound E.entry in
        rw entered.1 (record { shaped = z.0; sound = z.1; noted = n })

    first_now : or_last (first_of w.times w.fills h.class) (get_or w.fills h.class 0) h.entry.time.0 ≡ noted (first_of v.times v.fills h.class)
    first_now = ap noted (sym (put_first w h.class h.entry K.shaped E.class entered.0))

    others : (d : ℕ) → (d ≡ h.class → ⊥) → first_of v.times v.fills d ≡ first_of w.times w.fills d
    others = put_first_other w h.class h.entry K.shaped E.class entered.0

    was : noted_at f h.class ≡ noted (first_of w.times w.fills h.class)
    was = K.noted.first h.class (omega (arith, E.class))

    pub lower_keeps : h.entry.time.0 < (noted_at f h.class).time.0 → Keeps W (set f h.class (record { place = get_or w.fills h.class 0; time = h.entry.time }))
    lower_keeps l =
        let l' : h.entry.time.0 < (noted (first_of w.times w.fills h.class)).time.0 = rw was at l in
        keep (set f h.class (record { place = get_or w.fills h.class 0; time = h.entry.time }))
        (note_anew w.times w.fills v.times v.fills f h.class (omega (arith, E.class)) K.noted others _
        (last_lower (first_of w.times w.fills h.class) (get_or w.fills h.class 0) h.entry.time.0 l' ∙ first_now))

    pub stay_keeps : (noted_at f h.class).time.0 ≤ h.entry.time.0 → Keeps W f
    stay_keeps l =
        let l' : (noted (first_of w.times w.fills h.class)).time.0 ≤ h.entry.time.0 = rw was at l in
        let z = last_stays (first_of w.times w.fills h.class) (get_or w.fills h.class 0) h.entry.time.0 l' (omega (arith, fine_time h.entry.time.0 h.entry.bits.0 E.entry)) in
        keep f (note_stays w.times w.fills v.times v.fills f h.class (omega (arith, E.class)) K.noted others (was ∙ z ∙ first_now))

-- ---- leaving
module _ (w : Waiting) (f : List First) (K : Keeps w f) (m : ℕ) (d : Due) (is : due_of w.times w.fills m ≡ Some d) where
  choice : Chosen w.times w.fills m classes d
  unfolding due_of
  choice = chosen w.times w.fills m classes d is

  pub due_class : d.class < classes
  due_class = choice.below

  -- x is what was taken out
  pub left_keeps : (x : AfterTake) → x ≡ take_gives w d.class d.place → (y : First) → y ≡ noted (first_of x.waiting.times x.waiting.fills d.class) → Keeps x.waiting (set f d.class y)
  left_keeps x e y n =
      let inside = due_inside w m classes d choice in
      let z = take_keeps w d.class d.place K.shaped inside K.sound in
      let u = e ∙ taken w d.class d.place inside in
      let n' = n ∙ ap (λ (a : AfterTake). noted (first_of a.waiting.times a.waiting.fills d.class)) u in
      rw u (record {
        shaped = z.0;
        sound = z.1;
        noted = note_anew w.times w.fills _ _ f d.class choice.below K.noted (take_first_other w d.class d.place K.shaped inside) y n';
      })
