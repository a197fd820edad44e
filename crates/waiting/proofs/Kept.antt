-- What a run may rely on that tests the classes once and then puts and takes out, with the first of each class kept beside them:
-- soundness and lengths stay, the tests may be left out, and how the first of each class changes. Assumes nothing.
use mathlib.Core.Path.{◌≡◌, refl, sym, ap, ap₂, ◌∙◌}
use mathlib.Core.Bool.{Bool, true, false, not, cond}
use mathlib.Core.List.{List, [], ◌∷◌, ◌++◌}
use Prim.Native.Nat.{ℕ, suc, ◌+◌, ◌*◌, ◌-◌, ◌≤◌, ◌<◌}
use native.Mathlib.Omega.{arith}
use lib.Dec.{ltb}
use lib.ListN.{length, length-append, get_or}
use Rattle.quantity.specs.Kinds.{ticks}
use Rattle.quantity.specs.Ranges.{in_range}
use Rattle.quantity.specs.declared.Item.TheVariants.{Class, Charge, EntryTime}
use Rattle.quantity.specs.declared.Refusal.TheVariants.{ClassFull}
use Rattle.quantity.proofs.Booleans.{both}
use Rattle.quantity.proofs.Ranges.{within}
use Rattle.places.specs.declared.Waiting.{Waiting}
use Rattle.places.specs.declared.Entry.{Entry}
use Rattle.std.specs.Prelude.{Option, Some, None, Ok, Err}
use Rattle.places.specs.declared.After.{After}
use Rattle.firsts.specs.declared.First.{First}
use Rattle.classes.specs.declared.Due.{Due}
use Rattle.places.specs.Queue.{places, count_of, entry_at, entries_from, queue, Shaped}
use Rattle.waiting.specs.Rules.{none, one}
use Rattle.classes.specs.Soundness.{entry_sound}
use Rattle.places.specs.Places.{with_last, has_room, AfterPut, put_gives, without}
use Rattle.classes.specs.Calls.{Entered, not_entered, enter_gives}
use Rattle.firsts.specs.Firsts.{first_from, first_in, first_of}
use Rattle.places.proofs.Counts.{count_is, count_all}
use Rattle.waiting.proofs.Lines.{times_of, Leads, each_join, each_split, each_head, same_front}
use Rattle.waiting.proofs.Standing.{queue_length, last_entered, others_stay, ahead_length, stood, stands, others_remain, shaped_entered, shaped_left}
use Rattle.waiting.proofs.SoundClasses.{Fine, AllSound, each_class, class_means, stays_sound}
use Rattle.waiting.proofs.Choosing.{Chosen, first_in_law, leads_class}

-- ---- one entry more
-- the first of a class that had the first f and n entries, with one more of time t behind them
unfoldable pub last_beside : First → ℕ → ℕ → First
last_beside f n t = cond (ltb t f.time.0) (record { place = n; time = ticks t }) f

unfoldable pub or_last : Option First → ℕ → ℕ → First
or_last None n t = record { place = n; time = ticks t }
or_last (Some f) n t = last_beside f n t

from_last : (p s k : ℕ) (l : List ℕ) (t : ℕ) → first_from p s k (l ++ (t ∷ [])) ≡ last_beside (first_from p s k l) (k + length l) t
unfolding first_from last_beside
from_last p s k [] t = let z : k + 0 ≡ k = omega arith in rw z refl
from_last p s k (x ∷ l) t = go (from_last k x (k + 1) l t) (from_last p s (k + 1) l t) (ltb x s) where
  go : first_from k x (k + 1) (l ++ (t ∷ [])) ≡ last_beside (first_from k x (k + 1) l) ((k + 1) + length l) t
      → first_from p s (k + 1) (l ++ (t ∷ [])) ≡ last_beside (first_from p s (k + 1) l) ((k + 1) + length l) t
      → (b : Bool) → cond b (first_from k x (k + 1) (l ++ (t ∷ []))) (first_from p s (k + 1) (l ++ (t ∷ [])))
      ≡ last_beside (cond b (first_from k x (k + 1) l) (first_from p s (k + 1) l)) (k + suc (length l)) t
  go new old true = let z : (k + 1) + length l ≡ k + suc (length l) = omega arith in rw z at new
  go new old false = let z : (k + 1) + length l ≡ k + suc (length l) = omega arith in rw z at old

in-last : (l : List ℕ) (t : ℕ) → first_in (l ++ (t ∷ [])) ≡ Some (or_last (first_in l) (length l) t)
unfolding first_in first_from or_last
in-last [] t = refl
in-last (x ∷ l) t = ap Some (from_last 0 x 1 l t ∙ ap (λ (n : ℕ). last_beside (first_from 0 x 1 l) n t) (let z : 1 + length l ≡ suc (length l) = omega arith in z))

times_last : (q : List Entry) (e : Entry) → times_of (q ++ (e ∷ [])) ≡ times_of q ++ (e.time.0 ∷ [])
times_last [] e = refl
times_last (x ∷ q) e = ap (λ (l : List ℕ). x.time.0 ∷ l) (times_last q e)

times_length : (q : List Entry) → length (times_of q) ≡ length q
times_length [] = refl
times_length (x ∷ q) = ap suc (times_length q)

-- ---- the first of a class depends on its entries alone
pub first_same : (w v : Waiting) (d : ℕ) → queue v d ≡ queue w d → first_of v.times v.fills d ≡ first_of w.times w.fills d
first_same w v d e = first_in_law v d ∙ ap (λ (q : List Entry). first_in (times_of q)) e ∙ sym (first_in_law w d)

-- ---- what a first says of the arrays
module _ (w : Waiting) (c : ℕ) where
  module _ (x : First) (f : first_of w.times w.fills c ≡ Some x) where
    abbrev k : ℕ
    k = x.place

    pub lead : Leads (queue w c) k x.time.0
    lead = leads_class w c x f

    pub first_inside : k < count_of w.fills c
    first_inside =
        let l = lead in
        let p = l.place in
        omega (arith, queue_length w c, ap length l.is, length-append l.ahead (l.entry ∷ l.behind))

    -- the entry at that place is the one that goes first, with those ahead of it and those behind it
    pub first_parts : Shaped w → (lead.ahead ≡ entries_from w (c * places) k) × ((lead.entry ≡ entry_at w (c * places + k)) × (lead.behind ≡ entries_from w ((c * places + k) + 1) (get_or w.fills c 0 - (k + 1))))
    first_parts s =
        same_front lead.ahead (entries_from w (c * places) k) lead.entry (entry_at w (c * places + k)) lead.behind (entries_from w ((c * places + k) + 1) (get_or w.fills c 0 - (k + 1)))
        (lead.place ∙ sym (ahead_length w c k s first_inside)) (sym lead.is ∙ stood w c k s first_inside)

    pub first_time : Shaped w → (entry_at w (c * places + k)).time.0 ≡ x.time.0
    first_time s = sym (ap (λ (i : Entry). i.time.0) (first_parts s).1.0) ∙ lead.time

-- the entry that is due goes first in its class, and stands there
module _ (w : Waiting) (m n : ℕ) (d : Due) (x : Chosen w.times w.fills m n d) where
  pub due_first : first_of w.times w.fills d.class ≡ Some (record { place = d.place; time = x.entry.time })
  due_first = x.first ∙ ap (λ (k : ℕ). Some (record { place = k; time = x.entry.time })) x.place

  pub due_inside : d.place < count_of w.fills d.class
  due_inside = first_inside w d.class _ due_first

-- ---- putting
module _ (w : Waiting) (c : ℕ) (e : Entry) (s : Shaped w) (h : c ≤ 7) (room : get_or w.fills c 0 < places) where
  pub put_keeps : AllSound w → Fine e → Shaped (with_last w c e) × AllSound (with_last w c e)
  unfolding with_last
  put_keeps a f =
      let own = (class_means w c h (each_class w a c h)).1 in (
        shaped_entered w c e s,
        stays_sound w (with_last w c e) c (get_or w.fills c 0 + 1) s a h refl (omega arith) (others_stay w c e s h room)
            (rw (last_entered w c e s h room) (each_join own (one f none))),
      )

  pub put_first : first_of (with_last w c e).times (with_last w c e).fills c ≡ Some (or_last (first_of w.times w.fills c) (get_or w.fills c 0) e.time.0)
  put_first =
      let n = count_is w.fills c h (omega arith) in
      first_in_law (with_last w c e) c
      ∙ ap (λ (q : List Entry). first_in (times_of q)) (last_entered w c e s h room)
      ∙ ap first_in (times_last (queue w c) e)
      ∙ in-last (times_of (queue w c)) e.time.0
      ∙ ap₂ (λ (f : Option First) (k : ℕ). Some (or_last f k e.time.0)) (sym (first_in_law w c)) (times_length (queue w c) ∙ queue_length w c ∙ sym n)

  pub put_first_other : (d : ℕ) → (d ≡ c → ⊥) → first_of (with_last w c e).times (with_last w c e).fills d ≡ first_of w.times w.fills d
  put_first_other d n = first_same w (with_last w c e) d (others_stay w c e s h room d n)

-- ---- taking out
module _ (w : Waiting) (c k : ℕ) (s : Shaped w) (h : k < count_of w.fills c) where
  pub take_keeps : AllSound w → Shaped (without w c k) × AllSound (without w c k)
  unfolding without
  take_keeps a =
      let i = count_all w.fills c (omega arith) in
      let x = i.1.1 in
      let own = (class_means w c i.1.0 (each_class w a c i.1.0)).1 in
      let y = each_split (entries_from w (c * places) k) (entry_at w (c * places + k) ∷ entries_from w ((c * places + k) + 1) (get_or w.fills c 0 - (k + 1))) (rw (stood w c k s h) at own) in (
        shaped_left w c k s,
        stays_sound w (without w c k) c (get_or w.fills c 0 - 1) s a i.1.0 refl (omega arith) (others_remain w c k s h)
            (rw (stands w c k s h) (each_join y.0 (each_head y.1).1)),
      )

  pub taken_fine : AllSound w → Fine (entry_at w (c * places + k))
  taken_fine a =
      let i = count_all w.fills c (omega arith) in
      let own = (class_means w c i.1.0 (each_class w a c i.1.0)).1 in
      (each_head (each_split (entries_from w (c * places) k) (entry_at w (c * places + k) ∷ entries_from w ((c * places + k) + 1) (get_or w.fills c 0 - (k + 1))) (rw (stood w c k s h) at own)).1).0

  pub take_first_other : (d : ℕ) → (d ≡ c → ⊥) → first_of (without w c k).times (without w c k).fills d ≡ first_of w.times w.fills d
  take_first_other d n = first_same w (without w c k) d (others_remain w c k s h d n)

-- ---- without the tests
pub enter_untested : (w : Waiting) (c : ℕ) (e : Entry) → AllSound w → c ≤ 7 → Fine e
    → enter_gives w c e ≡ record { answer = cond (put_gives w c e).placed (Ok tt) (Err ClassFull); waiting = (put_gives w c e).waiting }
unfolding enter_gives put_gives not_entered entry_sound
enter_untested w c e a h f =
    let z = both (in_range Charge e.bits.0) (in_range EntryTime e.time.0) f in
    let y = each_class w a c h in
    rw (within Class c (omega arith) h, y, z.0, z.1) (go (has_room w.fills c)) where
      put : Bool → AfterPut
      put r = cond r (record { placed = true; waiting = with_last w c e }) (record { placed = false; waiting = w })

      go : (r : Bool) → ◌≡◌ {A = After Entered} (cond (not r) (record { answer = Err ClassFull; waiting = w }) (record { answer = Ok tt; waiting = with_last w c e }))
          (record { answer = cond (put r).placed (Ok tt) (Err ClassFull); waiting = (put r).waiting })
      go true = refl
      go false = refl
