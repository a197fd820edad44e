-- Laws of the searches through what is noted of each class: the smallest waiting time, and the class that is due. Assumes nothing.
use mathlib.Core.Path.{◌≡◌, refl, ap, ap₂, ◌∙◌}
use mathlib.Core.List.{List}
use Prim.Native.Nat.{ℕ, zero, suc, ◌+◌, ◌*◌, ◌≤◌, ◌<◌, min}
use native.Mathlib.Omega.{arith}
use native.Mathlib.Numerals.{add-one}
use lib.ListN.{length}
use Rattle.std.specs.Prelude.{Option, Some, None}
use Rattle.quantity.specs.Kinds.{ticks}
use Rattle.quantity.specs.Ranges.{most_of}
use Rattle.quantity.specs.declared.Item.TheVariants.{EntryTime}
use Rattle.quantity.specs.declared.Ticks.{Ticks}
use Rattle.places.specs.Queue.{classes, places as room_of_class, entry_at}
use Rattle.places.specs.declared.Waiting.{Waiting}
use Rattle.firsts.specs.declared.First.{First}
use Rattle.firsts.specs.Firsts.{smaller, smallest_below, smallest_of, first_of}
use Rattle.classes.specs.Calls.{due_below}
use Rattle.classes.proofs.Dues as dues
use Rattle.waiting.proofs.Kept.{first_inside, first_time, taken_fine}
use Rattle.line.specs.Firsts.{never, noted, noted_at, Keeps}
use Rattle.line.proofs.Noting.{fine_time}

-- the smallest of the times noted of the classes below n
unfoldable pub soon_below : List First → ℕ → ℕ
soon_below f zero = never
soon_below f (suc c) = min (soon_below f c) (noted_at f c).time.0

pub soon_next : (f : List First) (c s r : ℕ) → s ≡ soon_below f c → r ≡ min s (noted_at f c).time.0 → r ≡ soon_below f (c + 1)
unfolding soon_below
soon_next f c s r e q = rw add-one (q ∙ ap (λ (x : ℕ). min x (noted_at f c).time.0) e)

module _ (w : Waiting) (f : List First) (K : Keeps w f) where
  first_early : (c : ℕ) (x : First) → first_of w.times w.fills c ≡ Some x → x.time.0 ≤ most_of EntryTime
  first_early c x e =
      let g = taken_fine w c x.place K.shaped (first_inside w c x e) K.sound in
      let z = first_time w c x e K.shaped in
      let y = fine_time (entry_at w (c * room_of_class + x.place)).time.0 (entry_at w (c * room_of_class + x.place)).bits.0 g in
      omega arith

  -- ---- the smallest time
  soon_of : Option Ticks → ℕ
  soon_of None = never
  soon_of (Some t) = t.0

  Early : Option Ticks → Type 0
  Early s = (t : Ticks) → s ≡ Some t → t.0 ≤ most_of EntryTime

  smaller_is : (s : Option Ticks) (o : Option First) → Early s → ((x : First) → o ≡ Some x → x.time.0 ≤ most_of EntryTime)
      → (min (soon_of s) (noted o).time.0 ≡ soon_of (smaller s o)) × Early (smaller s o)
  unfolding soon_of smaller Early
  smaller_is None None e h = (refl, e)
  smaller_is (Some t) None e h = (omega (arith, e t refl), e)
  smaller_is None (Some x) e h = (omega (arith, h x refl), λ u q. let z : x.time ≡ u = cc in rw z at (h x refl))
  smaller_is (Some s) (Some x) e h =
      (refl, λ u q. let z : ticks (min s.0 x.time.0) ≡ u = cc in let y = ap (λ (t : Ticks). t.0) z in omega (arith, e s refl))

  soon_is : (n : ℕ) → n ≤ classes → (soon_below f n ≡ soon_of (smallest_below w.times w.fills n)) × Early (smallest_below w.times w.fills n)
  unfolding soon_below soon_of smallest_below Early
  soon_is zero l = (refl, λ t q. absurd (cc))
  soon_is (suc c) l =
      let r = soon_is c (omega arith) in
      let z = smaller_is (smallest_below w.times w.fills c) (first_of w.times w.fills c) r.1 (first_early c) in
      (ap₂ min r.0 (ap (λ (x : First). x.time.0) (K.noted.first c (omega arith))) ∙ z.0, z.1)

  -- once all classes are looked at
  module _ (n s : ℕ) (all : n ≡ length f) (is : s ≡ soon_below f n) where
    soon_all : s ≡ soon_of (smallest_of w.times w.fills)
    unfolding smallest_of
    soon_all =
        let z : n ≡ classes = all ∙ K.noted.long in
        is ∙ ap (soon_below f) z ∙ (soon_is classes (omega arith)).0

    early : Early (smallest_of w.times w.fills)
    unfolding smallest_of
    early = (soon_is classes (omega arith)).1

    pub soon_none : s ≡ never → None ≡ smallest_of w.times w.fills
    unfolding soon_of Early
    soon_none h = go (smallest_of w.times w.fills) early soon_all where
      go : (x : Option Ticks) → Early x → s ≡ soon_of x → None ≡ x
      go None e q = refl
      go (Some t) e q = absurd (omega (arith, e t refl))

    pub soon_some : (s ≡ never → ⊥) → Some (ticks s) ≡ smallest_of w.times w.fills
    unfolding soon_of
    soon_some h = go (smallest_of w.times w.fills) soon_all where
      go : (x : Option Ticks) → s ≡ soon_of x → Some (ticks s) ≡ x
      go None q = absurd (h q)
      go (Some t) q = ap (λ (k : ℕ). Some (ticks k)) q

  -- ---- the entry that is due
  module _ (m c : ℕ) (h : c < classes) where
    is_noted : noted_at f c ≡ noted (first_of w.times w.fills c)
    is_noted = K.noted.first c h

    pub due_here : m < never → (noted_at f c).time.0 ≤ m → Some (record { class = c; place = (noted_at f c).place }) ≡ due_below w.times w.fills m (c + 1)
    due_here late l = rw is_noted (go (first_of w.times w.fills c) refl (rw is_noted at l)) where
      go : (o : Option First) → o ≡ first_of w.times w.fills c → (noted o).time.0 ≤ m → Some (record { class = c; place = (noted o).place }) ≡ due_below w.times w.fills m (c + 1)
      go None e q = absurd (omega arith)
      go (Some x) e q = dues.due_here w.times w.fills m c (Some x) e x refl q

    pub due_lower : m < (noted_at f c).time.0 → due_below w.times w.fills m c ≡ due_below w.times w.fills m (c + 1)
    due_lower l = go (first_of w.times w.fills c) refl (rw is_noted at l) where
      go : (o : Option First) → o ≡ first_of w.times w.fills c → m < (noted o).time.0 → due_below w.times w.fills m c ≡ due_below w.times w.fills m (c + 1)
      go None e q = dues.due_none w.times w.fills m c None e refl
      go (Some x) e q = dues.due_later w.times w.fills m c (Some x) e x refl q
