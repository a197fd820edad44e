-- Laws of soundness, of entries: a class is sound exactly when its fill is at most 32 and each of its entries is; what keeps all classes so. Assumes nothing.
use mathlib.Core.Path.{◌≡◌, refl, sym}
use mathlib.Core.Bool.{Bool, true, false}
use Prim.Native.Nat.{ℕ, zero, suc, ◌+◌, ◌*◌, ◌≤◌, ◌<◌}
use native.Mathlib.Omega.{arith}
use lib.Dec.{ltb, leb, eqb}
use lib.ListN.{get_or, set}
use lib.Seq.{get_or-set_same, get_or-set_other}
use borrow.Author.Tests.{leb-true, le-leb, ltb-true, ltb-false, eqb-true, eqb-false}
use Rattle.quantity.proofs.Booleans.{both}
use Rattle.places.specs.declared.Waiting.{Waiting}
use Rattle.places.specs.declared.Entry.{Entry}
use Rattle.places.specs.Queue.{places, classes, entry_at, entries_from, queue, Shaped}
use Rattle.waiting.specs.Rules.{Each, none, one}
use Rattle.classes.specs.Soundness.{every, entry_sound, sound_at, class_sound, all_sound}
use Rattle.places.proofs.Counts.{count_is}
use Rattle.waiting.proofs.Lines.{each_head}

-- the entry is sound
abbrev pub Fine : Entry → Type 0
Fine e = entry_sound e.time.0 e.bits.0 ≡ true

-- ---- a scan, place by place
every_at : (p : ℕ → Bool) (i n j : ℕ) → every p i n ≡ true → i ≤ j → j < i + n → p j ≡ true
unfolding every
every_at p i zero j h a b = absurd (omega arith)
every_at p i (suc n) j h a b = go (λ l. every_at p (i + 1) n j (both (p i) (every p (i + 1) n) h).1 l (omega arith)) (ltb i j) refl where
  go : (i + 1 ≤ j → p j ≡ true) → (t : Bool) → ltb i j ≡ t → p j ≡ true
  go more true q = let z = ltb-true i j q in more (omega arith)
  go more false q = let z = ltb-false i j q in let y : j ≡ i = omega arith in rw y (both (p i) (every p (i + 1) n) h).0

at_every : (p : ℕ → Bool) (i n : ℕ) → ((j : ℕ) → i ≤ j → j < i + n → p j ≡ true) → every p i n ≡ true
unfolding every
at_every p i zero h = refl
at_every p i (suc n) h = rw (h i (omega arith) (omega arith)) (at_every p (i + 1) n (λ j a b. h j (omega arith) (omega arith)))

module _ (w : Waiting) where
  abbrev pub Sound : ℕ → Type 0
  Sound c = class_sound w.times w.bits w.fills c ≡ true

  abbrev pub AllSound : Type 0
  AllSound = all_sound w.times w.bits w.fills ≡ true

  pub each_class : AllSound → (c : ℕ) → c ≤ 7 → Sound c
  unfolding all_sound
  each_class h c l = every_at (class_sound w.times w.bits w.fills) 0 classes c h (omega arith) (omega arith)

  pub all_classes : ((c : ℕ) → c ≤ 7 → Sound c) → AllSound
  unfolding all_sound
  all_classes h = at_every (class_sound w.times w.bits w.fills) 0 classes (λ j a b. h j (omega arith))

  -- ---- a class, entry by entry
  each_entry : (i n : ℕ) → every (sound_at w.times w.bits) i n ≡ true → Each Fine (entries_from w i n)
  unfolding every entries_from sound_at entry_at
  each_entry i zero h = none
  each_entry i (suc n) h =
      let z = both (sound_at w.times w.bits i) (every (sound_at w.times w.bits) (i + 1) n) h in
      one z.0 (each_entry (i + 1) n z.1)

  all_entries : (i n : ℕ) → Each Fine (entries_from w i n) → every (sound_at w.times w.bits) i n ≡ true
  unfolding every entries_from sound_at entry_at
  all_entries i zero h = refl
  all_entries i (suc n) h = let z = each_head h in rw z.0 (all_entries (i + 1) n z.1)

  pub class_means : (c : ℕ) → c ≤ 7 → Sound c → (get_or w.fills c 0 ≤ places) × Each Fine (queue w c)
  unfolding class_sound queue
  class_means c l h =
      let z = both (leb (get_or w.fills c 0) places) (every (sound_at w.times w.bits) (c * places) (get_or w.fills c 0)) h in
      let f = leb-true (get_or w.fills c 0) places z.0 in
      (f, rw (sym (count_is w.fills c l f)) (each_entry (c * places) (get_or w.fills c 0) z.1))

  pub means_class : (c : ℕ) → c ≤ 7 → get_or w.fills c 0 ≤ places → Each Fine (queue w c) → Sound c
  unfolding class_sound queue
  means_class c l f h =
      rw (le-leb (get_or w.fills c 0) places f) (all_entries (c * places) (get_or w.fills c 0) (rw (sym (count_is w.fills c l f)) at h))

-- ---- a change within one class that keeps its entries sound
module _ (w v : Waiting) (c x : ℕ) (s : Shaped w) (h : AllSound w) (l : c ≤ 7) (f : v.fills ≡ set w.fills c x) (m : x ≤ places)
    (others : (d : ℕ) → (d ≡ c → ⊥) → queue v d ≡ queue w d) (own : Each Fine (queue v c)) where
  pub stays_sound : AllSound v
  stays_sound = all_classes v (λ d a. go d a (eqb d c) refl) where
    go : (d : ℕ) → d ≤ 7 → (t : Bool) → eqb d c ≡ t → Sound v d
    go d a true q =
        let z = eqb-true d c q in
        let y = s.fills in
        rw z (means_class v c l (rw f (rw (get_or-set_same w.fills c x 0 (omega arith)) m)) own)
    go d a false q =
        let n = eqb-false d c q in
        let k = class_means w d a (each_class w h d a) in
        means_class v d a (rw f (rw (get_or-set_other w.fills c d x 0 n) k.0)) (rw (others d n) k.1)
