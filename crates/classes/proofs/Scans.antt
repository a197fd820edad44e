-- Laws of the soundness tests: one step of a scan, and what each way out of it means. Assumes nothing.
use mathlib.Core.Path.{◌≡◌, sym, ap, ◌∙◌}
use mathlib.Core.Bool.{Bool, true, false}
use mathlib.Core.List.{List}
use Prim.Native.Nat.{ℕ, ◌+◌, ◌*◌, ◌-◌, ◌≤◌, ◌<◌}
use native.Mathlib.Omega.{arith}
use lib.ListN.{get_or}
use borrow.Author.Tests.{lt-leb, le-leb}
use Rattle.quantity.specs.Ranges.{in_range}
use Rattle.quantity.specs.declared.Item.TheVariants.{Charge, EntryTime}
use Rattle.places.specs.Queue.{places, classes}
use Rattle.places.proofs.Counts.{left, over}
use Rattle.classes.specs.Soundness.{every, entry_sound, sound_at, class_sound, all_sound}

-- ---- a scan
module _ (p : ℕ → Bool) (i e : ℕ) where
  pub every_goes : i < e → p i ≡ true → every p (i + 1) (e - (i + 1)) ≡ every p i (e - i)
  unfolding every
  every_goes h t = rw (left i e h, t)

  pub every_stops : i < e → p i ≡ false → every p i (e - i) ≡ false
  unfolding every
  every_stops h t = rw (left i e h, t)

  pub every_done : e ≤ i → every p i (e - i) ≡ true
  unfolding every
  every_done h = rw (over i e h)

-- the whole, where a scan begins
pub every_start : (p : ℕ → Bool) (a n : ℕ) → every p a ((a + n) - a) ≡ every p a n
every_start p a n = let h : (a + n) - a ≡ n = omega arith in rw h

-- ---- an entry
module _ (t b : ℕ) where
  pub charge_out : in_range Charge b ≡ false → false ≡ entry_sound t b
  unfolding entry_sound
  charge_out h = simp h

  pub charge_in : in_range Charge b ≡ true → in_range EntryTime t ≡ entry_sound t b
  unfolding entry_sound
  charge_in h = simp h

-- what a scan finds of the entry at a place
pub told_at : (ts bs : List ℕ) (i : ℕ) (r x : Bool) → r ≡ entry_sound (get_or ts i 0) (get_or bs i 0) → r ≡ x → sound_at ts bs i ≡ x
unfolding sound_at
told_at ts bs i r x e f = sym e ∙ f

-- ---- a class
module _ (ts bs fs : List ℕ) (c : ℕ) where
  pub overfull : places < get_or fs c 0 → false ≡ class_sound ts bs fs c
  unfolding class_sound
  overfull h = simp (lt-leb _ _ h)

  fits : get_or fs c 0 ≤ places → class_sound ts bs fs c ≡ every (sound_at ts bs) (c * places) (get_or fs c 0)
  unfolding class_sound
  fits h = simp (le-leb _ _ h)

-- the two ways out of the scan of a class with n entries
module _ (ts bs fs : List ℕ) (c n i e : ℕ) (is : n ≡ get_or fs c 0) (few : n ≤ places) (inv : every (sound_at ts bs) i (e - i) ≡ every (sound_at ts bs) (c * places) n) where
  whole : class_sound ts bs fs c ≡ every (sound_at ts bs) i (e - i)
  whole = fits ts bs fs c (omega arith) ∙ ap (every (sound_at ts bs) (c * places)) (sym is) ∙ sym inv

  pub unsound_at : i < e → sound_at ts bs i ≡ false → false ≡ class_sound ts bs fs c
  unsound_at h f = sym (whole ∙ every_stops (sound_at ts bs) i e h f)

  pub sound_end : e ≤ i → true ≡ class_sound ts bs fs c
  sound_end h = sym (whole ∙ every_done (sound_at ts bs) i e h)

-- ---- the classes in turn
module _ (ts bs fs : List ℕ) (c : ℕ) (inv : every (class_sound ts bs fs) c (classes - c) ≡ every (class_sound ts bs fs) 0 classes) where
  pub class_bad : c < classes → class_sound ts bs fs c ≡ false → false ≡ all_sound ts bs fs
  unfolding all_sound
  class_bad h f = sym (sym inv ∙ every_stops (class_sound ts bs fs) c classes h f)

  pub classes_good : classes ≤ c → true ≡ all_sound ts bs fs
  unfolding all_sound
  classes_good h = sym (sym inv ∙ every_done (class_sound ts bs fs) c classes h)
