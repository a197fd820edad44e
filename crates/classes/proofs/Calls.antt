-- Laws of entering and picking: one for each way out. Assumes nothing.
use mathlib.Core.Path.{◌≡◌, refl, sym, ap, ◌∙◌}
use mathlib.Core.Bool.{Bool, true, false, cond}
use Prim.Native.Nat.{ℕ, ◌≤◌, ◌<◌}
use native.Mathlib.Omega.{arith}
use Rattle.quantity.specs.Ranges.{in_range}
use Rattle.quantity.specs.declared.Item.TheVariants.{Class, Charge, EntryTime}
use Rattle.quantity.specs.declared.Refusal.TheVariants.{Unsound, LengthRange, TooLate, ClassRange, ClassFull}
use Rattle.quantity.proofs.Ranges.{within, too_high}
use Rattle.places.specs.declared.Waiting.{Waiting}
use Rattle.places.specs.declared.Entry.{Entry}
use Rattle.std.specs.Prelude.{Option, Some, None, Ok, Err}
use Rattle.places.specs.declared.Picked.{Picked}
use Rattle.places.specs.declared.Picked.TheVariants.{Nothing, Refused as NotPicked}
use Rattle.places.specs.Places.{with_last, has_room, AfterPut, put_gives, AfterTake, take_gives}
use Rattle.classes.specs.declared.Due.{Due}
use Rattle.classes.specs.Soundness.{class_sound, all_sound}
use Rattle.classes.specs.Calls.{not_entered, enter_gives, due_of, picked_from, picked_after, take_due, pick_gives}

abbrev placed : AfterPut → Bool
placed p = p.placed

abbrev put_for : Waiting → ℕ → Entry → Bool → AfterPut
put_for w c e r = cond r (record { placed = true; waiting = with_last w c e }) (record { placed = false; waiting = w })

-- ---- entering: what refuses it, in turn
module _ (w : Waiting) (c : ℕ) (e : Entry) where
  pub enter_nowhere : 7 < c → record { answer = Err ClassRange; waiting = w } ≡ enter_gives w c e
  unfolding enter_gives not_entered
  enter_nowhere x = rw (too_high Class c x) refl

  module _ (x : c ≤ 7) where
    pub enter_unsound : class_sound w.times w.bits w.fills c ≡ false → record { answer = Err Unsound; waiting = w } ≡ enter_gives w c e
    unfolding enter_gives not_entered
    enter_unsound s = rw (within Class c (omega arith) x, s) refl

    module _ (s : class_sound w.times w.bits w.fills c ≡ true) where
      pub enter_charge : in_range Charge e.bits.0 ≡ false → record { answer = Err LengthRange; waiting = w } ≡ enter_gives w c e
      unfolding enter_gives not_entered
      enter_charge b = rw (within Class c (omega arith) x, s, b) refl

      module _ (b : in_range Charge e.bits.0 ≡ true) where
        pub enter_late : in_range EntryTime e.time.0 ≡ false → record { answer = Err TooLate; waiting = w } ≡ enter_gives w c e
        unfolding enter_gives not_entered
        enter_late t = rw (within Class c (omega arith) x, s, b, t) refl

        -- nothing but a full class is left to refuse it
        module _ (t : in_range EntryTime e.time.0 ≡ true) (p : AfterPut) (is : p ≡ put_gives w c e) where
          rest : (r : Bool) → has_room w.fills c ≡ r → p ≡ put_for w c e r
          unfolding put_gives
          rest r h = is ∙ rw (within Class c (omega arith) x, h) refl

          pub enter_full : p.placed ≡ false → record { answer = Err ClassFull; waiting = p.waiting } ≡ enter_gives w c e
          unfolding enter_gives not_entered
          enter_full n = go (has_room w.fills c) refl where
            go : (r : Bool) → has_room w.fills c ≡ r → record { answer = Err ClassFull; waiting = p.waiting } ≡ enter_gives w c e
            go true h = let z : true ≡ false = sym (ap placed (rest true h)) ∙ n in let y : ◌≡◌ {A = ℕ} 0 1 = cc in absurd (omega arith)
            go false h = rw (rest false h, within Class c (omega arith) x, s, b, t, h) refl

          pub enter_done : p.placed ≡ true → record { answer = Ok tt; waiting = p.waiting } ≡ enter_gives w c e
          unfolding enter_gives not_entered
          enter_done n = go (has_room w.fills c) refl where
            go : (r : Bool) → has_room w.fills c ≡ r → record { answer = Ok tt; waiting = p.waiting } ≡ enter_gives w c e
            go false h = let z : false ≡ true = sym (ap placed (rest false h)) ∙ n in let y : ◌≡◌ {A = ℕ} 0 1 = cc in absurd (omega arith)
            go true h = rw (rest true h, within Class c (omega arith) x, s, b, t, h) refl

-- ---- picking
module _ (w : Waiting) (m : ℕ) where
  pub pick_unsound : all_sound w.times w.bits w.fills ≡ false → record { answer = NotPicked Unsound; waiting = w } ≡ pick_gives w m
  unfolding pick_gives
  pick_unsound s = rw s refl

  module _ (d : Option Due) (s : all_sound w.times w.bits w.fills ≡ true) (is : d ≡ due_of w.times w.fills m) where
    pub pick_nothing : d ≡ None → record { answer = Nothing; waiting = w } ≡ pick_gives w m
    unfolding pick_gives take_due
    pick_nothing e = let z : due_of w.times w.fills m ≡ None = sym is ∙ e in rw (s, z) refl

    pub pick_from : (k : Due) (x : AfterTake) (p : Picked) → d ≡ Some k → x ≡ take_gives w k.class k.place → p ≡ picked_from k.class x.left
        → record { answer = p; waiting = x.waiting } ≡ pick_gives w m
    unfolding pick_gives take_due
    pick_from k x p e f g =
        let z : due_of w.times w.fills m ≡ Some k = sym is ∙ e in
        rw g (ap (picked_after k.class) f ∙ rw (s, z) refl)
