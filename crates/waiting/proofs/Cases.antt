-- The ways that a call can go, each with what it then gives. Assumes nothing.
use mathlib.Core.Path.{◌≡◌, refl, ap}
use mathlib.Core.Bool.{Bool, true, false}
use mathlib.Core.Logic.{◌⊎◌, inl, inr}
use Prim.Native.Nat.{ℕ, ◌+◌, ◌*◌, ◌<◌}
use native.Mathlib.Omega.{arith}
use borrow.Author.Tests.{lt-ltb}
use Rattle.quantity.specs.Ranges.{in_range}
use Rattle.quantity.specs.Numbers.{number_of}
use Rattle.quantity.specs.declared.Item.TheVariants.{Class, Charge, EntryTime}
use Rattle.quantity.specs.declared.Refusal.{Refusal}
use Rattle.quantity.specs.declared.Refusal.TheVariants.{Unsound, LengthRange, TooLate, ClassRange, ClassFull}
use Rattle.places.specs.declared.Waiting.{Waiting}
use Rattle.places.specs.declared.Entry.{Entry}
use Rattle.std.specs.Prelude.{Option, Some, None, Ok}
use Rattle.places.specs.declared.Picked.TheVariants.{Nothing, Refused as NotPicked}
use Rattle.classes.specs.declared.Due.{Due}
use Rattle.places.specs.Queue.{places, count_of, entry_at}
use Rattle.classes.specs.Soundness.{class_sound, all_sound}
use Rattle.places.specs.Places.{with_last, has_room, without, take_gives}
use Rattle.classes.specs.Calls.{not_entered, enter_gives, due_of, picked_after, take_due, pick_gives}

differ : (a b : Refusal) → a ≡ b → (number_of a ≡ number_of b → ⊥) → ⊥
differ a b e n = n (ap number_of e)

-- ---- entering
-- it is refused; where the reason is an unsound class or a full one, that is so
pub record Refusing (w : Waiting) (c : ℕ) (e : Entry) : Type 0 where
  pub why : Refusal
  pub gives : enter_gives w c e ≡ not_entered why w
  pub unsound : why ≡ Unsound → (in_range Class c ≡ true) × (class_sound w.times w.bits w.fills c ≡ false)
  pub full : why ≡ ClassFull → (in_range Class c ≡ true) × ((class_sound w.times w.bits w.fills c ≡ true) × (has_room w.fills c ≡ false))

pub record Accepting (w : Waiting) (c : ℕ) (e : Entry) : Type 0 where
  pub gives : enter_gives w c e ≡ record { answer = Ok tt; waiting = with_last w c e }
  pub class : in_range Class c ≡ true
  pub sound : class_sound w.times w.bits w.fills c ≡ true
  pub charge : in_range Charge e.bits.0 ≡ true
  pub time : in_range EntryTime e.time.0 ≡ true
  pub room : has_room w.fills c ≡ true

pub enter_ways : (w : Waiting) (c : ℕ) (e : Entry) → Refusing w c e ⊎ Accepting w c e
unfolding enter_gives
enter_ways w c e =
    go (in_range Class c) (class_sound w.times w.bits w.fills c) (in_range Charge e.bits.0) (in_range EntryTime e.time.0) (has_room w.fills c) refl refl refl refl refl where
      go : (i s b t r : Bool) → in_range Class c ≡ i → class_sound w.times w.bits w.fills c ≡ s → in_range Charge e.bits.0 ≡ b
          → in_range EntryTime e.time.0 ≡ t → has_room w.fills c ≡ r → Refusing w c e ⊎ Accepting w c e
      go false s b t r p₁ p₂ p₃ p₄ p₅ = inl (record { why = ClassRange; gives = rw p₁ refl; unsound = λ x. absurd (differ ClassRange Unsound x (λ z. omega arith)); full = λ x. absurd (differ ClassRange ClassFull x (λ z. omega arith)) })
      go true false b t r p₁ p₂ p₃ p₄ p₅ = inl (record { why = Unsound; gives = rw (p₁, p₂) refl; unsound = λ x. (p₁, p₂); full = λ x. absurd (differ Unsound ClassFull x (λ z. omega arith)) })
      go true true false t r p₁ p₂ p₃ p₄ p₅ = inl (record { why = LengthRange; gives = rw (p₁, p₂, p₃) refl; unsound = λ x. absurd (differ LengthRange Unsound x (λ z. omega arith)); full = λ x. absurd (differ LengthRange ClassFull x (λ z. omega arith)) })
      go true true true false r p₁ p₂ p₃ p₄ p₅ = inl (record { why = TooLate; gives = rw (p₁, p₂, p₃, p₄) refl; unsound = λ x. absurd (differ TooLate Unsound x (λ z. omega arith)); full = λ x. absurd (differ TooLate ClassFull x (λ z. omega arith)) })
      go true true true true false p₁ p₂ p₃ p₄ p₅ = inl (record { why = ClassFull; gives = rw (p₁, p₂, p₃, p₄, p₅) refl; unsound = λ x. absurd (differ ClassFull Unsound x (λ z. omega arith)); full = λ x. (p₁, (p₂, p₅)) })
      go true true true true true p₁ p₂ p₃ p₄ p₅ = inr (record { gives = rw (p₁, p₂, p₃, p₄, p₅) refl; class = p₁; sound = p₂; charge = p₃; time = p₄; room = p₅ })

-- ---- picking
pub record NotPicking (w : Waiting) (m : ℕ) : Type 0 where
  pub gives : pick_gives w m ≡ record { answer = NotPicked Unsound; waiting = w }
  pub sound : all_sound w.times w.bits w.fills ≡ false

pub record Idle (w : Waiting) (m : ℕ) : Type 0 where
  pub gives : pick_gives w m ≡ record { answer = Nothing; waiting = w }
  pub due : due_of w.times w.fills m ≡ None

pub record Taking (w : Waiting) (m : ℕ) : Type 0 where
  pub chosen : Due
  pub gives : pick_gives w m ≡ picked_after chosen.class (take_gives w chosen.class chosen.place)
  pub sound : all_sound w.times w.bits w.fills ≡ true
  pub due : due_of w.times w.fills m ≡ Some chosen

pub pick_ways : (w : Waiting) (m : ℕ) → NotPicking w m ⊎ (Idle w m ⊎ Taking w m)
unfolding pick_gives take_due
pick_ways w m = go (all_sound w.times w.bits w.fills) (due_of w.times w.fills m) refl refl where
  go : (s : Bool) (d : Option Due) → all_sound w.times w.bits w.fills ≡ s → due_of w.times w.fills m ≡ d → NotPicking w m ⊎ (Idle w m ⊎ Taking w m)
  go false d p q = inl (record { gives = rw p refl; sound = p })
  go true None p q = inr (inl (record { gives = rw (p, q) refl; due = q }))
  go true (Some d) p q = inr (inr (record { chosen = d; gives = rw (p, q) refl; sound = p; due = q }))

pub taken : (w : Waiting) (c k : ℕ) → k < count_of w.fills c → take_gives w c k ≡ record { left = Some (entry_at w (c * places + k)); waiting = without w c k }
unfolding take_gives
taken w c k h = rw (lt-ltb k (count_of w.fills c) h) refl
