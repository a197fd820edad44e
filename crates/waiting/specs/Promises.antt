-- Document 01, 'Waiting and picking' and 'Numbers returned': what is promised of the calls. proofs/Promises.antt proves each statement under its name.
-- w is the waiting places before a call; c is a class, e an entry, m a moment.
use Rattle.std.specs.Prelude.{ℕ, ◌≤◌, ◌<◌, ◌≡◌, true, Some, None, [], length}
use Rattle.quantity.specs.Numbers.{least_refusal, number_of}
use Rattle.quantity.specs.declared.Refusal.TheVariants.{ClassFull, Unsound}
use Rattle.places.specs.declared.Waiting.{Waiting}
use Rattle.places.specs.declared.Entry.{Entry}
use Rattle.places.specs.declared.Picked.TheVariants.{Leaves, Nothing}
use Rattle.quantity.specs.declared.Ticks.{Ticks}
use Rattle.places.specs.Queue.{places, nothing, queue, Shaped}
use Rattle.waiting.specs.Rules.{Enters, Picks, NothingEligible, SmallestTime}
use Rattle.classes.specs.Soundness.{all_sound}
use Rattle.classes.specs.Calls.{enter_gives, pick_gives}
use Rattle.firsts.specs.Firsts.{smallest_of}
use Rattle.waiting.specs.Answers.{entered_number, picked_number, picked_values}

-- waiting places reached from the empty ones by entering and picking
pub data Reached : Waiting → Type 0 where
  start : Reached nothing
  entering : {w : Waiting} → Reached w → (c : ℕ) (e : Entry) → Reached (enter_gives w c e).waiting
  picking : {w : Waiting} → Reached w → (m : ℕ) → Reached (pick_gives w m).waiting

-- what is reached from empty is sound
abbrev pub ReachedIsSound : Type 0
ReachedIsSound = (w : Waiting) → Reached w → Shaped w × (all_sound w.times w.bits w.fills ≡ true)

-- from empty on, no call answers 9
abbrev pub ReachedIsNeverRefused : Type 0
ReachedIsNeverRefused =
    (w : Waiting) → Reached w →
    ((c : ℕ) (e : Entry) → entered_number (enter_gives w c e).answer ≡ number_of Unsound → ⊥) × ((m : ℕ) → picked_number (pick_gives w m).answer ≡ number_of Unsound → ⊥)

-- answer 0 to an entry says that it is the last of its class, and nothing else changes
abbrev pub EnteredIsLast : Type 0
EnteredIsLast = (w : Waiting) (c : ℕ) (e : Entry) → Shaped w → entered_number (enter_gives w c e).answer ≡ 0 → Enters w (enter_gives w c e).waiting c e

-- answer 22 says that 32 entries of the class wait; where one entered, there were fewer
abbrev pub FullIsThirtyTwo : Type 0
FullIsThirtyTwo =
    (w : Waiting) (c : ℕ) (e : Entry) →
    (entered_number (enter_gives w c e).answer ≡ number_of ClassFull → length (queue w c) ≡ places) × (entered_number (enter_gives w c e).answer ≡ 0 → length (queue w c) < places)

-- answer 0 to a pick comes with the values of an entry and its class: the one that the rule names
abbrev pub PickedIsFirst : Type 0
PickedIsFirst =
    (w : Waiting) (m c : ℕ) (e : Entry) → Shaped w → picked_number (pick_gives w m).answer ≡ 0 → picked_values (pick_gives w m).answer ≡ picked_values (Leaves c e)
    → Picks w (pick_gives w m).waiting m c e

-- the rule names one entry only, and what is left is fixed, too
abbrev pub PickIsFixed : Type 0
PickIsFixed =
    (w v v' : Waiting) (m c c' : ℕ) (e e' : Entry) → Picks w v m c e → Picks w v' m c' e' →
    (c ≡ c') × ((e ≡ e') × ((d : ℕ) → queue v d ≡ queue v' d))

-- answer 2 says that nothing is eligible, and nothing changes
abbrev pub NothingIsNothing : Type 0
NothingIsNothing = (w : Waiting) (m : ℕ) → picked_number (pick_gives w m).answer ≡ picked_number Nothing → NothingEligible w m × ((pick_gives w m).waiting ≡ w)

-- a call that answers a number from 9 up changes nothing, and gives no value
abbrev pub RefusedChangesNothing : Type 0
RefusedChangesNothing =
    (w : Waiting) →
    ((c : ℕ) (e : Entry) → least_refusal ≤ entered_number (enter_gives w c e).answer → (enter_gives w c e).waiting ≡ w)
    × ((m : ℕ) → least_refusal ≤ picked_number (pick_gives w m).answer → ((pick_gives w m).waiting ≡ w) × (picked_values (pick_gives w m).answer ≡ []))

-- some entry has the smallest waiting time, and none a smaller one; where nothing waits every class is empty
abbrev pub SmallestIsSmallest : Type 0
SmallestIsSmallest =
    (w : Waiting) →
    ((t : Ticks) → smallest_of w.times w.fills ≡ Some t → SmallestTime w t.0)
    × (smallest_of w.times w.fills ≡ None → (c : ℕ) → queue w c ≡ [])
