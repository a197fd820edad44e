-- Waiting places at which the premises of the promises of `waiting` hold, document 01's two figures among them: the 33rd entry of a class, and handles 7 and 8 with equal times.
-- Each field of the record is a premise at these values, or what comes of it. Classes, handles, times and moments are plain numbers.
use Rattle.std.specs.Prelude.{ℕ, zero, suc, ◌≤◌, ◌≡◌, Some, None, Ok, Err, [], ◌∷◌, replicate}
use Rattle.quantity.specs.Numbers.{least_refusal}
use Rattle.quantity.specs.Kinds.{ticks, bits}
use Rattle.quantity.specs.declared.Refusal.TheVariants.{ClassFull}
use Rattle.places.specs.declared.Waiting.{Waiting}
use Rattle.places.specs.declared.Entry.{Entry}
use Rattle.places.specs.declared.Picked.TheVariants.{Leaves, Nothing}
use Rattle.places.specs.Queue.{all_places, lists, nothing, queue, Shaped}
use Rattle.firsts.specs.Firsts.{smallest_of}
use Rattle.classes.specs.Calls.{enter_gives, pick_gives}
use Rattle.waiting.specs.Answers.{entered_number, picked_number, picked_values}
use Rattle.waiting.specs.Rules.{Picks}
use Rattle.waiting.specs.Promises.{Reached}

-- an entry with 672 charged bits, those of a frame of 64 octets
abbrev pub entry : ℕ → ℕ → Entry
entry handle time = record { handle = handle; time = ticks time; bits = bits 672 }

-- from empty: handles 7 and 8 enter class 6 with equal times, 500, and then handle 9 enters class 2 with the time 300
abbrev pub with_seven : Waiting
with_seven = (enter_gives nothing 6 (entry 7 500)).waiting

abbrev pub with_eight : Waiting
with_eight = (enter_gives with_seven 6 (entry 8 500)).waiting

abbrev pub with_nine : Waiting
with_nine = (enter_gives with_eight 2 (entry 9 300)).waiting

-- handle 7 is picked at 500; and the same queues reached by entering 8 and 9 alone, where the arrays hold other numbers beyond the fills
abbrev pub seven_picked : Waiting
seven_picked = (pick_gives with_nine 500).waiting

abbrev pub without_seven : Waiting
without_seven = (enter_gives nothing 6 (entry 8 500)).waiting

abbrev pub never_seven : Waiting
never_seven = (enter_gives without_seven 2 (entry 9 300)).waiting

-- from empty: so many entries enter a class, with the handles 0, 1 and so on, and the time 0
unfoldable pub in_class : ℕ → ℕ → Waiting
in_class class zero = nothing
in_class class (suc n) = (enter_gives (in_class class n) class (entry n 0)).waiting

-- a fill of 33, which no calls reach: class 0 is unsound
abbrev pub overfull : Waiting
overfull = lists (replicate all_places 0) (replicate all_places 0) (replicate all_places 672) (33 ∷ replicate 7 0)

pub record WaitingExamples : Type 0 where
  -- ReachedIsSound, ReachedIsNeverRefused: three entries, and one of them picked
  pub reached : Reached seven_picked
  -- EnteredIsLast: handle 8 enters behind handle 7
  pub one_waits : Shaped with_seven
  pub entered : (enter_gives with_seven 6 (entry 8 500)).answer ≡ Ok tt
  pub last : queue with_eight 6 ≡ entry 7 500 ∷ entry 8 500 ∷ []
  -- FullIsThirtyTwo: 31 entries of class 3 wait and the 32nd enters; 32 wait, and the 33rd gets 22
  pub thirty_second : (enter_gives (in_class 3 31) 3 (entry 31 0)).answer ≡ Ok tt
  pub thirty_third : (enter_gives (in_class 3 32) 3 (entry 32 0)).answer ≡ Err ClassFull
  -- PickedIsFirst: of handles 7 and 8 with equal times, 7 goes first; its class is above that of handle 9, whose time is smaller
  pub three_wait : Shaped with_nine
  pub seven_first : (pick_gives with_nine 500).answer ≡ Leaves 6 (entry 7 500)
  pub seven_values : picked_values (pick_gives with_nine 500).answer ≡ 6 ∷ 7 ∷ 500 ∷ 672 ∷ []
  pub then_eight : (pick_gives seven_picked 500).answer ≡ Leaves 6 (entry 8 500)
  -- and at 400, where class 6 has nothing eligible, handle 9 of class 2
  pub nine_before : (pick_gives with_nine 400).answer ≡ Leaves 2 (entry 9 300)
  -- PickIsFixed: two outcomes by the rule, whose arrays differ
  pub picked : Picks with_nine seven_picked 500 6 (entry 7 500)
  pub picked_too : Picks with_nine never_seven 500 6 (entry 7 500)
  pub arrays_differ : seven_picked.handles ≡ never_seven.handles → ⊥
  -- NothingIsNothing: at 299 the three entries wait on
  pub not_yet : (pick_gives with_nine 299).answer ≡ Nothing
  -- RefusedChangesNothing: the 33rd entry, and a pick where a class is unsound
  pub not_entered_is : least_refusal ≤ entered_number (enter_gives (in_class 3 32) 3 (entry 32 0)).answer
  pub not_picked : least_refusal ≤ picked_number (pick_gives overfull 0).answer
  -- SmallestIsSmallest: handle 9's time; and nothing waits
  pub smallest : smallest_of with_nine.times with_nine.fills ≡ Some (ticks 300)
  pub nothing_waits : smallest_of nothing.times nothing.fills ≡ None
