-- The examples of the waiting places, proved. Assumes nothing.
use mathlib.Core.Path.{◌≡◌, refl, sym, ap, ◌∙◌}
use mathlib.Core.List.{[], ◌∷◌}
use lib.Dec.{lit≤}
use lib.ListN.{get_or}
use Prim.Native.Nat.{ℕ}
use native.Mathlib.Omega.{arith}
use native.Mathlib.Decide.{ℕ_discrete}
use Rattle.quantity.specs.Kinds.{ticks}
use Rattle.quantity.specs.Ranges.{in_range}
use Rattle.places.specs.Queue.{nothing, count_of, entry_at, entries_from, queue}
use Rattle.places.specs.Places.{with_last, has_room, moved, closed, without, take_gives}
use Rattle.firsts.specs.Firsts.{part, first_from, first_in, first_of, smaller, smallest_below, smallest_of}
use Rattle.classes.specs.Soundness.{every, entry_sound, sound_at, class_sound, all_sound}
use Rattle.classes.specs.Calls.{not_entered, enter_gives, due_or, due_below, due_of, take_due, pick_gives}
use Rattle.waiting.specs.Rules.{none, one, Picks}
use Rattle.waiting.specs.Promises.{Reached, start, entering, picking}
use Rattle.waiting.specs.Answers.{entered_number, picked_number, picked_values}
use Rattle.waiting.proofs.Promises.{reached_is_sound, reached_is_never_refused, entered_is_last, full_is_thirty_two, picked_is_first, pick_is_fixed, nothing_is_nothing, refused_changes_nothing, smallest_is_smallest}
use Rattle.cases.specs.Waiting.{entry, with_seven, with_eight, with_nine, seven_picked, without_seven, never_seven, in_class, overfull, WaitingExamples}

-- ---- all of them are reached from empty
seven_reached : Reached with_seven
seven_reached = entering start 6 (entry 7 500)

nine_reached : Reached with_nine
nine_reached = entering (entering seven_reached 6 (entry 8 500)) 2 (entry 9 300)

eight_reached : Reached without_seven
eight_reached = entering start 6 (entry 8 500)

pub waiting_examples : WaitingExamples
unfolding in_class nothing not_entered enter_gives with_last has_room all_sound class_sound every sound_at entry_sound in_range queue entries_from entry_at count_of pick_gives take_due take_gives without closed moved due_of due_below due_or first_of first_in first_from part smallest_of smallest_below smaller
waiting_examples = record {
  reached = picking nine_reached 500;
  one_waits = (reached_is_sound with_seven seven_reached).0;
  entered = refl;
  last = refl;
  thirty_second = refl;
  thirty_third = refl;
  three_wait = (reached_is_sound with_nine nine_reached).0;
  seven_first = refl;
  seven_values = refl;
  then_eight = refl;
  nine_before = refl;
  picked = picked;
  picked_too = picked_too;
  arrays_differ = λ e. let z : ◌≡◌ {A = ℕ} 8 0 = ap (λ l. get_or l 193 0) e in omega (arith, z);
  not_yet = refl;
  not_entered_is = lit≤ tt;
  not_picked = lit≤ tt;
  smallest = refl;
  nothing_waits = refl;
}
  where
    -- the pick at 500, by the promise; what it says of the higher classes serves the other outcome, too
    picked : Picks with_nine seven_picked 500 6 (entry 7 500)
    picked = picked_is_first with_nine 500 6 (entry 7 500) (reached_is_sound with_nine nine_reached).0 refl refl

    -- the classes that nothing enters are those of the empty places
    never_others : (d : ℕ) → (d ≡ 6 → ⊥) → queue never_seven d ≡ queue with_nine d
    never_others d h = go (ℕ_discrete d 2)
      where
        go : Dec (d ≡ 2) → queue never_seven d ≡ queue with_nine d
        go (yes p) = rw p refl
        go (no p) =
            (entered_is_last without_seven 2 (entry 9 300) (reached_is_sound without_seven eight_reached).0 refl).others d p
            ∙ (entered_is_last nothing 6 (entry 8 500) (reached_is_sound nothing start).0 refl).others d h
            ∙ sym ((entered_is_last nothing 6 (entry 7 500) (reached_is_sound nothing start).0 refl).others d h)
            ∙ sym ((entered_is_last with_seven 6 (entry 8 500) (reached_is_sound with_seven seven_reached).0 refl).others d h)
            ∙ sym ((entered_is_last with_eight 2 (entry 9 300) (reached_is_sound with_eight (entering seven_reached 6 (entry 8 500))).0 refl).others d p)

    picked_too : Picks with_nine never_seven 500 6 (entry 7 500)
    picked_too = record {
      ahead = [];
      behind = entry 8 500 ∷ [];
      was = refl;
      is = refl;
      others = never_others;
      eligible = omega arith;
      highest = picked.highest;
      first = none;
      smallest = one {e = entry 8 500} (omega arith) none;
    }

-- ---- each promise at these values: its premises are all among the examples
pub waiting_premises : WaitingExamples → Unit {0}
waiting_premises x =
    let sound = reached_is_sound seven_picked x.reached in
    let never-9 = reached_is_never_refused seven_picked x.reached in
    let last = entered_is_last with_seven 6 (entry 8 500) x.one_waits (ap entered_number x.entered) in
    let not_full = (full_is_thirty_two (in_class 3 31) 3 (entry 31 0)).1 (ap entered_number x.thirty_second) in
    let full = (full_is_thirty_two (in_class 3 32) 3 (entry 32 0)).0 (ap entered_number x.thirty_third) in
    let first = picked_is_first with_nine 500 6 (entry 7 500) x.three_wait (ap picked_number x.seven_first) (ap picked_values x.seven_first) in
    let fixed = pick_is_fixed with_nine seven_picked never_seven 500 6 6 (entry 7 500) (entry 7 500) x.picked x.picked_too in
    let nothing-eligible = nothing_is_nothing with_nine 299 (ap picked_number x.not_yet) in
    let entering-refused = (refused_changes_nothing (in_class 3 32)).0 3 (entry 32 0) x.not_entered_is in
    let pick-refused = (refused_changes_nothing overfull).1 0 x.not_picked in
    let smallest = (smallest_is_smallest with_nine).0 (ticks 300) x.smallest in
    let empty = (smallest_is_smallest nothing).1 x.nothing_waits in
    tt
