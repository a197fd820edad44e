-- Document 01, 'Waiting and picking' and the order of refusals: what entering and picking give and leave in the arrays, for every argument.
-- w is the waiting places, ts and fs their times and fills; c a class, k a place in it, m a moment, e an entry.
use Rattle.std.specs.Prelude.{ℕ, zero, suc, cond, not, Option, Some, None, Result, Ok, Err, List, leb}
use Rattle.quantity.specs.Ranges.{in_range}
use Rattle.quantity.specs.declared.Item.TheVariants.{Class, Charge, EntryTime}
use Rattle.quantity.specs.declared.Refusal.{Refusal}
use Rattle.quantity.specs.declared.Refusal.TheVariants.{Unsound, LengthRange, TooLate, ClassRange, ClassFull}
use Rattle.places.specs.declared.Waiting.{Waiting}
use Rattle.places.specs.declared.Entry.{Entry}
use Rattle.places.specs.declared.Picked.{Picked}
use Rattle.places.specs.declared.Picked.TheVariants.{Leaves, Nothing, Refused as NotPicked}
use Rattle.places.specs.declared.After.{After}
use Rattle.places.specs.Queue.{classes}
use Rattle.places.specs.Places.{with_last, has_room, AfterTake, take_gives}
use Rattle.firsts.specs.declared.First.{First}
use Rattle.firsts.specs.Firsts.{first_of}
use Rattle.classes.specs.declared.Due.{Due}
use Rattle.classes.specs.Soundness.{class_sound, all_sound}

-- ---- entering
-- what entering answers: done, or why it is refused
abbrev pub Entered : Type 0
Entered = Result (Unit {0}) Refusal

-- refused, and nothing changes
unfoldable pub not_entered : Refusal → Waiting → After Entered
not_entered why w = record { answer = Err why; waiting = w }

-- entering, with what refuses it in document 01's order
unfoldable pub enter_gives : Waiting → ℕ → Entry → After Entered
enter_gives w c e =
    cond (not (in_range Class c)) (not_entered ClassRange w)
    (cond (not (class_sound w.times w.bits w.fills c)) (not_entered Unsound w)
    (cond (not (in_range Charge e.bits.0)) (not_entered LengthRange w)
    (cond (not (in_range EntryTime e.time.0)) (not_entered TooLate w)
    (cond (not (has_room w.fills c)) (not_entered ClassFull w)
    (record { answer = Ok tt; waiting = with_last w c e })))))

-- ---- picking
-- class c, where the time of the entry that goes first is not after m; else what the lower classes give
unfoldable pub due_or : ℕ → ℕ → Option First → Option Due → Option Due
due_or m c None lower = lower
due_or m c (Some f) lower = cond (leb f.time.0 m) (Some (record { class = c; place = f.place })) lower

-- the highest class below n that has an entry whose time is not after m
unfoldable pub due_below : List ℕ → List ℕ → ℕ → ℕ → Option Due
due_below ts fs m zero = None
due_below ts fs m (suc c) = due_or m c (first_of ts fs c) (due_below ts fs m c)

-- the highest class of all
unfoldable pub due_of : List ℕ → List ℕ → ℕ → Option Due
due_of ts fs m = due_below ts fs m classes

-- what left class c, as the answer to a pick
abbrev pub picked_from : ℕ → Option Entry → Picked
picked_from c None = Nothing
picked_from c (Some e) = Leaves c e

abbrev pub picked_after : ℕ → AfterTake → After Picked
picked_after c t = record { answer = picked_from c t.left; waiting = t.waiting }

-- the entry that is due leaves
unfoldable pub take_due : Waiting → Option Due → After Picked
take_due w None = record { answer = Nothing; waiting = w }
take_due w (Some d) = picked_after d.class (take_gives w d.class d.place)

-- the pick at the moment m, refused where any class is unsound
unfoldable pub pick_gives : Waiting → ℕ → After Picked
pick_gives w m =
    cond (not (all_sound w.times w.bits w.fills)) (record { answer = NotPicked Unsound; waiting = w })
    (take_due w (due_of w.times w.fills m))
