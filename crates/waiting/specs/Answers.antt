-- Document 01, 'Numbers returned': the number of each answer, and the values that come with it.
-- c is a class, e an entry.
use Rattle.std.specs.Prelude.{ℕ, Ok, Err, List, [], ◌∷◌}
use Rattle.quantity.specs.Numbers.{number_of}
use Rattle.classes.specs.Calls.{Entered}
use Rattle.places.specs.declared.Picked.{Picked}
use Rattle.places.specs.declared.Picked.TheVariants.{Leaves, Nothing, Refused as NotPicked}

-- the number that entering answers; no value comes with it
abbrev pub entered_number : Entered → ℕ
entered_number (Ok done) = 0
entered_number (Err why) = number_of why

-- the number that a pick answers
abbrev pub picked_number : Picked → ℕ
picked_number (Leaves c e) = 0
picked_number Nothing = 2
picked_number (NotPicked why) = number_of why

-- the values that come with it: the entry's class, handle, time and bits
abbrev pub picked_values : Picked → List ℕ
picked_values (Leaves c e) = c ∷ e.handle ∷ e.time.0 ∷ e.bits.0 ∷ []
picked_values Nothing = []
picked_values (NotPicked why) = []
