-- Document 01, 'Numbers returned': when a class is sound.
-- ts, bs and fs are the times, charged bits and fills; c is a class, i a place of the arrays.
use Rattle.std.specs.Prelude.{ℕ, zero, suc, ◌+◌, ◌*◌, Bool, true, ◌&&◌, List, leb, get_or}
use Rattle.quantity.specs.Ranges.{in_range}
use Rattle.quantity.specs.declared.Item.TheVariants.{Charge, EntryTime}
use Rattle.places.specs.Queue.{places, classes}

-- p holds of the n places from i on
unfoldable pub every : (ℕ → Bool) → ℕ → ℕ → Bool
every p i zero = true
every p i (suc n) = p i && every p (i + 1) n

-- an entry's charged bits and its time are in range
unfoldable pub entry_sound : ℕ → ℕ → Bool
entry_sound t b = in_range Charge b && in_range EntryTime t

-- the entry that stands at a place is sound
unfoldable pub sound_at : List ℕ → List ℕ → ℕ → Bool
sound_at ts bs i = entry_sound (get_or ts i 0) (get_or bs i 0)

-- a class's fill is at most 32, and its entries are sound; what stands beyond the fill is not looked at
unfoldable pub class_sound : List ℕ → List ℕ → List ℕ → ℕ → Bool
class_sound ts bs fs c = leb (get_or fs c 0) places && every (sound_at ts bs) (c * places) (get_or fs c 0)

-- all classes are sound
unfoldable pub all_sound : List ℕ → List ℕ → List ℕ → Bool
all_sound ts bs fs = every (class_sound ts bs fs) 0 classes
