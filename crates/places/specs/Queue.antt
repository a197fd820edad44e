-- Document 01, 'Waiting and picking': how the arrays hold each class as a list of its entries in order of entering.
-- w is the waiting places; ts, hs, bs and fs are lists of times, handles, bits and fills; c is a class, i a place of the arrays.
use Rattle.std.specs.Prelude.{ℕ, zero, suc, ◌+◌, ◌*◌, ◌≡◌, cond, ◌&&◌, List, [], ◌∷◌, leb, length, get_or, replicate}
use Rattle.quantity.specs.Kinds.{ticks, bits}
use Rattle.quantity.specs.Ranges.{in_range, most_of}
use Rattle.quantity.specs.declared.Item.TheVariants.{Class}
use Rattle.places.specs.declared.Waiting.{Waiting}
use Rattle.places.specs.declared.Entry.{Entry}

-- each class has 32 places of its own
abbrev pub places : ℕ
places = 32

-- 256 in all
abbrev pub all_places : ℕ
all_places = 256

-- the classes are 0 up to the last
abbrev pub classes : ℕ
classes = most_of Class + 1

-- four lists as one record
abbrev pub lists : List ℕ → List ℕ → List ℕ → List ℕ → Waiting
lists ts hs bs fs = record { times = ts; handles = hs; bits = bs; fills = fs }

-- empty at the start, no class filled
unfoldable pub nothing : Waiting
nothing = lists (replicate all_places 0) (replicate all_places 0) (replicate all_places 0) (replicate classes 0)

-- how many entries of a class count: its fill; none where there is no such class, or the fill is beyond its places
unfoldable pub count_of : List ℕ → ℕ → ℕ
count_of fs c = cond (in_range Class c && leb (get_or fs c 0) places) (get_or fs c 0) 0

-- the entry that stands at a place
unfoldable pub entry_at : Waiting → ℕ → Entry
entry_at w i = record { handle = get_or w.handles i 0; time = ticks (get_or w.times i 0); bits = bits (get_or w.bits i 0) }

-- the n entries that stand from place i on
unfoldable pub entries_from : Waiting → ℕ → ℕ → List Entry
entries_from w i zero = []
entries_from w i (suc n) = entry_at w i ∷ entries_from w (i + 1) n

-- the entries of class c, in order of entering
unfoldable pub queue : Waiting → ℕ → List Entry
queue w c = entries_from w (c * places) (count_of w.fills c)

-- the arrays have the lengths that the code gives them
pub record Shaped (w : Waiting) : Type 0 where
  pub times : length w.times ≡ all_places
  pub handles : length w.handles ≡ all_places
  pub bits : length w.bits ≡ all_places
  pub fills : length w.fills ≡ classes
