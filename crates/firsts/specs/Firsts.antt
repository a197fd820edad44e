-- Document 01, 'Waiting and picking': which entry of a class goes first, and the smallest time at which any entry waits.
-- ts and fs are the times and fills of the waiting places; c is a class, k a place in it, t a time.
use Rattle.std.specs.Prelude.{ℕ, zero, suc, ◌+◌, ◌*◌, min, cond, Option, Some, None, List, [], ◌∷◌, ltb, get_or}
use Rattle.quantity.specs.Kinds.{ticks}
use Rattle.quantity.specs.declared.Ticks.{Ticks}
use Rattle.places.specs.Queue.{places, classes, count_of}
use Rattle.firsts.specs.declared.First.{First}

-- n numbers from place i on, as a list
unfoldable pub part : List ℕ → ℕ → ℕ → List ℕ
part l i zero = []
part l i (suc n) = get_or l i 0 ∷ part l (i + 1) n

-- the first that has the smallest time, of an entry at a place with the time t and those from place k on, whose times are l
unfoldable pub first_from : ℕ → ℕ → ℕ → List ℕ → First
first_from place t k [] = record { place = place; time = ticks t }
first_from place t k (x ∷ l) = cond (ltb x t) (first_from k x (k + 1) l) (first_from place t (k + 1) l)

-- the entry that goes first, of entries with the times l in order of entering: the smallest time, and among equal times the one entered first
unfoldable pub first_in : List ℕ → Option First
first_in [] = None
first_in (t ∷ l) = Some (first_from 0 t 1 l)

-- the entry of class c that goes first
unfoldable pub first_of : List ℕ → List ℕ → ℕ → Option First
first_of ts fs c = first_in (part ts (c * places) (count_of fs c))

-- the smaller of a time and a class's smallest
unfoldable pub smaller : Option Ticks → Option First → Option Ticks
smaller s None = s
smaller None (Some f) = Some f.time
smaller (Some s) (Some f) = Some (ticks (min s.0 f.time.0))

-- the smallest time of the classes below n
unfoldable pub smallest_below : List ℕ → List ℕ → ℕ → Option Ticks
smallest_below ts fs zero = None
smallest_below ts fs (suc c) = smaller (smallest_below ts fs c) (first_of ts fs c)

-- the smallest time at which any entry waits
unfoldable pub smallest_of : List ℕ → List ℕ → Option Ticks
smallest_of ts fs = smallest_below ts fs classes
