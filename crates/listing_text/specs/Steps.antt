-- What the private steps give. No sentence of the document stands here.
-- l is lent bytes, at a place in them, ts a text.
use Rattle.std.specs.Prelude.{ℕ, ◌+◌, ◌≡◌, List, length}
use Rattle.std.proofs.lemmas.List.Edits.{sets}

-- the most digits of a number of 64 bits, and of one of 8 bits
abbrev pub most_digits : ℕ
most_digits = 20

abbrev pub number_room : ℕ
number_room = 3

-- the most characters of a line up to its letters and the space after them, and from there to its end
abbrev pub head_room : ℕ
head_room = 24

abbrev pub tail_room : ℕ
tail_room = 25

-- a text was put at a place, and the next place is the one after it
pub record Put (l : List ℕ) (at : ℕ) (ts : List ℕ) (next : ℕ) (out : List ℕ) : Type 0 where
  pub ends : next ≡ at + length ts
  pub stands : out ≡ sets l at ts
