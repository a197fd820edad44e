-- Document 01, 'The table file', for a listing into lent bytes: a line, and what ends a listing, put at a place.
-- l is the lent bytes, at a place in them, ts a text, n the number of a line or a count of lines.
use Rattle.std.specs.Prelude.{ℕ, ◌+◌, Bool, cond, ◌&&◌, List, [], ◌∷◌, ltb, leb, length, get_or}
use Rattle.std.proofs.lemmas.List.Edits.{sets}
use Rattle.text.specs.Places.{Placed}
use Rattle.tablefile.specs.Answers.{reading_number}
use Rattle.tablefile.specs.declared.Reading.{Reading}
use Rattle.listing_text.specs.Lines.{values_of, line_of, ending}
use Rattle.listing_text.specs.declared.Answered.{Answered}

-- no line of numbers of 64 bits is longer, and no end line
abbrev pub line_room : ℕ
line_room = 49

abbrev pub end_room : ℕ
end_room = 25

-- the most lines that a number of 64 bits counts
abbrev pub most_lines : ℕ
most_lines = 18_446_744_073_709_551_615

-- a text put at a place where it may be; else nothing changes
unfoldable pub put_where : Bool → List ℕ → ℕ → List ℕ → Placed
put_where may l at ts = cond may (record { next = at + length ts; bytes = sets l at ts }) (record { next = at; bytes = l })

-- a line with two letters, which may be where a longest line has room
unfoldable pub line_put : List ℕ → ℕ → ℕ → List ℕ → Answered → Placed
line_put l at n letters a = put_where (leb (at + line_room) (length l)) l at (line_of n (get_or letters 0 0 ∷ get_or letters 1 0 ∷ []) a.number (values_of a.time))

-- a longest line and a longest end line have room, and one more line can be counted
unfoldable pub may_end : ℕ → ℕ → ℕ → Bool
may_end n at size = leb (at + (line_room + end_room)) size && ltb n most_lines

-- what ends the listing
unfoldable pub end_put : List ℕ → ℕ → ℕ → Reading → Placed
end_put l at n x = put_where (may_end n at (length l)) l at (ending n (reading_number x))
