-- Document 01, 'The table file': what the reader gives at a place of a list of bytes.
-- The bytes left are those from the place on.
use Rattle.std.specs.Prelude.{ℕ, ◌+◌, List, [], ◌∷◌, Bool, cond, ◌&&◌, length, get_or, drop, ltb, eqb}
use Rattle.std.proofs.Math.Option.{Option, none, some}
use Rattle.quantity.specs.declared.Refusal.TheVariants.{UnknownMark, CutShort}
use Rattle.tablefile.specs.Layout.{Kind, kinds, mark, widths, record_of, total, field_numbers, size}
use Rattle.tablefile.specs.declared.Reading.{Reading}
use Rattle.tablefile.specs.declared.Reading.TheVariants.{Found, NothingLeft, Refused}

-- these two bytes are this mark
unfoldable pub is_mark : List ℕ → ℕ → ℕ → Bool
is_mark m a b = eqb a (get_or m 0 0) && eqb b (get_or m 1 0)

-- the kind among these whose mark two bytes are, if there is one
unfoldable pub marked_among : List Kind → ℕ → ℕ → Option Kind
marked_among [] a b = none
marked_among (k ∷ ks) a b = cond (is_mark (mark k) a b) (some k) (marked_among ks a b)

-- after the mark of a kind: cut short if fewer bytes are left than the fields take; else the record and the place after it
unfoldable pub read_fields : Kind → List ℕ → ℕ → Reading
read_fields k left place =
    cond (ltb (length left) (total (widths k))) (Refused CutShort)
    (Found (record_of k (field_numbers (widths k) left)) (place + size k))

-- after two bytes: they are no known mark, or the fields follow
unfoldable pub read_marked : Option Kind → List ℕ → ℕ → Reading
read_marked none left place = Refused UnknownMark
read_marked (some k) left place = read_fields k left place

-- no byte left, one byte left, then the mark, then the fields
unfoldable pub read_left : List ℕ → ℕ → Reading
read_left [] place = NothingLeft
read_left (a ∷ []) place = Refused CutShort
read_left (a ∷ b ∷ left) place = read_marked (marked_among kinds a b) left place

-- what the reader gives at a place; from the end on no byte is left
unfoldable pub read_at : List ℕ → ℕ → Reading
read_at bytes place = read_left (drop place bytes) place
