-- What a replay says of the records that it reads, character by character: a record's number, the offset of its first byte and document 01's numbers, in decimal, between words.
-- A note is its parts one after the other, and a line end stands at its end; no note is no text at all.
use Rattle.std.specs.Prelude.{ℕ, ◌+◌, cond, List, [], ◌∷◌, Option, None, Some, leb, length}
use Rattle.text.specs.Decimal.{decimal}
use Rattle.text.specs.Places.{Placed, placed}
use Rattle.text.specs.Puts.{joined}
use Rattle.replay_text.specs.Lines.{line_end, line_room}
use Rattle.replay_text.specs.declared.Note.{Note}
use Rattle.replay_text.specs.declared.Note.TheVariants.{NotSetUp, Unreadable, TooManyFrames}

-- ---- the words, with the spaces around them

-- `record `
abbrev pub record_word : List ℕ
record_word = 114 ∷ 101 ∷ 99 ∷ 111 ∷ 114 ∷ 100 ∷ 32 ∷ []

-- `: set-up refused, `
abbrev pub set_up_refused_word : List ℕ
set_up_refused_word = 58 ∷ 32 ∷ 115 ∷ 101 ∷ 116 ∷ 45 ∷ 117 ∷ 112 ∷ 32 ∷ 114 ∷ 101 ∷ 102 ∷ 117 ∷ 115 ∷ 101 ∷ 100 ∷ 44 ∷ 32 ∷ []

-- `failed: record `
abbrev pub failed_record_word : List ℕ
failed_record_word = 102 ∷ 97 ∷ 105 ∷ 108 ∷ 101 ∷ 100 ∷ 58 ∷ 32 ∷ 114 ∷ 101 ∷ 99 ∷ 111 ∷ 114 ∷ 100 ∷ 32 ∷ []

-- ` at byte `
abbrev pub at_byte_word : List ℕ
at_byte_word = 32 ∷ 97 ∷ 116 ∷ 32 ∷ 98 ∷ 121 ∷ 116 ∷ 101 ∷ 32 ∷ []

-- `: unreadable, `
abbrev pub unreadable_word : List ℕ
unreadable_word = 58 ∷ 32 ∷ 117 ∷ 110 ∷ 114 ∷ 101 ∷ 97 ∷ 100 ∷ 97 ∷ 98 ∷ 108 ∷ 101 ∷ 44 ∷ 32 ∷ []

-- `failed: more than 65536 FR records` and the line's end: so many places a list has at most
abbrev pub too_many_word : List ℕ
too_many_word = 102 ∷ 97 ∷ 105 ∷ 108 ∷ 101 ∷ 100 ∷ 58 ∷ 32 ∷ 109 ∷ 111 ∷ 114 ∷ 101 ∷ 32 ∷ 116 ∷ 104 ∷ 97 ∷ 110 ∷ 32 ∷ 54 ∷ 53 ∷ 53 ∷ 51 ∷ 54 ∷ 32 ∷ 70 ∷ 82 ∷ 32 ∷ 114 ∷ 101 ∷ 99 ∷ 111 ∷ 114 ∷ 100 ∷ 115 ∷ 10 ∷ []

-- ---- the parts of each note

-- a record's number, and the number that refused its set-up
abbrev pub refused_set_up : ℕ → ℕ → List (List ℕ)
refused_set_up n number = record_word ∷ decimal n ∷ set_up_refused_word ∷ decimal number ∷ line_end ∷ []

-- a record's number, the offset of its first byte, and the number that the reader gave there
abbrev pub unreadable : ℕ → ℕ → ℕ → List (List ℕ)
unreadable n offset number =
    failed_record_word ∷ decimal n ∷ at_byte_word ∷ decimal offset ∷ unreadable_word ∷ decimal number ∷ line_end ∷ []

abbrev pub note_parts_of : Note → List (List ℕ)
note_parts_of (NotSetUp n number) = refused_set_up n number
note_parts_of (Unreadable n offset number) = unreadable n offset number
note_parts_of TooManyFrames = too_many_word ∷ []

-- ---- the notes

unfoldable pub note_text : Option Note → List ℕ
note_text None = []
note_text (Some note) = joined (note_parts_of note)

-- A note, if there is one, is put at a place of lent bytes where the longest line would have room; else nothing changes.
unfoldable pub note_put : List ℕ → ℕ → Option Note → Placed
note_put bytes at note = cond (leb (at + line_room) (length bytes)) (placed bytes at (note_text note)) (record { next = at; bytes = bytes })
