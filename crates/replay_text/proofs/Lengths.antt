-- No line and no note is longer than the room that is asked for it, and one line is as long. Assumes nothing.
use mathlib.Core.Path.{◌≡◌, refl}
use Prim.Native.Nat.{ℕ, ◌≤◌}
use native.Mathlib.Omega.{arith}
use lib.ListN.{length, length-append}
use Rattle.std.specs.Prelude.{Option, None, Some}
use Rattle.quantity.specs.Kinds.{ticks}
use Rattle.text.specs.Decimal.{last_digits, fewest, digit_count, decimal}
use Rattle.text.specs.Numeral.{most}
use Rattle.text.proofs.Widths.{twenty, three}
use Rattle.replay_text.specs.declared.Line.{Line}
use Rattle.replay_text.specs.declared.Line.TheVariants.{Answer, Pick, Refused, Stop}
use Rattle.text.specs.Puts.{joined}
use Rattle.replay_text.specs.Lines.{text_of, line_room}
use Rattle.replay_text.specs.declared.Note.{Note}
use Rattle.replay_text.specs.declared.Note.TheVariants as note
use Rattle.replay_text.specs.Notes.{note_text}

-- ---- the lines

-- the number that a line tells, of 8 bits; a pick tells none
abbrev pub number_of : Line → ℕ
number_of (Answer place number) = number
number_of (Pick handle moment) = 0
number_of (Refused number) = number
number_of (Stop number next free events picks) = number

pub no_longer : (line : Line) → number_of line ≤ 255 → length (text_of line) ≤ line_room
unfolding text_of joined
no_longer (Answer place number) h = simp length-append (omega (arith, twenty place, three number h))
no_longer (Pick handle moment) h = simp length-append (omega (arith, twenty handle, twenty moment.0))
no_longer (Refused number) h = simp length-append (omega (arith, three number h))
no_longer (Stop number next free events picks) h =
    simp length-append (omega (arith, three number h, twenty next, twenty free.0, twenty events, twenty picks))

pub longest : length (text_of (Stop 255 most (ticks most) most most)) ≡ line_room
unfolding text_of joined decimal last_digits digit_count fewest
longest = refl

-- ---- the notes

-- the number that a note tells, of 8 bits; one of them tells none, and so does no note
abbrev pub note_number : Option Note → ℕ
note_number None = 0
note_number (Some (note.NotSetUp n number)) = number
note_number (Some (note.Unreadable n offset number)) = number
note_number (Some note.TooManyFrames) = 0

pub no_note_longer : (x : Option Note) → note_number x ≤ 255 → length (note_text x) ≤ line_room
unfolding note_text joined
no_note_longer None h = omega arith
no_note_longer (Some (note.NotSetUp n number)) h = simp length-append (omega (arith, twenty n, three number h))
no_note_longer (Some (note.Unreadable n offset number)) h = simp length-append (omega (arith, twenty n, twenty offset, three number h))
no_note_longer (Some note.TooManyFrames) h = omega arith
