-- The lines of a replay, character by character: document 01's numbers, in decimal, between words.
-- A line is its parts one after the other; its numbers are separated by single spaces, and a line end stands at its end.
use Rattle.std.specs.Prelude.{ℕ, ◌+◌, cond, List, [], ◌∷◌, leb, length}
use Rattle.text.specs.Decimal.{decimal}
use Rattle.text.specs.Places.{Placed, placed}
use Rattle.text.specs.Puts.{joined}
use Rattle.replay_text.specs.declared.Line.{Line}
use Rattle.replay_text.specs.declared.Line.TheVariants.{Answer, Pick, Refused, Stop}

-- ---- the words, with the spaces around them

abbrev pub space : List ℕ
space = 32 ∷ []

abbrev pub line_end : List ℕ
line_end = 10 ∷ []

-- `pick `
abbrev pub pick_word : List ℕ
pick_word = 112 ∷ 105 ∷ 99 ∷ 107 ∷ 32 ∷ []

-- `refused `
abbrev pub refused_word : List ℕ
refused_word = 114 ∷ 101 ∷ 102 ∷ 117 ∷ 115 ∷ 101 ∷ 100 ∷ 32 ∷ []

-- `stop `
abbrev pub stop_word : List ℕ
stop_word = 115 ∷ 116 ∷ 111 ∷ 112 ∷ 32 ∷ []

-- ` next `
abbrev pub next_word : List ℕ
next_word = 32 ∷ 110 ∷ 101 ∷ 120 ∷ 116 ∷ 32 ∷ []

-- ` free `
abbrev pub free_word : List ℕ
free_word = 32 ∷ 102 ∷ 114 ∷ 101 ∷ 101 ∷ 32 ∷ []

-- ` events `
abbrev pub events_word : List ℕ
events_word = 32 ∷ 101 ∷ 118 ∷ 101 ∷ 110 ∷ 116 ∷ 115 ∷ 32 ∷ []

-- ` picks `
abbrev pub picks_word : List ℕ
picks_word = 32 ∷ 112 ∷ 105 ∷ 99 ∷ 107 ∷ 115 ∷ 32 ∷ []

-- ---- the parts of each line

-- two numbers: a place of the lists and the answer to the frame there, or the handle of a frame and the moment of its pick
abbrev pub pair : ℕ → ℕ → List (List ℕ)
pair a b = decimal a ∷ space ∷ decimal b ∷ line_end ∷ []

-- the run's stop, the next arrival's place, line-free, and the counts of events and of picks
abbrev pub stop : ℕ → ℕ → ℕ → ℕ → ℕ → List (List ℕ)
stop number next free events picks =
    stop_word ∷ decimal number ∷ next_word ∷ decimal next ∷ free_word ∷ decimal free ∷ events_word ∷ decimal events ∷ picks_word ∷ decimal picks ∷ line_end ∷ []

-- the answer to a frame, a pick, a run that is refused, a run's stop
abbrev pub parts_of : Line → List (List ℕ)
parts_of (Answer place number) = pair place number
parts_of (Pick handle moment) = pick_word ∷ pair handle moment.0
parts_of (Refused number) = refused_word ∷ decimal number ∷ line_end ∷ []
parts_of (Stop number next free events picks) = stop number next free.0 events picks

-- ---- the lines

unfoldable pub text_of : Line → List ℕ
text_of line = joined (parts_of line)

-- the length of the longest line: a stop's, with as many digits as its numbers can have
abbrev pub line_room : ℕ
line_room = 116

-- A line is put at a place of lent bytes where the longest line would have room; else nothing changes.
unfoldable pub line_put : List ℕ → ℕ → Line → Placed
line_put bytes at line = cond (leb (at + line_room) (length bytes)) (placed bytes at (text_of line)) (record { next = at; bytes = bytes })
