-- What the definitions give on small files: one that is empty, one whose second record is cut short, and one that has a frame more than there are places.
-- The frame's bytes are those of document 01's example.
use Rattle.std.specs.Prelude.{◌≡◌, refl, true, false, [], ◌∷◌, ◌++◌}
use Rattle.tablefile.specs.BigEndian.{number}
use Rattle.tablefile.specs.Layout.{kinds, total, field_numbers, size}
use Rattle.reader.specs.Reader.{is_mark, marked_among, read_fields, read_marked, read_left, read_at}
use Rattle.reader.specs.File.{onwards, answers, contents_from}
use Rattle.reader.specs.Figures.{frame_line}
use Rattle.bridge.specs.Tables.{fresh_bridge}
use Rattle.text.specs.Decimal.{digit, last_digits, fewest, digit_count, decimal}
use Rattle.text.specs.Puts.{joined}
use Rattle.replay_text.specs.Notes.{too_many_word, note_text}
use Rattle.replay_turn.specs.Gathered.{Yard, fresh_yard, with_frame, ends_with, ended_at, taken, records_taken, gathered_of, gathered_from}

-- one frame of 64 octets at 0, for stream 0
abbrev one_frame : Yard
one_frame = record { bridge = fresh_bridge; arrivals = 0 ∷ []; ids = 0 ∷ []; octets = 64 ∷ [] }

pub empty : gathered_from 1 [] ≡ record { text = []; final = record { whole = true; yard = fresh_yard } }
unfolding gathered_of records_taken ended_at ends_with note_text joined contents_from answers onwards read_at read_left
empty = refl

-- `failed: record 2 at byte 13: unreadable, 25`
pub cut_short : gathered_from 1 (frame_line ++ (0x46 ∷ []))
    ≡ record {
      text = 102 ∷ 97 ∷ 105 ∷ 108 ∷ 101 ∷ 100 ∷ 58 ∷ 32 ∷ 114 ∷ 101 ∷ 99 ∷ 111 ∷ 114 ∷ 100 ∷ 32 ∷ 50 ∷ 32 ∷ 97 ∷ 116 ∷ 32 ∷ 98 ∷ 121 ∷ 116 ∷ 101 ∷ 32 ∷ 49 ∷ 51 ∷ 58 ∷ 32 ∷ 117 ∷ 110 ∷ 114 ∷ 101 ∷ 97 ∷ 100 ∷ 97 ∷ 98 ∷ 108 ∷ 101 ∷ 44 ∷ 32 ∷ 50 ∷ 53 ∷ 10 ∷ [];
      final = record { whole = false; yard = one_frame };
    }
unfolding gathered_of records_taken taken with_frame fresh_yard ended_at ends_with note_text joined decimal last_digits digit digit_count fewest contents_from answers onwards read_at read_left read_marked marked_among kinds is_mark read_fields field_numbers number total size
cut_short = refl

pub one_too_many : gathered_from 1 (frame_line ++ frame_line) ≡ record { text = too_many_word; final = record { whole = false; yard = one_frame } }
unfolding gathered_of records_taken taken with_frame fresh_yard ended_at ends_with note_text joined contents_from answers onwards read_at read_left read_marked marked_among kinds is_mark read_fields field_numbers number total size
one_too_many = refl
