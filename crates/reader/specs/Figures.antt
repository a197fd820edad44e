-- Document 01, 'The table file': the example file, as the definitions read it.
-- The bytes of the example stand as in the document, a record to a line.
use Rattle.std.specs.Prelude.{ℕ, ◌≡◌, refl, List, [], ◌∷◌, ◌++◌}
use Rattle.quantity.specs.Kinds.{ticks, per_second}
use Rattle.tablefile.specs.declared.Record.TheVariants.{Group, Stream, Frame}
use Rattle.tablefile.specs.BigEndian.{number}
use Rattle.tablefile.specs.Layout.{kinds, total, field_numbers, size}
use Rattle.reader.specs.Reader.{is_mark, marked_among, read_fields, read_marked, read_left, read_at}
use Rattle.tablefile.specs.Answers.{nothing_left}
use Rattle.reader.specs.File.{onwards, answers, contents_from, contents}

abbrev pub group_line : List ℕ
group_line = 0x47 ∷ 0x52 ∷ 0x00 ∷ 0x06 ∷ 0x00 ∷ 0x00 ∷ 0x00 ∷ 0x00 ∷ 0x00 ∷ 0x03 ∷ 0x6B ∷ 0x00 ∷ []

abbrev pub stream_line : List ℕ
stream_line = 0x53 ∷ 0x54 ∷ 0x00 ∷ 0x00 ∷ 0x00 ∷ 0x00 ∷ 0x00 ∷ 0x00 ∷ 0x00 ∷ 0x89 ∷ 0x54 ∷ 0x40 ∷ 0x00 ∷ 0x00 ∷ 0x05 ∷ 0x40 ∷ []

abbrev pub frame_line : List ℕ
frame_line = 0x46 ∷ 0x52 ∷ 0x00 ∷ 0x00 ∷ 0x40 ∷ 0x00 ∷ 0x00 ∷ 0x00 ∷ 0x00 ∷ 0x00 ∷ 0x00 ∷ 0x00 ∷ 0x00 ∷ []

-- the file
abbrev pub example_file : List ℕ
example_file = group_line ++ (stream_line ++ (frame_line ++ (frame_line ++ frame_line)))

-- group 0 in class 6 with 224,000 ticks; stream 0 of group 0 with 9,000,000 and 1,344; three frames of 64 octets at 0
pub example : contents example_file
    ≡ record {
      records =
          Group 0 6 (ticks 224_000)
          ∷ Stream 0 0 (per_second 9_000_000) 1_344
          ∷ Frame 0 64 (ticks 0)
          ∷ Frame 0 64 (ticks 0)
          ∷ Frame 0 64 (ticks 0)
          ∷ [];
      ended = nothing_left;
      place = 67;
    }
unfolding contents_from answers onwards read_at read_left read_marked marked_among kinds is_mark read_fields field_numbers number total size
example = refl
