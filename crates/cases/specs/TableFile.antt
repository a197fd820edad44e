-- Values at which the premises of the round trip of the table file hold, in `reader` and in `promises`: document 01's example file and its records.
-- Each field of the record is a premise at these values, or what comes of it. Places and widths are plain numbers.
use Rattle.std.specs.Prelude.{ℕ, ◌-◌, ◌≤◌, ◌≡◌, List, [], ◌∷◌, length, drop, replicate, Ok}
use Rattle.std.proofs.Math.Option.{some}
use Rattle.tablefile.specs.Answers.{written_number, reading_number, nothing_left, reading_values, written_values}
use Rattle.quantity.specs.Numbers.{least_refusal}
use Rattle.quantity.specs.Kinds.{ticks, per_second}
use Rattle.tablefile.specs.BigEndian.{AreBytes}
use Rattle.tablefile.specs.Layout.{ST, mark_width, widths, record_of, field_numbers, bytes_of, Fits}
use Rattle.tablefile.specs.declared.Record.{Record}
use Rattle.tablefile.specs.declared.Record.TheVariants.{Group, GroupDefault, Stream, Frame}
use Rattle.tablefile.specs.declared.Reading.TheVariants.{Found}
use Rattle.reader.specs.Reader.{read_at}
use Rattle.reader.specs.File.{AllFit, file_of}
use Rattle.reader.specs.Figures.{stream_line, example_file}
use Rattle.writer.specs.Writer.{write_to}

-- the records of the example file
abbrev pub group_record : Record
group_record = Group 0 6 (ticks 224_000)

abbrev pub stream_record : Record
stream_record = Stream 0 0 (per_second 9_000_000) 1_344

abbrev pub frame_record : Record
frame_record = Frame 0 64 (ticks 0)

abbrev pub example_records : List Record
example_records = group_record ∷ stream_record ∷ frame_record ∷ frame_record ∷ frame_record ∷ []

-- the stream's record as its line of the file has it
abbrev pub stream_of_its_line : Record
stream_of_its_line = record_of ST (field_numbers (widths ST) (drop mark_width stream_line))

-- a lent part of so many places
abbrev pub lent : ℕ → List ℕ
lent places = replicate places 0

pub record TableFileExamples : Type 0 where
  -- ReadsBack: the stream's record fits its fields, and its bytes are the example's second line
  pub fits : Fits stream_record
  pub its_bytes : bytes_of stream_record ≡ stream_line
  -- WritesBack, FoundInTheWhole, FileWritesBack: the file is bytes, and at place 12 the stream's record is found, up to place 28
  pub are_bytes : AreBytes example_file
  pub found : read_at example_file 12 ≡ Found stream_record 28
  pub found_values : reading_values (read_at example_file 12) ≡ some (stream_record, 28)
  -- SameBytes: the stream's record, and the one that its line has
  pub fits_too : Fits stream_of_its_line
  pub same_bytes : bytes_of stream_record ≡ bytes_of stream_of_its_line
  -- FileReadsBack: each record of the example fits, and a group without a residence would, too; their bytes are the file
  pub all_fit : AllFit example_records
  pub default_fits : Fits (GroupDefault 0 6)
  pub their_bytes : file_of example_records ≡ example_file
  -- WrittenIsRead: the stream's record is written into a part of 20 places
  pub written : (write_to stream_record (lent 20)).answer ≡ Ok 16
  pub written_values_is : written_values (write_to stream_record (lent 20)).answer ≡ some 16
  -- ReadIsWritten: the part has room for the bytes that were read
  pub room : 28 - 12 ≤ length (lent 20)
  -- RefusedStays: 15 places are too few for its 16 bytes
  pub too_short : least_refusal ≤ written_number (write_to stream_record (lent 15)).answer
  -- NothingWithoutRecord: at the end of the file, and two bytes before it
  pub at_the_end : nothing_left ≤ reading_number (read_at example_file 67)
  pub no_mark : nothing_left ≤ reading_number (read_at example_file 65)
