-- Demand 2 for the table file: records read are those written, and writing what was read gives the same bytes.
-- A record is written by its bytes here; through the writer's call the same stands in the crate promises.
-- Each statement has a name here, and its proof under the same name in the file RoundTrip of proofs/.
use Rattle.std.specs.Prelude.{ℕ, ◌+◌, ◌-◌, ◌≤◌, ◌<◌, ◌≡◌, List, ◌++◌, length, take, drop}
use Rattle.tablefile.specs.declared.Record.{Record}
use Rattle.tablefile.specs.BigEndian.{AreBytes}
use Rattle.tablefile.specs.Layout.{Fits, bytes_of}
use Rattle.tablefile.specs.declared.Reading.TheVariants.{Found}
use Rattle.reader.specs.Reader.{read_at}
use Rattle.tablefile.specs.Answers.{nothing_left}
use Rattle.reader.specs.File.{AllFit, Contents, file_of, onwards, contents_from, contents}

-- a record's bytes are read back as that record, wherever they stand and whatever follows
abbrev pub ReadsBack : Type 0
ReadsBack =
    (r : Record) → Fits r → (before after : List ℕ)
    → read_at (before ++ (bytes_of r ++ after)) (length before) ≡ Found r (length before + length (bytes_of r))

-- what is true of a record that was found between two places of a list of bytes
pub record Whole (bytes : List ℕ) (place : ℕ) (r : Record) (next : ℕ) : Type 0 where
  -- it fits its fields
  pub fits : Fits r
  -- it has its bytes between the two places, which are in the list
  pub same : bytes_of r ≡ take (next - place) (drop place bytes)
  pub later : place < next
  pub inside : next ≤ length bytes

-- a record that is read has the bytes that were read
abbrev pub WritesBack : Type 0
WritesBack =
    (bytes : List ℕ) → AreBytes bytes → (place : ℕ) (r : Record) (next : ℕ)
    → read_at bytes place ≡ Found r next → Whole bytes place r next

-- a record that is found in a part of a file is found there in the whole file
abbrev pub FoundInTheWhole : Type 0
FoundInTheWhole =
    (before bytes after : List ℕ) → AreBytes bytes → (place : ℕ) (r : Record) (next : ℕ) → read_at bytes place ≡ Found r next
    → read_at (before ++ (bytes ++ after)) (length before + place) ≡ Found r (length before + next)

-- two records with the same bytes are the same record
abbrev pub SameBytes : Type 0
SameBytes = (r s : Record) → Fits r → Fits s → bytes_of r ≡ bytes_of s → r ≡ s

-- a file is read one record at a time
abbrev pub OneAtATime : Type 0
OneAtATime = (bytes : List ℕ) (place : ℕ) → contents_from bytes place ≡ onwards (read_at bytes place) place (contents_from bytes)

-- a file of any number of records holds exactly those, and ends with 5
abbrev pub FileReadsBack : Type 0
FileReadsBack =
    (rs : List Record) → AllFit rs
    → contents (file_of rs) ≡ record { records = rs; ended = nothing_left; place = length (file_of rs) }

-- what is true of the contents of a list of bytes
pub record Copied (bytes : List ℕ) (c : Contents) : Type 0 where
  -- its records fit their fields
  pub fit : AllFit c.records
  -- written again they are the bytes up to the place where the reading ended
  pub front : file_of c.records ≡ take c.place bytes
  -- and the whole of them where it ended with 5
  pub whole : c.ended ≡ nothing_left → file_of c.records ≡ bytes

abbrev pub FileWritesBack : Type 0
FileWritesBack = (bytes : List ℕ) → AreBytes bytes → Copied bytes (contents bytes)
