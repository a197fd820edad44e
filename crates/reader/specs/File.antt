-- Document 01, 'The table file': what a list of bytes holds as a whole.
-- The reading goes on from record to record; 5, 24 or 25 ends it.
use Rattle.std.specs.Prelude.{ℕ, zero, suc, List, [], ◌∷◌, ◌++◌, length}
use Rattle.tablefile.specs.declared.Record.{Record}
use Rattle.tablefile.specs.Layout.{Fits, bytes_of}
use Rattle.tablefile.specs.declared.Reading.{Reading}
use Rattle.tablefile.specs.declared.Reading.TheVariants.{Found, NothingLeft, Refused}
use Rattle.reader.specs.Reader.{read_at}
use Rattle.tablefile.specs.Answers.{nothing_left, reading_number}

-- the bytes of records, one after the other; nothing stands between
unfoldable pub file_of : List Record → List ℕ
file_of [] = []
file_of (r ∷ rs) = bytes_of r ++ file_of rs

-- each of the records fits its fields
pub data AllFit : List Record → Type 0 where
  no_record : AllFit []
  and_record : {r : Record} {rs : List Record} → Fits r → AllFit rs → AllFit (r ∷ rs)

-- the records, the number that ended the reading, and the place where it ended
pub record Contents : Type 0 where
  pub records : List Record
  pub ended : ℕ
  pub place : ℕ

-- by the answer at a place: a record and what stands from the next place on, or the end
unfoldable pub onwards : Reading → ℕ → (ℕ → Contents) → Contents
onwards (Found r next) place from =
    record { records = r ∷ (from next).records; ended = (from next).ended; place = (from next).place }
onwards NothingLeft place from = record { records = []; ended = reading_number NothingLeft; place = place }
onwards (Refused why) place from = record { records = []; ended = reading_number (Refused why); place = place }

-- the same with at most so many answers; contents_from has enough of them
unfoldable pub answers : ℕ → List ℕ → ℕ → Contents
answers zero bytes place = record { records = []; ended = nothing_left; place = place }
answers (suc n) bytes place = onwards (read_at bytes place) place (answers n bytes)

-- what stands from a place on; the law `one_at_a_time` is all there is to know of it
unfoldable pub contents_from : List ℕ → ℕ → Contents
contents_from bytes place = answers (suc (length bytes)) bytes place

-- what a file holds
abbrev pub contents : List ℕ → Contents
contents bytes = contents_from bytes 0
