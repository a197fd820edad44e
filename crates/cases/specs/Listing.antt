-- Files at which the premises of the promises of `listing_part` and `listing_text` hold: document 01's example, whole and cut in the middle of its third record.
-- Each field of the record is a premise at these values, or what comes of it. Places, counts and rooms are plain numbers.
use Rattle.std.specs.Prelude.{ℕ, ◌≤◌, ◌≡◌, List, ◌++◌, length, take}
use Rattle.reader.specs.Figures.{example_file}
use Rattle.tablefile.specs.BigEndian.{AreBytes}
use Rattle.tablefile.specs.Answers.{nothing_left, reading_number}
use Rattle.tablefile.specs.declared.Reading.TheVariants.{NothingLeft}
use Rattle.bridge.specs.Tables.{fresh_bridge}
use Rattle.listing_text.specs.Places.{end_put}
use Rattle.listing_part.specs.Parts.{Part, part_of}
use Rattle.listing_part.specs.Figures.{line_1, line_2, line_3, line_4, line_5}
use Rattle.cases.specs.TableFile.{lent}

-- the group, the stream, and 5 of the 13 bytes of the first frame
abbrev pub cut_file : List ℕ
cut_file = take 33 example_file

-- what is listed of a file from a fresh start, where 300 bytes are lent for its lines
abbrev pub listed : List ℕ → Part
listed bytes = part_of bytes 300 fresh_bridge 0

pub record ListingExamples : Type 0 where
  -- ListingInParts: the cut file is bytes; two records have their lines, and the third begins at place 28
  pub are_bytes : AreBytes cut_file
  pub lines_of_cut : (listed cut_file).text ≡ line_1 ++ line_2
  pub place_of_cut : (listed cut_file).place ≡ 28
  -- ListingToItsEnd: the whole file ends with 5, after five lines
  pub whole_are_bytes : AreBytes example_file
  pub whole_ends : nothing_left ≤ reading_number (listed example_file).reading
  pub lines_of_whole : (listed example_file).text ≡ line_1 ++ (line_2 ++ (line_3 ++ (line_4 ++ line_5)))
  -- and the cut file, where nothing follows, with 25
  pub cut_ends : nothing_left ≤ reading_number (listed cut_file).reading
  pub cut_ends_25 : reading_number (listed cut_file).reading ≡ 25
  -- EndWithin: place 20 is one of 100 lent bytes, and `end 5` with its newline stands there
  pub within : 20 ≤ length (lent 100)
  pub after_end : (end_put (lent 100) 20 5 NothingLeft).next ≡ 26
