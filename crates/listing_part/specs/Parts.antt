-- Document 01, 'The table file', for a listing in parts: what is listed of a part of a file into lent bytes.
-- b is the bridge, n a count of lines, p a place in the bytes, room the lent bytes that are left.
use Rattle.std.specs.Prelude.{ℕ, zero, suc, ◌+◌, ◌-◌, Bool, true, false, ◌&&◌, List, [], ◌++◌, ltb, leb, length}
use Rattle.std.proofs.lemmas.List.Edits.{sets}
use Rattle.reader.specs.Reader.{read_at}
use Rattle.tablefile.specs.declared.Record.{Record}
use Rattle.tablefile.specs.declared.Reading.{Reading}
use Rattle.tablefile.specs.declared.Reading.TheVariants.{Found, NothingLeft, Refused}
use Rattle.bridge.specs.History.{after_call}
use Rattle.bridge.specs.declared.Bridge.{Bridge}
use Rattle.listing_text.specs.Places.{line_room, most_lines}
use Rattle.listing_part.specs.Records.{call_of, record_line}
use Rattle.listing_part.specs.declared.Listed.{Listed}

-- the tables and the count of lines after the records that have their lines, the place after those records and what the reader gives there, and the lines
pub record Part : Type 0 where
  pub bridge : Bridge
  pub count : ℕ
  pub place : ℕ
  pub reading : Reading
  pub text : List ℕ

-- a line more in front
unfoldable pub onto : List ℕ → Part → Part
onto line x = record { bridge = x.bridge; count = x.count; place = x.place; reading = x.reading; text = line ++ x.text }

-- a longest line has room, and its number fits
unfoldable pub may_go_on : ℕ → ℕ → Bool
may_go_on n room = leb line_room room && ltb n most_lines

-- by what the reader gives: with a record it goes on, where it may; else it stops
unfoldable pub going_on : Reading → Bool → Part → (Record → ℕ → Part) → Part
going_on (Found r next) true stop go = go r next
going_on (Found r next) false stop go = stop
going_on NothingLeft may stop go = stop
going_on (Refused why) may stop go = stop

unfoldable pub stops_at : List ℕ → Bridge → ℕ → ℕ → Part
stops_at bytes b n p = record { bridge = b; count = n; place = p; reading = read_at bytes p; text = [] }

-- from a place on, record after record, with at most so many records; part_of has enough of them
unfoldable pub part_for : ℕ → List ℕ → ℕ → Bridge → ℕ → ℕ → Part
part_for zero bytes room b n p = stops_at bytes b n p
part_for (suc more) bytes room b n p =
    going_on (read_at bytes p) (may_go_on n room) (stops_at bytes b n p)
    (λ r next. onto (record_line b n r) (part_for more bytes (room - length (record_line b n r)) (after_call b (call_of r)) (n + 1) next))

-- what is listed of a part of a file, where so many bytes are lent for its lines
unfoldable pub part_of : List ℕ → ℕ → Bridge → ℕ → Part
part_of bytes room b n = part_for (suc (length bytes)) bytes room b n 0

-- the call's answer, and the lent bytes after it
pub record ListedPart : Type 0 where
  pub listed : Listed
  pub out : List ℕ

unfoldable pub listed_of : Part → Listed
listed_of x = record { bridge = x.bridge; count = x.count; place = x.place; reading = x.reading; written = length x.text }

-- the lines stand at the front of the lent bytes; the others stay
unfoldable pub part_put : List ℕ → Part → ListedPart
part_put out x = record { listed = listed_of x; out = sets out 0 x.text }

unfoldable pub part_listed : List ℕ → Bridge → ℕ → List ℕ → ListedPart
part_listed bytes b n out = part_put out (part_of bytes (length out) b n)
