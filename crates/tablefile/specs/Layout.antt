-- Document 01, 'The table file': the marks, the fields that follow each mark, and the bytes of a record.
-- A kind of record is named by the letters of its mark; a field is a number and the width of its place in bytes.
use Rattle.std.specs.Prelude.{ℕ, ◌+◌, ◌^◌, ◌<◌, List, [], ◌∷◌, ◌++◌, get_or, take, drop}
use Rattle.quantity.specs.Kinds.{ticks, per_second}
use Rattle.tablefile.specs.declared.Record.{Record}
use Rattle.tablefile.specs.declared.Record.TheVariants.{Group, GroupDefault, Stream, Frame}
use Rattle.tablefile.specs.BigEndian.{byte_values, big_endian, number}

-- the kinds of record
pub data Kind : Type 0 where
  GR GD ST FR : Kind

-- all of them
unfoldable pub kinds : List Kind
kinds = GR ∷ GD ∷ ST ∷ FR ∷ []

-- two mark bytes stand before each record
abbrev pub mark_width : ℕ
mark_width = 2

-- the marks
abbrev pub mark : Kind → List ℕ
mark GR = 0x47 ∷ 0x52 ∷ []
mark GD = 0x47 ∷ 0x44 ∷ []
mark ST = 0x53 ∷ 0x54 ∷ []
mark FR = 0x46 ∷ 0x52 ∷ []

-- then its fields, in the order of the table, each so many bytes wide
abbrev pub widths : Kind → List ℕ
widths GR = 1 ∷ 1 ∷ 8 ∷ []
widths GD = 1 ∷ 1 ∷ []
widths ST = 1 ∷ 1 ∷ 8 ∷ 4 ∷ []
widths FR = 1 ∷ 2 ∷ 8 ∷ []

-- the kind of a record
abbrev pub kind_of : Record → Kind
kind_of (Group group class residence) = GR
kind_of (GroupDefault group class) = GD
kind_of (Stream stream group rate burst) = ST
kind_of (Frame stream octets arrival) = FR

-- the numbers in a record's fields, in the same order
abbrev pub numbers_of : Record → List ℕ
numbers_of (Group group class residence) = group ∷ class ∷ residence.0 ∷ []
numbers_of (GroupDefault group class) = group ∷ class ∷ []
numbers_of (Stream stream group rate burst) = stream ∷ group ∷ rate.0 ∷ burst ∷ []
numbers_of (Frame stream octets arrival) = stream ∷ octets ∷ arrival.0 ∷ []

-- the record of a kind with these numbers in its fields; the other way round
abbrev pub record_of : Kind → List ℕ → Record
record_of GR n = Group (get_or n 0 0) (get_or n 1 0) (ticks (get_or n 2 0))
record_of GD n = GroupDefault (get_or n 0 0) (get_or n 1 0)
record_of ST n = Stream (get_or n 0 0) (get_or n 1 0) (per_second (get_or n 2 0)) (get_or n 3 0)
record_of FR n = Frame (get_or n 0 0) (get_or n 1 0) (ticks (get_or n 2 0))

-- ---- the same for every kind

-- the bytes that fields of these widths take together
unfoldable pub total : List ℕ → ℕ
total [] = 0
total (w ∷ ws) = w + total ws

-- numbers written one after the other, each in its width
unfoldable pub field_bytes : List ℕ → List ℕ → List ℕ
field_bytes [] n = []
field_bytes (w ∷ ws) [] = []
field_bytes (w ∷ ws) (v ∷ vs) = big_endian w v ++ field_bytes ws vs

-- and read again from the front of what is left
unfoldable pub field_numbers : List ℕ → List ℕ → List ℕ
field_numbers [] left = []
field_numbers (w ∷ ws) left = number (take w left) ∷ field_numbers ws (drop w left)

-- each number fits its width
pub data Fit : List ℕ → List ℕ → Type 0 where
  no_field : Fit [] []
  and_field : {w v : ℕ} {ws vs : List ℕ} → v < byte_values ^ w → Fit ws vs → Fit (w ∷ ws) (v ∷ vs)

-- the bytes of a record: its mark, then its fields; nothing stands between
unfoldable pub bytes_of : Record → List ℕ
bytes_of r = mark (kind_of r) ++ field_bytes (widths (kind_of r)) (numbers_of r)

-- each field of a record fits its width, as it does in every record that a program can hold
abbrev pub Fits : Record → Type 0
Fits r = Fit (widths (kind_of r)) (numbers_of r)

-- how many bytes a record of a kind has
unfoldable pub size : Kind → ℕ
size k = mark_width + total (widths k)
