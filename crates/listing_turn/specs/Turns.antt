-- Document 01, 'The table file', for a listing of a file that comes in parts: one turn, over what is held of the file.
-- b is the bridge, n a count of lines, at the bytes of the lines so far, size those of the output buffer.
use Rattle.std.specs.Prelude.{ℕ, ◌+◌, ◌%◌, ◌^◌, cond, List, [], ◌++◌, length, ◌==◌, nat_lt}
use Rattle.std.proofs.lemmas.List.Edits.{sets}
use Rattle.quantity.specs.Numbers.{number_of}
use Rattle.quantity.specs.declared.Refusal.TheVariants.{CutShort}
use Rattle.tablefile.specs.Answers.{reading_number}
use Rattle.tablefile.specs.declared.Reading.{Reading}
use Rattle.tablefile.specs.declared.Reading.TheVariants.{Found, NothingLeft, Refused}
use Rattle.bridge.specs.Tables.{fresh_bridge}
use Rattle.bridge.specs.declared.Bridge.{Bridge}
use Rattle.text.specs.Places.{Placed}
use Rattle.listing_text.specs.Lines.{ending}
use Rattle.listing_text.specs.Places.{most_lines, may_end, end_put}
use Rattle.listing_part.specs.Parts.{Part, part_of}
use Rattle.intake.specs.Holding.{nothing_held, is_within, held_in, Kept, kept_for}
use Rattle.intake.specs.Sessions.{Turn}
use Rattle.intake.specs.declared.Held.{Held}
use Rattle.intake.specs.declared.Told.{Told}
use Rattle.intake.specs.declared.Told.TheVariants.{More, Ended, Failed}
use Rattle.intake.specs.declared.Turned.{Turned}
use Rattle.intake.specs.declared.Next.{Next}
use Rattle.intake.specs.declared.Next.TheVariants.{GoesOn, Reads, Ends, Fails}
use Rattle.listing_turn.specs.declared.Standing.{Standing}

-- ---- what comes next

-- not at the end: a turn more, while a line more can be counted
unfoldable pub unended : ℕ → Next
unended n = cond (nat_lt n most_lines) GoesOn Fails

-- at the end: it is put where it has room, or else by a turn more
unfoldable pub closing : ℕ → ℕ → ℕ → Next
closing n at size = cond (may_end n at size) Ends (unended n)

-- at the edge of what is held: more is to be read, or there is no more, or it cannot be read
unfoldable pub at_edge : Told → ℕ → ℕ → ℕ → Next
at_edge More n at size = Reads
at_edge Ended n at size = closing n at size
at_edge Failed n at size = Fails

-- by what the reader gives where the lines stop: a record that is cut short may go on in what follows, and another refusal ends the listing
unfoldable pub next_of : Reading → Told → ℕ → ℕ → ℕ → Next
next_of (Found r next) told n at size = unended n
next_of NothingLeft told n at size = at_edge told n at size
next_of (Refused why) told n at size = cond (number_of why == number_of CutShort) (at_edge told n at size) (closing n at size)

-- ---- a turn over lists

-- the tables, the lines so far, and the bytes of their records modulo 2^64
pub record Reached : Type 0 where
  pub bridge : Bridge
  pub count : ℕ
  pub bytes : ℕ

unfoldable pub start : Reached
start = record { bridge = fresh_bridge; count = 0; bytes = 0 }

-- the end's text, where it ends
unfoldable pub end_if : Next → ℕ → Reading → List ℕ
end_if Ends n x = ending n (reading_number x)
end_if GoesOn n x = []
end_if Reads n x = []
end_if Fails n x = []

unfoldable pub turn_of : Part → Reached → Next → Turn Reached
turn_of P s next = record {
  text = P.text ++ end_if next P.count P.reading;
  state = record { bridge = P.bridge; count = P.count; bytes = (s.bytes + P.place) % 2 ^ 64 };
  used = P.place;
  next = next;
}

-- the lines of the records that are held, as far as there is room, and the end's
unfoldable pub list_turn : ℕ → Reached → List ℕ → Told → Turn Reached
list_turn size s held told =
    turn_of (part_of held size s.bridge s.count) s
    (next_of (part_of held size s.bridge s.count).reading told (part_of held size s.bridge s.count).count (length (part_of held size s.bridge s.count).text) size)

-- ---- and over lent buffers

-- what ends the listing, put at a place of the lent bytes l where it ends; else nothing changes
unfoldable pub end_put_if : Next → List ℕ → ℕ → ℕ → Reading → Placed
end_put_if GoesOn l at n x = record { next = at; bytes = l }
end_put_if Reads l at n x = record { next = at; bytes = l }
end_put_if Ends l at n x = end_put l at n x
end_put_if Fails l at n x = record { next = at; bytes = l }

unfoldable pub begun_listing : Standing
begun_listing = record { bridge = fresh_bridge; count = 0; bytes = 0; held = nothing_held }

unfoldable pub reached_by : Standing → Reached
reached_by x = record { bridge = x.bridge; count = x.count; bytes = x.bytes }

-- what is held after a turn that used so many bytes of it
unfoldable pub left_held : Held → ℕ → Held
left_held h used = record { place = h.place + used; filled = h.filled; told = h.told }

-- the call's answer, and both buffers after it
pub record Made : Type 0 where
  pub turned : Turned Standing
  pub input : List ℕ
  pub output : List ℕ

-- the turn's text stands at the front of the output buffer
unfoldable pub made_of : Turn Reached → Kept → List ℕ → Made
made_of t k output = record {
  turned = record {
    standing = record { bridge = t.state.bridge; count = t.state.count; bytes = t.state.bytes; held = k.held };
    written = length t.text;
    next = t.next;
  };
  input = k.bytes;
  output = sets output 0 t.text;
}

unfoldable pub held_listed : Standing → List ℕ → List ℕ → Made
held_listed x input output =
    made_of (list_turn (length output) (reached_by x) (held_in x.held input) x.held.told)
    (kept_for (list_turn (length output) (reached_by x) (held_in x.held input) x.held.told).next
    (left_held x.held (list_turn (length output) (reached_by x) (held_in x.held input) x.held.told).used) input)
    output

-- what is said to be held is not in the buffer: nothing can be listed, and nothing changes
unfoldable pub nothing_listed : Standing → List ℕ → List ℕ → Made
nothing_listed x input output = record { turned = record { standing = x; written = 0; next = Fails }; input = input; output = output }

unfoldable pub turn_made : Standing → List ℕ → List ℕ → Made
turn_made x input output = cond (is_within x.held (length input)) (held_listed x input output) (nothing_listed x input output)

-- the same, with other bytes held
unfoldable pub with_held : Standing → Held → Standing
with_held x h = record { bridge = x.bridge; count = x.count; bytes = x.bytes; held = h }
