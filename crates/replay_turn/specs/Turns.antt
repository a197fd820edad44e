-- Document 01, 'The table file', for a replay of a file that comes in parts: one turn of its reading, over what is held of the file. No sentence of the document stands here.
-- s is where the reading stands, c the same as the call has it, h what is held, g what a gathering gave, x what comes next, t a turn; n is a count of records or of bytes, offset one of bytes.
use Rattle.std.specs.Prelude.{ℕ, ◌+◌, ◌-◌, min, Bool, true, false, cond, ◌&&◌, List, [], Option, None, Some, ltb, leb, eqb, length, take}
use Rattle.std.proofs.lemmas.List.Edits.{sets}
use Rattle.quantity.specs.Numbers.{number_of}
use Rattle.quantity.specs.declared.Refusal.TheVariants.{CutShort}
use Rattle.bridge.specs.Tables.{fresh_bridge}
use Rattle.bridge.specs.declared.Bridge.{Bridge}
use Rattle.text.specs.Numeral.{most}
use Rattle.intake.specs.Holding.{nothing_held, is_within, held_in, Kept, kept_for}
use Rattle.intake.specs.Sessions.{Turn}
use Rattle.intake.specs.declared.Held.{Held}
use Rattle.intake.specs.declared.Told.{Told}
use Rattle.intake.specs.declared.Told.TheVariants.{More, Ended, Failed}
use Rattle.intake.specs.declared.Turned.{Turned}
use Rattle.intake.specs.declared.Next.{Next}
use Rattle.intake.specs.declared.Next.TheVariants as next
use Rattle.replay_gathering.specs.Gathering.{Outcome, gather_from, begun}
use Rattle.replay_gathering.specs.declared.End.{End}
use Rattle.replay_gathering.specs.declared.End.TheVariants as end
use Rattle.replay_text.specs.Lines.{line_room}
use Rattle.replay_text.specs.Notes.{note_text}
use Rattle.replay_text.specs.declared.Note.{Note}
use Rattle.replay_text.specs.declared.Note.TheVariants as note
use Rattle.replay_turn.specs.declared.Standing.{Standing}
use Rattle.replay_turn.specs.Gathered.{Yard, Final}

-- ---- what comes next

-- at the edge of what is held: more is to be read, or there is no more, or it cannot be read
unfoldable pub at_edge : Told → Next
at_edge More = next.Reads
at_edge Ended = next.Ends
at_edge Failed = next.Fails

-- by why the gathering ended: a record that is cut short may go on in what follows, another that cannot be read ends the reading, and so does a frame that has no place; after a set-up that was refused it goes on
unfoldable pub next_of : End → Told → Next
next_of end.NothingLeft told = at_edge told
next_of (end.Unreadable why) told = cond (eqb (number_of why) (number_of CutShort)) (at_edge told) next.Ends
next_of (end.NotSetUp why) told = next.GoesOn
next_of end.ListsFull told = next.Ends

-- ---- what is said of it

-- where the reading ends, the record that cannot be read: the one after n records, at an offset
unfoldable pub unread_note : Next → ℕ → ℕ → ℕ → Option Note
unread_note next.GoesOn n offset number = None
unread_note next.Reads n offset number = None
unread_note next.Ends n offset number = Some (note.Unreadable (n + 1) offset number)
unread_note next.Fails n offset number = None

-- the set-up that was refused is the last of the n records
unfoldable pub note_of : End → Next → ℕ → ℕ → Option Note
note_of end.NothingLeft x n offset = None
note_of (end.Unreadable why) x n offset = unread_note x n offset (number_of why)
note_of (end.NotSetUp why) x n offset = Some (note.NotSetUp n (number_of why))
note_of end.ListsFull x n offset = Some note.TooManyFrames

-- ---- whether the whole file was taken

unfoldable pub is_end : Next → Bool
is_end next.GoesOn = false
is_end next.Reads = false
is_end next.Ends = true
is_end next.Fails = false

-- it ended after a whole record
unfoldable pub whole_by : End → Next → Bool
whole_by end.NothingLeft x = is_end x
whole_by (end.Unreadable why) x = false
whole_by (end.NotSetUp why) x = false
whole_by end.ListsFull x = false

-- ---- a turn over lists

-- the tables, the records and their bytes so far, how many places of the lists are taken, whether the file was taken as a whole, and the three lent lists
pub record Reached : Type 0 where
  pub bridge : Bridge
  pub records : ℕ
  pub bytes : ℕ
  pub count : ℕ
  pub whole : Bool
  pub arrivals : List ℕ
  pub ids : List ℕ
  pub octets : List ℕ

-- so many bytes more can be counted, and a record after those that they may hold
unfoldable pub countable : ℕ → ℕ → ℕ → Bool
countable records bytes n = ltb (records + n) most && leb (bytes + n) most

-- the gathering of what is held
unfoldable pub gathering : Reached → List ℕ → Outcome
gathering s held = gather_from held (begun s.bridge s.arrivals s.ids s.octets s.count)

unfoldable pub reached_after : Reached → Outcome → Next → Reached
reached_after s g x = record {
  bridge = g.gathered.bridge;
  records = s.records + g.gathered.records;
  bytes = s.bytes + g.gathered.at;
  count = g.gathered.count;
  whole = whole_by g.gathered.why x;
  arrivals = g.arrivals;
  ids = g.ids;
  octets = g.octets;
}

unfoldable pub turn_of : Reached → Outcome → Next → Turn Reached
turn_of s g x = record {
  text = note_text (note_of g.gathered.why x (s.records + g.gathered.records) (s.bytes + g.gathered.at));
  state = reached_after s g x;
  used = g.gathered.at;
  next = x;
}

-- it cannot be done
unfoldable pub stuck : Reached → Turn Reached
stuck s = record { text = []; state = s; used = 0; next = next.Fails }

unfoldable pub read_turn : Reached → List ℕ → Told → Turn Reached
read_turn s held told =
    cond (countable s.records s.bytes (length held)) (turn_of s (gathering s held) (next_of (gathering s held).gathered.why told)) (stuck s)

-- ---- what it means

-- a frame has a place where each of the three lists has one
unfoldable pub places_in : Reached → ℕ
places_in s = min (length s.arrivals) (min (length s.ids) (length s.octets))

-- what was gathered: the places that are taken
unfoldable pub yard_of : Reached → Yard
yard_of s = record { bridge = s.bridge; arrivals = take s.count s.arrivals; ids = take s.count s.ids; octets = take s.count s.octets }

unfoldable pub final_of : Reached → Final
final_of s = record { whole = s.whole; yard = yard_of s }

-- ---- and over lent buffers

unfoldable pub begun_reading : Standing
begun_reading = record { bridge = fresh_bridge; records = 0; bytes = 0; count = 0; whole = false; held = nothing_held }

unfoldable pub reached_by : Standing → List ℕ → List ℕ → List ℕ → Reached
reached_by c arrivals ids octets = record {
  bridge = c.bridge;
  records = c.records;
  bytes = c.bytes;
  count = c.count;
  whole = c.whole;
  arrivals = arrivals;
  ids = ids;
  octets = octets;
}

-- what is held after a turn that used so many bytes of it
unfoldable pub left_held : Held → ℕ → Held
left_held h used = record { place = h.place + used; filled = h.filled; told = h.told }

-- the call's answer, and the buffers and the lists after it
pub record Made : Type 0 where
  pub turned : Turned Standing
  pub input : List ℕ
  pub notes : List ℕ
  pub arrivals : List ℕ
  pub ids : List ℕ
  pub octets : List ℕ

-- the turn's text stands at the front of the notes
unfoldable pub made_of : Turn Reached → Kept → List ℕ → Made
made_of t k notes = record {
  turned = record {
    standing = record { bridge = t.state.bridge; records = t.state.records; bytes = t.state.bytes; count = t.state.count; whole = t.state.whole; held = k.held };
    written = length t.text;
    next = t.next;
  };
  input = k.bytes;
  notes = sets notes 0 t.text;
  arrivals = t.state.arrivals;
  ids = t.state.ids;
  octets = t.state.octets;
}

-- a turn, and what is left of what was held brought to the front where a reading comes next
unfoldable pub made_by : Turn Reached → Held → List ℕ → List ℕ → Made
made_by t h input notes = made_of t (kept_for t.next (left_held h t.used) input) notes

-- what is held is in the buffer, and a longest line has room for the notes
unfoldable pub buffers_fit : Held → ℕ → ℕ → Bool
buffers_fit h size room = is_within h size && leb line_room room

-- and all of it can be counted
abbrev pub is_ready : Held → ℕ → ℕ → ℕ → ℕ → Bool
is_ready h records bytes size room = buffers_fit h size room && countable records bytes (h.filled - h.place)

-- where it does not fit, nothing changes
unfoldable pub turn_made : Standing → List ℕ → List ℕ → List ℕ → List ℕ → List ℕ → Made
turn_made c input notes arrivals ids octets =
    cond (buffers_fit c.held (length input) (length notes))
    (made_by (read_turn (reached_by c arrivals ids octets) (held_in c.held input) c.held.told) c.held input notes)
    (record { turned = record { standing = c; written = 0; next = next.Fails }; input = input; notes = notes; arrivals = arrivals; ids = ids; octets = octets })
