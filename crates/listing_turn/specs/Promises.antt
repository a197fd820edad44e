-- Document 01, 'The table file': what a session of turns of the listing writes.
-- Each statement has a name here, and its proof under the same name in the file Promises of proofs/.
use Prim.{Unit, tt}
use Rattle.std.specs.Prelude.{◌≡◌, ℕ, suc, ◌+◌, ◌<◌, ◌≤◌, List, ◌++◌, Result, length, take, drop, ◌≢◌}
use Rattle.tablefile.specs.BigEndian.{AreBytes}
use Rattle.tablefile.specs.Layout.{ST, size}
use Rattle.listing_text.specs.Places.{line_room, end_room, most_lines}
use Rattle.listing_part.specs.Listing.{listing, listing_from}
use Rattle.intake.specs.Holding.{Within, held_in, came_in}
use Rattle.intake.specs.Sessions.{Input, bytes_of, readings, EndsWell, Outcome, session_of, MayTurn, MayRead, HasEnded}
use Rattle.intake.specs.Promises.{Given, Right, Moves}
use Rattle.intake.specs.declared.Told.{Told}
use Rattle.intake.specs.declared.Unread.{Unread}
use Rattle.intake.specs.declared.Next.{Next}
use Rattle.intake.specs.declared.Next.TheVariants.{GoesOn, Reads, Ends}
use Rattle.listing_turn.specs.Turns.{Reached, start, list_turn, begun_listing, reached_by, with_held, turn_made}
use Rattle.listing_turn.specs.declared.Standing.{Standing}

-- a session of at most so many turns from a fresh start, with an output buffer of so many bytes
unfoldable pub listing_session : ℕ → ℕ → Input → Outcome Reached
listing_session room turns input = session_of (list_turn room) turns start input

-- ---- what is written

-- the listing of what is left, from where a listing stands; beside its text there is nothing to give
unfoldable pub listing_on : Reached → List ℕ → Given (Unit {0})
listing_on s bytes = record { text = listing_from s.bridge s.count bytes; final = tt }

unfoldable pub nothing_else : Reached → Unit {0}
nothing_else s = tt

-- each turn is right
abbrev pub TurnIsRight : Type 0
TurnIsRight = (room : ℕ) → Right (list_turn room) nothing_else listing_on

-- with an output buffer that has room for a longest line and a longest end line, and fewer bytes than lines can be counted, a session of enough turns over readings none of which fails comes to its end;
-- and it has written the listing of all bytes that the readings bring, however they cut them
abbrev pub ListingOfAllReadings : Type 0
ListingOfAllReadings =
    (room turns : ℕ) (input : Input) → AreBytes (bytes_of input) → EndsWell input
    → line_room + end_room ≤ room → length (bytes_of input) < most_lines → length (bytes_of input) + readings input + 1 < turns
    → ((listing_session room turns input).close ≡ Ends) × ((listing_session room turns input).text ≡ listing (bytes_of input))

-- whatever ended a session: what it has written where it says that all is done is the listing of all bytes
abbrev pub NoEndBeforeTheEnd : Type 0
NoEndBeforeTheEnd =
    (room turns : ℕ) (input : Input) → AreBytes (bytes_of input) → (listing_session room turns input).close ≡ Ends
    → (listing_session room turns input).text ≡ listing (bytes_of input)

-- one that was not ended, as where a reading failed, has written how the listing begins, whatever could have followed: the rest is the listing of what it held and what follows, from the tables and the count that it had reached
abbrev pub ListingSoFar : Type 0
ListingSoFar =
    (room turns : ℕ) (input : Input) → AreBytes (bytes_of input) → (after : List ℕ) → ((listing_session room turns input).close ≢ Ends)
    → listing (bytes_of input ++ after)
    ≡ (listing_session room turns input).text
    ++ listing_from (listing_session room turns input).state.bridge (listing_session room turns input).state.count
    ((listing_session room turns input).held ++ (bytes_of (listing_session room turns input).left ++ after))

-- ---- that it ends

-- how a listing may stand with so many bytes still to be listed: each of them could be a line
unfoldable pub MayCount : Reached → ℕ → Type 0
MayCount s n = s.count + n < most_lines

-- nothing is to be done beside the bytes
unfoldable pub no_work : Reached → ℕ
no_work s = 0

abbrev pub TurnMoves : Type 0
TurnMoves = (room : ℕ) → line_room + end_room ≤ room → Moves (list_turn room) MayCount no_work

-- what is kept where a turn asks for more is less than a longest record
abbrev pub KeptIsShort : Type 0
KeptIsShort =
    (room : ℕ) (s : Reached) (held : List ℕ) (said : Told) → (list_turn room s held said).next ≡ Reads
    → length (drop (list_turn room s held said).used held) < size ST

-- ---- the buffers

-- a turn stays within the buffers, which stay as long as they were
abbrev pub TurnWithin : Type 0
TurnWithin =
    (x : Standing) (input output : List ℕ) → Within x.held (length input)
    → Within (turn_made x input output).turned.standing.held (length (turn_made x input output).input)
    × ((turn_made x input output).turned.written ≤ length (turn_made x input output).output)
    × (length (turn_made x input output).input ≡ length input)
    × (length (turn_made x input output).output ≡ length output)

-- what is held after a turn is what it left of what was held
abbrev pub TurnLeaves : Type 0
TurnLeaves =
    (x : Standing) (input output : List ℕ) → Within x.held (length input)
    → held_in (turn_made x input output).turned.standing.held (turn_made x input output).input
    ≡ drop (list_turn (length output) (reached_by x) (held_in x.held input) x.held.told).used (held_in x.held input)

-- where it asks for more, there is room to read into: a reading of nothing is the end, then
abbrev pub TurnMakesRoom : Type 0
TurnMakesRoom =
    (x : Standing) (input output : List ℕ) → Within x.held (length input) → size ST ≤ length input
    → (turn_made x input output).turned.next ≡ Reads
    → (turn_made x input output).turned.standing.held.filled < length (turn_made x input output).input

-- ---- the program

-- the program may make its turn of this number, with an output buffer of so many bytes
unfoldable pub MayList : ℕ → ℕ → Standing → List ℕ → Type 0
MayList room n x input = MayTurn (list_turn room) start n (reached_by x) (held_in x.held input) x.held.told

-- and what lies open to it after a turn that said what comes next
pub record Listed (room n : ℕ) (next : Next) (x : Standing) (input : List ℕ) : Type 0 where
  pub goes : next ≡ GoesOn → MayList room (suc n) x input
  pub reads : next ≡ Reads → MayRead (list_turn room) start n (reached_by x) (held_in x.held input)
  pub ends : next ≡ Ends → HasEnded (list_turn room) start n (reached_by x)

-- it may begin
abbrev pub BeginStands : Type 0
BeginStands = (room : ℕ) (input : List ℕ) → MayList room 0 begun_listing input

-- a turn lets it make the next, read or end, by what it says comes next
abbrev pub TurnStands : Type 0
TurnStands =
    (x : Standing) (input output : List ℕ) (n : ℕ) → Within x.held (length input) → MayList (length output) n x input
    → Listed (length output) n (turn_made x input output).turned.next (turn_made x input output).turned.standing (turn_made x input output).input

-- and a reading behind what is held that left it as it was lets it make the next turn
abbrev pub ReadingStands : Type 0
ReadingStands =
    (room n : ℕ) (x : Standing) (input : List ℕ) → Within x.held (length input) → MayRead (list_turn room) start n (reached_by x) (held_in x.held input)
    → (got : Result ℕ Unread) (after : List ℕ) → take x.held.filled after ≡ take x.held.filled input
    → MayList room (suc n) (with_held x (came_in x.held got (length input))) after
