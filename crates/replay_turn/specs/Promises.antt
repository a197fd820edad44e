-- What is promised of the reading of a table file for a replay: turn by turn, however the readings cut it, it gathers what the whole file gives.
-- Each statement has a name here, and its proof under the same name in the file Promises of proofs/. s is where the reading stands, c the same as the call has it, m what the call leaves, t a turn; S is a session.
use Rattle.std.specs.Prelude.{ℕ, ◌+◌, ◌≤◌, ◌<◌, ◌≡◌, List, ◌++◌, length, take, drop}
use Rattle.text.specs.Numeral.{most}
use Rattle.tablefile.specs.BigEndian.{AreBytes}
use Rattle.tablefile.specs.Layout.{ST, size}
use Rattle.intake.specs.Holding.{Within, held_in}
use Rattle.intake.specs.Sessions.{Input, bytes_of, readings, EndsWell, Turn, Outcome, session_of}
use Rattle.intake.specs.Promises.{Given, following, Right, Moves}
use Rattle.intake.specs.declared.Told.{Told}
use Rattle.intake.specs.declared.Next.TheVariants.{Reads, Ends}
use Rattle.replay_text.specs.Lines.{line_room}
use Rattle.replay_turn.specs.Gathered.{Final, gathered_on, gathered_from}
use Rattle.replay_turn.specs.Turns.{Reached, read_turn, places_in, yard_of, final_of, begun_reading, reached_by, Made, turn_made}
use Rattle.replay_turn.specs.declared.Standing.{Standing}

-- ---- what is gathered

-- what the bytes that are left give, from where a reading stands
unfoldable pub reading_on : Reached → List ℕ → Given Final
reading_on s bytes = gathered_on (places_in s) (yard_of s) s.records s.bytes bytes

-- each turn is right
abbrev pub TurnIsRight : Type 0
TurnIsRight = Right read_turn final_of reading_on

-- with so many bytes still to be used, all of them can be counted, and a record after those that they may hold
abbrev pub Stands : Reached → ℕ → Type 0
Stands s n = (s.records + n + 1 ≤ most) × (s.bytes + n ≤ most)

-- and moves on
abbrev pub TurnMoves : Type 0
TurnMoves = Moves read_turn Stands (λ s. 0)

-- a session of at most so many turns from the start, with three lent lists
unfoldable pub reading_session : ℕ → List ℕ → List ℕ → List ℕ → Input → Outcome Reached
reading_session turns arrivals ids octets input = session_of read_turn turns (reached_by begun_reading arrivals ids octets) input

-- with lists of so many places, a session of enough turns over readings of which none fails is ended by one of them, and then it has gathered and said what the whole file gives, however the readings cut it
abbrev pub GatheredFromAllReadings : Type 0
GatheredFromAllReadings =
    (places turns : ℕ) (arrivals ids octets : List ℕ) (input : Input)
    → length arrivals ≡ places → length ids ≡ places → length octets ≡ places
    → AreBytes (bytes_of input) → EndsWell input → length (bytes_of input) < most
    → length (bytes_of input) + readings input + 1 < turns
    → let S = reading_session turns arrivals ids octets input in
    (S.close ≡ Ends)
    × (gathered_from places (bytes_of input) ≡ record { text = S.text; final = final_of S.state })

-- one that was not ended, as where a reading failed, has said how it begins: the rest is what its state gives for the bytes that it held, those not read yet and whatever could have followed
abbrev pub GatheredSoFar : Type 0
GatheredSoFar =
    (places turns : ℕ) (arrivals ids octets : List ℕ) (input : Input)
    → length arrivals ≡ places → length ids ≡ places → length octets ≡ places
    → AreBytes (bytes_of input) → (after : List ℕ)
    → let S = reading_session turns arrivals ids octets input in
    (S.close ≡ Ends → ⊥)
    → gathered_from places (bytes_of input ++ after) ≡ following S.text (reading_on S.state (S.held ++ (bytes_of S.left ++ after)))

-- ---- over lent buffers

-- what a turn leaves is within the buffers and the lists, which stay as long as they were
pub record StaysWithin (c : Standing) (input notes arrivals ids octets : List ℕ) (m : Made) : Type 0 where
  pub held : Within m.turned.standing.held (length m.input)
  pub written : m.turned.written ≤ length m.notes
  pub input_long : length m.input ≡ length input
  pub notes_long : length m.notes ≡ length notes
  pub arrivals_long : length m.arrivals ≡ length arrivals
  pub ids_long : length m.ids ≡ length ids
  pub octets_long : length m.octets ≡ length octets
  pub arrivals_taken : c.count ≤ length arrivals → m.turned.standing.count ≤ length arrivals
  pub ids_taken : c.count ≤ length ids → m.turned.standing.count ≤ length ids
  pub octets_taken : c.count ≤ length octets → m.turned.standing.count ≤ length octets

abbrev pub TurnWithin : Type 0
TurnWithin =
    (c : Standing) (input notes arrivals ids octets : List ℕ) → Within c.held (length input)
    → StaysWithin c input notes arrivals ids octets (turn_made c input notes arrivals ids octets)

-- the turn that a call makes of what is held
unfoldable pub turn_by : Standing → List ℕ → List ℕ → List ℕ → List ℕ → Turn Reached
turn_by c input arrivals ids octets = read_turn (reached_by c arrivals ids octets) (held_in c.held input) c.held.told

-- what is held after a turn is what it left of what was held
abbrev pub TurnLeaves : Type 0
TurnLeaves =
    (c : Standing) (input notes arrivals ids octets : List ℕ) → Within c.held (length input) → line_room ≤ length notes
    → let m = turn_made c input notes arrivals ids octets in
    held_in m.turned.standing.held m.input ≡ drop (turn_by c input arrivals ids octets).used (held_in c.held input)

-- and where it stands, what comes next and what is to be written are the turn's
pub record IsTheTurn (t : Turn Reached) (m : Made) : Type 0 where
  pub state : reached_by m.turned.standing m.arrivals m.ids m.octets ≡ t.state
  pub next : m.turned.next ≡ t.next
  pub text : take m.turned.written m.notes ≡ t.text

abbrev pub TurnIsMade : Type 0
TurnIsMade =
    (c : Standing) (input notes arrivals ids octets : List ℕ) → Within c.held (length input) → line_room ≤ length notes
    → IsTheTurn (turn_by c input arrivals ids octets) (turn_made c input notes arrivals ids octets)

-- ---- room for a reading

-- where a turn asks for more, it keeps less than the longest record
abbrev pub FewAreKept : Type 0
FewAreKept = (s : Reached) (held : List ℕ) (said : Told) → (read_turn s held said).next ≡ Reads → length (drop (read_turn s held said).used held) < size ST

-- so there is room for a reading behind them, in a buffer of as many bytes
abbrev pub RoomToRead : Type 0
RoomToRead =
    (c : Standing) (input notes arrivals ids octets : List ℕ) → Within c.held (length input) → size ST ≤ length input
    → let m = turn_made c input notes arrivals ids octets in
    m.turned.next ≡ Reads
    → m.turned.standing.held.filled < length m.input
