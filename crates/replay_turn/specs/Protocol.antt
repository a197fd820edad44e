-- Where the program stands in its reading: which turn it may make, and what lies open to it after one.
-- Each statement has a name here, and its proof under the same name in the file Protocol of proofs/. x is where the reading stands; n is the number of a turn.
use Rattle.std.specs.Prelude.{ℕ, suc, ◌≤◌, ◌≡◌, List, Result, length, take}
use Rattle.tablefile.specs.BigEndian.{AreBytes}
use Rattle.intake.specs.Holding.{Within, held_in, came_in}
use Rattle.intake.specs.Sessions.{MayTurn, MayRead, HasEnded}
use Rattle.intake.specs.declared.Held.{Held}
use Rattle.intake.specs.declared.Unread.{Unread}
use Rattle.intake.specs.declared.Next.{Next}
use Rattle.intake.specs.declared.Next.TheVariants.{GoesOn, Reads, Ends}
use Rattle.replay_text.specs.Lines.{line_room}
use Rattle.replay_turn.specs.Gathered.{gathered_from}
use Rattle.replay_turn.specs.Turns.{Reached, read_turn, final_of, begun_reading, reached_by, turn_made}
use Rattle.replay_turn.specs.declared.Standing.{Standing}

-- three lists of so many places each
pub record Places (places : ℕ) (arrivals ids octets : List ℕ) : Type 0 where
  pub for_arrivals : length arrivals ≡ places
  pub for_ids : length ids ≡ places
  pub for_octets : length octets ≡ places

-- the reading began on three lists of so many places, whatever stood in them
pub record Began (places : ℕ) : Type 0 where
  pub arrivals : List ℕ
  pub ids : List ℕ
  pub octets : List ℕ
  pub long : Places places arrivals ids octets

unfoldable pub from : {places : ℕ} → Began places → Reached
from b = reached_by begun_reading b.arrivals b.ids b.octets

-- the program may make its turn of this number
pub record MayGather (places n : ℕ) (x : Standing) (input arrivals ids octets : List ℕ) : Type 0 where
  pub began : Began places
  pub may : MayTurn read_turn (from began) n (reached_by x arrivals ids octets) (held_in x.held input) x.held.told

-- it may read after that turn
pub record MayReadOn (places n : ℕ) (x : Standing) (input arrivals ids octets : List ℕ) : Type 0 where
  pub began : Began places
  pub may : MayRead read_turn (from began) n (reached_by x arrivals ids octets) (held_in x.held input)

-- and the reading has ended
pub record HasGathered (places : ℕ) (x : Standing) (arrivals ids octets : List ℕ) : Type 0 where
  pub began : Began places
  pub turn : ℕ
  pub ended : HasEnded read_turn (from began) turn (reached_by x arrivals ids octets)

-- what lies open to it after a turn that said what comes next
pub record Open (places n : ℕ) (next : Next) (x : Standing) (input arrivals ids octets : List ℕ) : Type 0 where
  pub goes : next ≡ GoesOn → MayGather places (suc n) x input arrivals ids octets
  pub reads : next ≡ Reads → MayReadOn places n x input arrivals ids octets
  pub ends : next ≡ Ends → HasGathered places x arrivals ids octets

-- it may begin
abbrev pub BeginStands : Type 0
BeginStands = (places : ℕ) (input arrivals ids octets : List ℕ) → Places places arrivals ids octets → MayGather places 0 begun_reading input arrivals ids octets

-- a turn lets it make the next, read or end, by what it says comes next
abbrev pub TurnStands : Type 0
TurnStands =
    (places n : ℕ) (x : Standing) (input notes arrivals ids octets : List ℕ) → Within x.held (length input) → line_room ≤ length notes
    → MayGather places n x input arrivals ids octets
    → let m = turn_made x input notes arrivals ids octets in
    Open places n m.turned.next m.turned.standing m.input m.arrivals m.ids m.octets

-- the same, with other bytes held
unfoldable pub with_held : Standing → Held → Standing
with_held x h = record { bridge = x.bridge; records = x.records; bytes = x.bytes; count = x.count; whole = x.whole; held = h }

-- and a reading behind what is held that left it as it was lets it make the next turn
abbrev pub ReadingStands : Type 0
ReadingStands =
    (places n : ℕ) (x : Standing) (input arrivals ids octets : List ℕ) → Within x.held (length input) → MayReadOn places n x input arrivals ids octets
    → (got : Result ℕ Unread) (after : List ℕ) → take x.held.filled after ≡ take x.held.filled input
    → MayGather places (suc n) (with_held x (came_in x.held got (length input))) after arrivals ids octets

-- what stands in the tables and lists where it has ended is what the bytes that were read give as a whole
abbrev pub GatheredIsTheFile : Type 0
GatheredIsTheFile =
    (places : ℕ) (x : Standing) (arrivals ids octets : List ℕ) (h : HasGathered places x arrivals ids octets) → AreBytes h.ended.turned.read
    → (gathered_from places h.ended.turned.read).final ≡ final_of (reached_by x arrivals ids octets)
