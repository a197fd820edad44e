-- Document 01, 'The interrupt side': a frame in one lent group's record and a lent run of stream records.
-- i is the lent group's id, g its record, ss the run, k a stream's id, s its record, n a frame's octets, A its arrival.
use Rattle.std.specs.Prelude.{ℕ, not, cond, List, eqb, length, get_or, set}
use Rattle.records.specs.declared.Answer.{Answer}
use Rattle.quantity.specs.Ranges.{in_range}
use Rattle.quantity.specs.declared.Item.TheVariants.{StreamId}
use Rattle.quantity.specs.declared.Refusal.{Refusal}
use Rattle.quantity.specs.declared.Refusal.TheVariants.{Unsound, NoStream}
use Rattle.records.specs.Numbers.{is_set_up}
use Rattle.shaper.specs.Numbers.{judged, refused}
use Rattle.records.specs.declared.Group.{Group}
use Rattle.records.specs.declared.Stream.{Stream}
use Rattle.records.specs.Judged.{Judged}
use Rattle.records.specs.declared.Answer.TheVariants.{Refused}
use Rattle.bridge.specs.Tables.{no_stream}

-- the stream table is lent as a run of 64 stream records
abbrev pub run_places : ℕ
run_places = 64

-- a stream that is not set up gets 10, and one of another group 9, before anything of the group's record is looked at;
-- an id above 15 is no group's, so a stream that has it is unsound
unfoldable pub judged_in : ℕ → Stream → Group → ℕ → ℕ → Judged
judged_in i s g n A =
    cond (not (is_set_up s.regulator)) (refused s g NoStream)
    (cond (not (eqb s.group i)) (refused s g Unsound)
    (judged s g n A))

-- the answer, and the lent records after it
pub record Received : Type 0 where
  pub answer : Answer
  pub group : Group
  pub streams : List Stream

-- refused: the lent records stay
abbrev pub stays : Group → List Stream → Refusal → Received
stays g ss why = record { answer = Refused why; group = g; streams = ss }

-- the group's record after the frame stands where it stood, and of the run only the frame's own record changes; a refused frame leaves both
abbrev pub stored : List Stream → ℕ → Judged → Received
stored ss k j = record { answer = j.answer; group = j.group; streams = set ss k j.stream }

-- a frame of the stream k, of n octets, arriving at A: a run of another length gets 9, before 10 for a stream above 63
unfoldable pub received : ℕ → Group → List Stream → ℕ → ℕ → ℕ → Received
received i g ss k n A =
    cond (not (eqb (length ss) run_places)) (stays g ss Unsound)
    (cond (not (in_range StreamId k)) (stays g ss NoStream)
    (stored ss k (judged_in i (get_or ss k no_stream) g n A)))
