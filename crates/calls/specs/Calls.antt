-- Document 01, 'Numbers returned': the calls by id and the order of their refusals; group 15, 16, 21, 20; stream 15, 16, 17, 9, 18, 19; frame 10, 9, 11, 12, 13, 14.
-- i is the id, c a class, M a residence limit, k a stream's group, r its rate, u its burst, n a frame's octets, A its arrival.
use Rattle.std.specs.Prelude.{ℕ, not, cond, Ok, Err}
use Rattle.quantity.specs.Ranges.{in_range}
use Rattle.quantity.specs.declared.Item.TheVariants.{GroupId, StreamId}
use Rattle.quantity.specs.declared.Refusal.TheVariants.{IdRange, SetUpBefore, NoStream}
use Rattle.setup.specs.SetUp.{group_set_up, stream_set_up}
use Rattle.records.specs.Numbers.{is_set_up}
use Rattle.records.specs.declared.Group.{Group}
use Rattle.records.specs.declared.Stream.{Stream}
use Rattle.shaper.specs.Numbers.{judged, refused}
use Rattle.records.specs.Judged.{Judged}
use Rattle.calls.specs.declared.Placed.{Placed}
use Rattle.std.specs.declared.result.Result.{Result}
use Rattle.quantity.specs.declared.Refusal.{Refusal}

-- the record x at the id's place: what the record's set-up gives takes the place, a refusal leaves it
unfoldable pub taken : {R : Type 0} → R → Result R Refusal → Placed R
taken x (Ok new) = record { answer = Ok tt; after = new }
taken x (Err why) = record { answer = Err why; after = x }

-- a group's record g
unfoldable pub group_placed : ℕ → Group → ℕ → ℕ → Placed Group
group_placed i g c M =
    cond (not (in_range GroupId i)) (record { answer = Err IdRange; after = g })
    (cond g.used (record { answer = Err SetUpBefore; after = g })
    (taken g (group_set_up c M)))

-- a stream's record s, for the group k whose record is g
unfoldable pub stream_placed : ℕ → Stream → ℕ → Group → ℕ → ℕ → Placed Stream
stream_placed i s k g r u =
    cond (not (in_range StreamId i)) (record { answer = Err IdRange; after = s })
    (cond (is_set_up s.regulator) (record { answer = Err SetUpBefore; after = s })
    (taken s (stream_set_up k g r u)))

-- a frame of the stream i, whose record is s and whose group's record is g
unfoldable pub judged_at : ℕ → Stream → Group → ℕ → ℕ → Judged
judged_at i s g n A = cond (not (in_range StreamId i)) (refused s g NoStream) (judged s g n A)
