-- Document 01, 'Numbers returned': the calls on the tables. Only the id's own record changes, and of a frame its group's too.
-- b is the bridge, i the id, c a class, M a residence limit, k a stream's group, r its rate, u its burst, n a frame's octets, A its arrival.
use Rattle.std.specs.Prelude.{ℕ}
use Rattle.records.specs.Judged.{Judged}
use Rattle.calls.specs.Calls.{group_placed, stream_placed, judged_at}
use Rattle.calls.specs.declared.Placed.{Placed}
use Rattle.std.specs.declared.result.Result.{Result}
use Rattle.quantity.specs.declared.Refusal.{Refusal}
use Rattle.records.specs.declared.Answer.{Answer}
use Rattle.records.specs.declared.Group.{Group}
use Rattle.records.specs.declared.Stream.{Stream}
use Rattle.bridge.specs.Tables.{group_at, stream_at, with_group, with_stream}
use Rattle.bridge.specs.declared.Bridge.{Bridge}
use Rattle.bridge.specs.declared.Called.{Called}

-- what a set-up answers, and what a frame does, with the tables after it
abbrev pub BridgeSetUp : Type 0
BridgeSetUp = Called (Result (Unit {0}) Refusal)

abbrev pub Framed : Type 0
Framed = Called Answer

unfoldable pub group_stored : Bridge → ℕ → Placed Group → BridgeSetUp
group_stored b i p = record { answer = p.answer; bridge = with_group b i p.after }

unfoldable pub group_called : Bridge → ℕ → ℕ → ℕ → BridgeSetUp
group_called b i c M = group_stored b i (group_placed i (group_at b i) c M)

unfoldable pub stream_stored : Bridge → ℕ → Placed Stream → BridgeSetUp
stream_stored b i p = record { answer = p.answer; bridge = with_stream b i p.after }

unfoldable pub stream_called : Bridge → ℕ → ℕ → ℕ → ℕ → BridgeSetUp
stream_called b i k r u = stream_stored b i (stream_placed i (stream_at b i) k (group_at b k) r u)

unfoldable pub frame_stored : Bridge → ℕ → ℕ → Judged → Framed
frame_stored b i k j = record { answer = j.answer; bridge = with_group (with_stream b i j.stream) k j.group }

unfoldable pub frame_called : Bridge → ℕ → ℕ → ℕ → Framed
frame_called b i n A = frame_stored b i (stream_at b i).group (judged_at i (stream_at b i) (group_at b (stream_at b i).group) n A)
