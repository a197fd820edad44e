-- Document 01, 'How tight each guarantee is': the history of calls on a bridge, and the judged frames in it.
-- b is a bridge, i a stream's or group's id, c a class, M a residence limit, k a stream's group, r a rate, u a burst, n a frame's octets, A its arrival.
use Rattle.std.specs.Prelude.{ℕ, List, [], ◌∷◌, ◌++◌}
use Rattle.quantity.specs.Charge.{charged}
use Rattle.records.specs.Numbers.{answer_number, answer_values}
use Rattle.records.specs.declared.Answer.{Answer}
use Rattle.records.specs.declared.Answer.TheVariants.{Released, Discarded, Refused}
use Rattle.bridge.specs.Tables.{stream_at, fresh_bridge}
use Rattle.bridge.specs.Calls.{group_called, stream_called, frame_called}
use Rattle.calls.specs.Numbers.{set_up_number}
use Rattle.bridge.specs.declared.Bridge.{Bridge}

-- ---- calls and their answers

-- set up a group, set up a stream, a frame
pub data Call : Type 0 where
  group : (i c M : ℕ) → Call
  stream : (i k r u : ℕ) → Call
  frame : (i n A : ℕ) → Call

-- an answer as document 01 numbers it: the number, and the values that come with it
pub record Reply : Type 0 where
  pub number : ℕ
  pub values : List ℕ

unfoldable pub reply : Bridge → Call → Reply
reply b (group i c M) = record { number = set_up_number (group_called b i c M).answer; values = [] }
reply b (stream i k r u) = record { number = set_up_number (stream_called b i k r u).answer; values = [] }
reply b (frame i n A) = record { number = answer_number (frame_called b i n A).answer; values = answer_values (frame_called b i n A).answer }

-- the bridge after a call
unfoldable pub after_call : Bridge → Call → Bridge
after_call b (group i c M) = (group_called b i c M).bridge
after_call b (stream i k r u) = (stream_called b i k r u).bridge
after_call b (frame i n A) = (frame_called b i n A).bridge

-- the bridge after one call after the other, and what they answer
unfoldable pub after : Bridge → List Call → Bridge
after b [] = b
after b (x ∷ xs) = after (after_call b x) xs

unfoldable pub replies : Bridge → List Call → List Reply
replies b [] = []
replies b (x ∷ xs) = reply b x ∷ replies (after_call b x) xs

-- ---- judged frames

-- a judged frame: its stream, that stream's group, its charged bits, its arrival and its eligibility time
pub record Frame : Type 0 where
  pub stream : ℕ
  pub group : ℕ
  pub bits : ℕ
  pub arrival : ℕ
  pub time : ℕ

-- what became of it
pub data Outcome : Type 0 where
  released discarded : Frame → Outcome

-- the frame itself
abbrev pub frame_of : Outcome → Frame
frame_of (released f) = f
frame_of (discarded f) = f

unfoldable pub outcome_of : ℕ → ℕ → ℕ → ℕ → Answer → List Outcome
outcome_of i k L A (Released T) = released (record { stream = i; group = k; bits = L; arrival = A; time = T.0 }) ∷ []
outcome_of i k L A (Discarded T) = discarded (record { stream = i; group = k; bits = L; arrival = A; time = T.0 }) ∷ []
outcome_of i k L A (Refused why) = []

-- the frame that a call judges, if it judges one
unfoldable pub outcome : Bridge → Call → List Outcome
outcome b (group i c M) = []
outcome b (stream i k r u) = []
outcome b (frame i n A) = outcome_of i (stream_at b i).group (charged n) A (frame_called b i n A).answer

-- the judged frames of a list of calls, in order
unfoldable pub outcomes : Bridge → List Call → List Outcome
outcomes b [] = []
outcomes b (x ∷ xs) = outcome b x ++ outcomes (after_call b x) xs

-- from a fresh start
abbrev pub history : List Call → List Outcome
history xs = outcomes fresh_bridge xs

abbrev pub bridge_after : List Call → Bridge
bridge_after xs = after fresh_bridge xs
