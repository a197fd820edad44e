-- Document 01, 'One frame through a scheduler': the answer and the records after a frame depend on the frame, its stream and its group, not on any other group's frames.
-- xs is a list of calls from a fresh start, e the bridge after them, g a group.
use Rattle.std.specs.Prelude.{ℕ, ◌≡◌, Bool, false, not, cond, ◌&&◌, List, [], ◌∷◌, eqb}
use Rattle.records.specs.Numbers.{is_set_up}
use Rattle.bridge.specs.Tables.{fresh_bridge, group_at, stream_at}
use Rattle.bridge.specs.History.{Call, group, stream, frame, Reply, reply, after_call, bridge_after}
use Rattle.bridge.specs.declared.Bridge.{Bridge}

-- stream i is set up in another group than g
unfoldable pub foreign : Bridge → ℕ → ℕ → Bool
foreign e g i = is_set_up (stream_at e i).regulator && not (eqb (stream_at e i).group g)

-- the calls, with every other group's frames left out
unfoldable pub without_others : Bridge → ℕ → List Call → List Call
without_others e g [] = []
without_others e g (group i c M ∷ xs) = group i c M ∷ without_others e g xs
without_others e g (stream i k r u ∷ xs) = stream i k r u ∷ without_others e g xs
without_others e g (frame i n A ∷ xs) = cond (foreign e g i) (without_others e g xs) (frame i n A ∷ without_others e g xs)

-- the answers to all other frames, in order, from the bridge b on
unfoldable pub answers : Bridge → ℕ → Bridge → List Call → List Reply
answers e g b [] = []
answers e g b (group i c M ∷ xs) = answers e g (after_call b (group i c M)) xs
answers e g b (stream i k r u ∷ xs) = answers e g (after_call b (stream i k r u)) xs
answers e g b (frame i n A ∷ xs) = cond (foreign e g i) (answers e g (after_call b (frame i n A)) xs) (reply b (frame i n A) ∷ answers e g (after_call b (frame i n A)) xs)

-- what group g sees of two lists of calls is the same: its record, its streams' records, and the answers to its frames
pub record SameFor (e : Bridge) (g : ℕ) (xs ys : List Call) : Type 0 where
  pub group : group_at (bridge_after xs) g ≡ group_at (bridge_after ys) g
  pub streams : (i : ℕ) → foreign e g i ≡ false → stream_at (bridge_after xs) i ≡ stream_at (bridge_after ys) i
  pub answered : answers e g fresh_bridge xs ≡ answers e g fresh_bridge ys

-- a group's answers and records are those of the history with every other group's frames left out
unfoldable pub Independence : Type 0
Independence = (xs : List Call) (g : ℕ) → SameFor (bridge_after xs) g xs (without_others (bridge_after xs) g xs)
