-- Document 01, 'How tight each guarantee is': the discard count is a count over the definition's history.
-- xs is a list of calls from a fresh start, g a group.
use Rattle.std.specs.Prelude.{ℕ, ◌+◌, ◌%◌, ◌^◌, ◌≡◌, cond, List, [], ◌∷◌, eqb}
use Rattle.bridge.specs.Tables.{group_at}
use Rattle.bridge.specs.History.{Call, history, bridge_after, Outcome, released, discarded}

-- how many of the judged frames of group g were discarded
unfoldable pub discards_of : ℕ → List Outcome → ℕ
discards_of g [] = 0
discards_of g (released f ∷ os) = discards_of g os
discards_of g (discarded f ∷ os) = cond (eqb f.group g) 1 0 + discards_of g os

-- the group's count is that number; 4,294,967,295 is followed by 0
unfoldable pub DiscardCount : Type 0
DiscardCount = (xs : List Call) (g : ℕ) → (group_at (bridge_after xs) g).discards ≡ discards_of g (history xs) % 2 ^ 32
