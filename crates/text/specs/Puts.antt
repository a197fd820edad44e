-- Texts put at a place of lent bytes one after the other, each where the one before it ends.
-- l is the lent bytes, at a place in them, ts the texts.
use Rattle.std.specs.Prelude.{ℕ, List, [], ◌∷◌, ◌++◌}
use Rattle.text.specs.Places.{Placed, placed}

-- texts, one after the other
unfoldable pub joined : List (List ℕ) → List ℕ
joined [] = []
joined (t ∷ ts) = t ++ joined ts

unfoldable pub puts : List ℕ → ℕ → List (List ℕ) → Placed
puts l at [] = record { next = at; bytes = l }
puts l at (t ∷ ts) = puts (placed l at t).bytes (placed l at t).next ts
