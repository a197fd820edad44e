-- Text put at a place of lent bytes: where it fits, those bytes and no others change, and the next place is the one after it; else nothing changes.
-- l is the lent bytes, at a place in them, ts the text.
use Rattle.std.specs.Prelude.{ℕ, ◌+◌, cond, List, leb, length}
use Rattle.std.proofs.lemmas.List.Edits.{sets}

pub record Placed : Type 0 where
  pub next : ℕ
  pub bytes : List ℕ

unfoldable pub placed : List ℕ → ℕ → List ℕ → Placed
placed l at ts = cond (leb (at + length ts) (length l)) (record { next = at + length ts; bytes = sets l at ts }) (record { next = at; bytes = l })
