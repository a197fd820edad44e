-- Laws of what a reading leaves. Assumes nothing.
use mathlib.Core.Path.{◌≡◌, sym, ap, ◌∙◌}
use mathlib.Core.List.{List, ◌++◌}
use Prim.Native.Nat.{ℕ, ◌≤◌}
use lib.IntN.{ℤ}
use lib.ListN.{length, take, drop, take-append-drop}
use lib.Seq.{take_at, length-take-le}
use Rattle.std.specs.Prelude.{Result}
use Rattle.intake.specs.declared.Held.{Held}
use Rattle.intake.specs.Holding.{came_in}
use Rattle.console.specs.declared.Came.{Came}
use Rattle.console.specs.Answers.{brought, Read, read_behind}

-- the bytes up to the place that was filled were left as they were
pub was_read : (h : Held) (l : List ℕ) (got : Result ℕ ℤ) (after : List ℕ) (r : Held) → r ≡ came_in h (brought got) (length l) → take h.filled after ≡ take h.filled l
    → record { came = record { got = got; held = r }; bytes = after } ≡ read_behind h l got after
unfolding read_behind
was_read h l got after r c t =
    ap (λ (x : Held). record { came = record { got = got; held = x }; bytes = after }) c
    ∙ ap (λ (x : List ℕ). record { came = record { got = got; held = came_in h (brought got) (length l) }; bytes = x })
    (sym (take-append-drop h.filled after) ∙ ap (λ (x : List ℕ). x ++ drop h.filled after) t)

-- what a reading gave, taken apart: what is held by the system's answer, and the bytes that were there
pub read_gave : (h : Held) (l : List ℕ) (c : Came) (after : List ℕ) → h.filled ≤ length l
    → record { came = c; bytes = after } ≡ read_behind h l c.got after
    → (c.held ≡ came_in h (brought c.got) (length l)) × (take h.filled after ≡ take h.filled l)
unfolding read_behind
read_gave h l c after w e =
    let front = take h.filled l in (
      ap (λ (x : Read). x.came.held) e,
      ap (λ (x : Read). take h.filled x.bytes) e ∙ take_at front (drop h.filled after) h.filled (length-take-le h.filled l w),
    )
