-- Laws of what a reading brought: none, some, or why not. Assumes nothing.
use mathlib.Core.Path.{◌≡◌, sym, ap, ◌∙◌}
use mathlib.Core.Bool.{cond}
use Prim.Native.Nat.{ℕ, zero, suc, ◌+◌, ◌-◌, min}
use native.Mathlib.Omega.{arith}
use lib.Dec.{ltb}
use Rattle.std.specs.Prelude.{Result, Ok, Err}
use Rattle.intake.specs.declared.Held.{Held}
use Rattle.intake.specs.declared.Told.{Told}
use Rattle.intake.specs.declared.Told.TheVariants.{More, Ended, Failed}
use Rattle.intake.specs.declared.Unread.{Unread}
use Rattle.intake.specs.Holding.{saying, told_unread, came_in}

module _ (h : Held) (got : Result ℕ Unread) (size : ℕ) (r : Held) where
  pub none_came : (n : ℕ) (t : Told) → got ≡ Ok n → n ≡ 0 → t ≡ cond (ltb h.filled size) Ended Failed → r ≡ saying h t → r ≡ came_in h got size
  unfolding came_in
  none_came n t e z f g = g ∙ ap (saying h) f ∙ sym (ap (λ (x : Result ℕ Unread). came_in h x size) (e ∙ ap (λ (k : ℕ). Ok k) z))

  some_by : (n m : ℕ) → (n ≡ 0 → ⊥) → m ≡ min n (size - h.filled) → record { place = h.place; filled = h.filled + m; told = More } ≡ came_in h (Ok n) size
  unfolding came_in
  some_by zero m z f = absurd (omega arith)
  some_by (suc k) m z f = ap (λ (x : ℕ). record { place = h.place; filled = h.filled + x; told = More }) f

  pub some_came : (n m : ℕ) → got ≡ Ok n → (n ≡ 0 → ⊥) → m ≡ min n (size - h.filled) → r ≡ saying h More → record { place = r.place; filled = h.filled + m; told = r.told } ≡ came_in h got size
  unfolding saying
  some_came n m e z f g =
      ap (λ (x : Held). record { place = x.place; filled = h.filled + m; told = x.told }) g
      ∙ some_by n m z f
      ∙ sym (ap (λ (x : Result ℕ Unread). came_in h x size) e)

  pub why_none : (why : Unread) (t : Told) → got ≡ Err why → t ≡ told_unread why → r ≡ saying h t → r ≡ came_in h got size
  unfolding came_in
  why_none why t e f g = g ∙ ap (saying h) f ∙ sym (ap (λ (x : Result ℕ Unread). came_in h x size) e)
