-- Laws of truth values that the crates share: conjunctions and choices. Assumes nothing.
use mathlib.Core.Path.{◌≡◌, refl, sym, ◌∙◌}
use mathlib.Core.Bool.{Bool, true, false, cond, ◌&&◌}
use Prim.Native.Nat.{ℕ}
use native.Mathlib.Omega.{arith}

pub both : (a b : Bool) → a && b ≡ true → (a ≡ true) × (b ≡ true)
both true b e = (refl, e)
both false b e = let z : ◌≡◌ {A = ℕ} 0 1 = cc in absurd (omega arith)

pub and_false : (a : Bool) → a && false ≡ false
and_false true = refl
and_false false = refl

pub and_true : (a : Bool) → a && true ≡ a
and_true true = refl
and_true false = refl

-- a choice whose test is known
pub cond_true : {A : Type 0} (t : Bool) (x y : A) → t ≡ true → cond t x y ≡ x
cond_true true x y e = refl
cond_true false x y e = let z : ◌≡◌ {A = ℕ} 0 1 = cc in absurd (omega arith)

pub cond_false : {A : Type 0} (t : Bool) (x y : A) → t ≡ false → cond t x y ≡ y
cond_false true x y e = let z : ◌≡◌ {A = ℕ} 0 1 = cc in absurd (omega arith)
cond_false false x y e = refl

-- what a test of the code says of what it tests
pub refuted : {t x : Bool} → t ≡ x → t ≡ false → x ≡ false
refuted e h = sym e ∙ h

pub confirmed : {t x : Bool} → t ≡ x → t ≡ true → x ≡ true
confirmed e h = sym e ∙ h
