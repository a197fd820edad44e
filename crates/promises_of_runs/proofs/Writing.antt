-- Laws of numbers written into a list from a place on: those before it stay, and no 9 is written where none is answered. Assumes nothing.
use mathlib.Core.Path.{◌≡◌, refl, sym, ◌∙◌}
use mathlib.Core.Bool.{Bool, true, false}
use mathlib.Core.List.{List, [], ◌∷◌}
use mathlib.Core.Logic.{◌⊎◌, inl, inr}
use Prim.Native.Nat.{ℕ, ◌+◌, ◌≤◌, ◌<◌}
use native.Mathlib.Omega.{arith}
use lib.Dec.{eqb, ltb}
use lib.ListN.{length, get_or, set, length-set, get_or-eq_default}
use lib.Seq.{get_or-set_same, get_or-set_other}
use borrow.Author.Tests.{eqb-true, eqb-false, ltb-true, ltb-false}
use Rattle.quantity.specs.Numbers.{number_of}
use Rattle.quantity.specs.declared.Refusal.TheVariants.{Unsound, ClassFull}
use Rattle.bridge.specs.History.{Reply}
use Rattle.line.specs.Events.{written}
use Rattle.line.specs.Promises.{Answers, none, one}
use Rattle.promises.specs.Demand1.{NoneUnsound}

written_before : (l : List ℕ) (k : ℕ) (xs : List ℕ) (j : ℕ) → j < k → get_or (written l k xs) j 0 ≡ get_or l j 0
unfolding written
written_before l k [] j h = refl
written_before l k (x ∷ xs) j h = written_before (set l k x) (k + 1) xs j (omega arith) ∙ get_or-set_other l k j x 0 (λ e. omega arith)

-- what stands at a place that was set: the number, or nothing where the list does not reach it
set_at : (l : List ℕ) (k x : ℕ) → (get_or (set l k x) k 0 ≡ x) ⊎ (get_or (set l k x) k 0 ≡ 0)
set_at l k x = go (ltb k (length l)) refl where
  go : (t : Bool) → ltb k (length l) ≡ t → (get_or (set l k x) k 0 ≡ x) ⊎ (get_or (set l k x) k 0 ≡ 0)
  go true q = inl (get_or-set_same l k x 0 (ltb-true k (length l) q))
  go false q = let z = ltb-false k (length l) q in inr (get_or-eq_default (set l k x) 0 (simp length-set (omega arith)))

-- a number that a frame was given is no 9 where its reply is none
not_nine : (x : ℕ) (r : Reply) → (x ≡ r.number) ⊎ ((r.number ≡ 0) × (x ≡ number_of ClassFull)) → (r.number ≡ number_of Unsound → ⊥) → x ≡ number_of Unsound → ⊥
not_nine x r (inl a) n e = n (sym a ∙ e)
not_nine x r (inr a) n e = let z = a.1 in omega arith

pub no_nine_written : (l : List ℕ) (k : ℕ) {xs : List ℕ} {rs : List Reply} → Answers xs rs → NoneUnsound rs → (j : ℕ) → k ≤ j → j < k + length xs → get_or (written l k xs) j 0 ≡ number_of Unsound → ⊥
unfolding written NoneUnsound
no_nine_written l k none n j a b e = omega arith
no_nine_written l k (one {x} {r} {xs} {rs} p more) n j a b e = go (eqb j k) refl (λ c. no_nine_written (set l k x) (k + 1) more n.1 j c (omega arith) e) where
  go : (t : Bool) → eqb j k ≡ t → (k + 1 ≤ j → ⊥) → ⊥
  go true q later =
      let z = eqb-true j k q in
      let y : get_or (set l k x) k 0 ≡ number_of Unsound = sym (written_before (set l k x) (k + 1) xs k (omega arith)) ∙ rw z at e in
      here (set_at l k x) y where
        here : (get_or (set l k x) k 0 ≡ x) ⊎ (get_or (set l k x) k 0 ≡ 0) → get_or (set l k x) k 0 ≡ number_of Unsound → ⊥
        here (inl v) y = not_nine x r p n.0 (sym v ∙ y)
        here (inr v) y = omega arith
  go false q later = let z = eqb-false j k q in later (omega arith)
