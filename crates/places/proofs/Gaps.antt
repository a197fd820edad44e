-- Laws of closing a gap: one step of the loop and its end; what stands where afterwards. Assumes nothing.
use mathlib.Core.Path.{◌≡◌, refl, sym, ◌∙◌}
use mathlib.Core.Bool.{Bool, true, false}
use mathlib.Core.List.{List}
use mathlib.Core.Logic.{◌⊎◌, inl, inr, ⊎_elim}
use Prim.Native.Nat.{ℕ, zero, suc, ◌+◌, ◌-◌, ◌≤◌, ◌<◌}
use native.Mathlib.Omega.{arith}
use lib.Dec.{ltb}
use lib.ListN.{length, get_or, set, length-set}
use lib.Seq.{get_or-set_same, get_or-set_other}
use borrow.Author.Tests.{ltb-true, ltb-false}
use Rattle.std.specs.List.{CopiedTo, SameBelow, SameFrom}
use Rattle.std.proofs.lemmas.Grind.{same_number_lists}
use Rattle.places.specs.Places.{moved, closed}

-- ---- what stands where
moved_length : (l : List ℕ) (i n : ℕ) → length (moved l i n) ≡ length l
unfolding moved
moved_length l i zero = refl
moved_length l i (suc n) = moved_length (set l i (get_or l (i + 1) 0)) (i + 1) n ∙ length-set l i (get_or l (i + 1) 0)

moved_other : (l : List ℕ) (i n j : ℕ) → (j < i) ⊎ (i + n ≤ j) → get_or (moved l i n) j 0 ≡ get_or l j 0
unfolding moved
moved_other l i zero j w = refl
moved_other l i (suc n) j w =
    moved_other (set l i (get_or l (i + 1) 0)) (i + 1) n j (⊎_elim (λ a. inl (omega arith)) (λ a. inr (omega arith)) w)
    ∙ get_or-set_other l i j (get_or l (i + 1) 0) 0 (λ e. ⊎_elim (λ a. omega arith) (λ a. omega arith) w)

moved_down : (l : List ℕ) (i n j : ℕ) → i + n < length l → i ≤ j → j < i + n → get_or (moved l i n) j 0 ≡ get_or l (j + 1) 0
unfolding moved
moved_down l i zero j h a b = absurd (omega arith)
moved_down l i (suc n) j h a b =
    go (λ p. moved_down (set l i (get_or l (i + 1) 0)) (i + 1) n j (omega (arith, length-set l i (get_or l (i + 1) 0))) p (omega arith)) (ltb i j) refl where
      go : (i + 1 ≤ j → get_or (moved (set l i (get_or l (i + 1) 0)) (i + 1) n) j 0 ≡ get_or (set l i (get_or l (i + 1) 0)) (j + 1) 0)
          → (x : Bool) → ltb i j ≡ x → get_or (moved (set l i (get_or l (i + 1) 0)) (i + 1) n) j 0 ≡ get_or l (j + 1) 0
      go k true f = let z = ltb-true i j f in k (omega arith) ∙ get_or-set_other l i (j + 1) (get_or l (i + 1) 0) 0 (λ q. omega arith)
      go k false f =
          let z = ltb-false i j f in
          let y : j ≡ i = omega arith in
          rw y (moved_other (set l i (get_or l (i + 1) 0)) (i + 1) n i (inl (omega arith)) ∙ get_or-set_same l i (get_or l (i + 1) 0) 0 (omega arith))

module _ (l : List ℕ) (at end : ℕ) where
  pub gap_length : length (closed l at end) ≡ length l
  unfolding closed
  gap_length = moved_length l at (end - (at + 1))

  -- before the gap and from the end on nothing changes
  pub gap_other : (j : ℕ) → at < end → (j < at) ⊎ (end ≤ j) → get_or (closed l at end) j 0 ≡ get_or l j 0
  unfolding closed
  gap_other j h w = moved_other l at (end - (at + 1)) j (⊎_elim (λ a. inl a) (λ a. inr (omega arith)) w)

  -- in between stands what stood one place further
  pub gap_down : (j : ℕ) → end ≤ length l → at ≤ j → j + 1 < end → get_or (closed l at end) j 0 ≡ get_or l (j + 1) 0
  unfolding closed
  gap_down j h a b = moved_down l at (end - (at + 1)) j (omega arith) a (omega arith)

-- what the library's copying of the stretch after the gap, one place down, leaves is the gap closed
pub gap_closed : (l r : List ℕ) (at end : ℕ) → at < end → end ≤ length l → length r ≡ length l
    → CopiedTo l r (at + 1) at (end - (at + 1)) × SameBelow l r at × SameFrom l r (at + (end - (at + 1))) → r ≡ closed l at end
unfolding closed
gap_closed l r at end h e s c =
    let n = end - (at + 1) in
    same_number_lists r (moved l at n) (s ∙ sym (moved_length l at n)) (λ k i. go k i (ltb k at) (ltb k (at + n)) refl refl) where
      go : (k : ℕ) → k < length r → (x y : Bool) → ltb k at ≡ x → ltb k (at + (end - (at + 1))) ≡ y → get_or r k 0 ≡ get_or (moved l at (end - (at + 1))) k 0
      go k i true y p q = let z = ltb-true k at p in c.1 k 0 z ∙ sym (moved_other l at (end - (at + 1)) k (inl z))
      go k i false true p q =
          let z = ltb-false k at p in
          let y = ltb-true k (at + (end - (at + 1))) q in
          let n : (at + 1) + (k - at) ≡ k + 1 = omega arith in
          c.0 k 0 z y ∙ rw n (sym (moved_down l at (end - (at + 1)) k (omega arith) z y))
      go k i false false p q = let z = ltb-false k (at + (end - (at + 1))) q in c.2 k 0 z ∙ sym (moved_other l at (end - (at + 1)) k (inr z))
