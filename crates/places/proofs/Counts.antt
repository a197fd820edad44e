-- Laws of what is left of a stretch, and of how many entries of a class count. Assumes nothing.
use mathlib.Core.Path.{◌≡◌, refl, sym}
use mathlib.Core.Bool.{Bool, true, false}
use mathlib.Core.List.{List}
use Prim.Native.Nat.{ℕ, suc, ◌+◌, ◌-◌, ◌≤◌, ◌<◌}
use native.Mathlib.Omega.{arith}
use lib.Dec.{leb}
use lib.ListN.{get_or}
use borrow.Author.Tests.{leb-true, leb-false, lt-leb, le-leb}
use Rattle.quantity.specs.declared.Item.TheVariants.{Class}
use Rattle.quantity.proofs.Ranges.{within, too_high}
use Rattle.places.specs.Queue.{places, count_of}

-- what is left of a stretch that ends at e
pub left : (i e : ℕ) → i < e → e - i ≡ suc (e - (i + 1))
left i e h = omega arith

pub over : (i e : ℕ) → e ≤ i → e - i ≡ 0
over i e h = omega arith

-- ---- how many entries count
module _ (fs : List ℕ) (c : ℕ) where
  pub none_beyond : 7 < c → 0 ≡ count_of fs c
  unfolding count_of
  none_beyond h = rw (too_high Class c h) refl

  pub none_overfull : c ≤ 7 → places < get_or fs c 0 → 0 ≡ count_of fs c
  unfolding count_of
  none_overfull h n = rw (within Class c (omega arith) h, lt-leb (get_or fs c 0) places n) refl

  pub count_is : c ≤ 7 → get_or fs c 0 ≤ places → get_or fs c 0 ≡ count_of fs c
  unfolding count_of
  count_is h n = rw (within Class c (omega arith) h, le-leb (get_or fs c 0) places n) refl

  -- where an entry counts, all of the class's do
  pub count_all : 0 < count_of fs c → (count_of fs c ≡ get_or fs c 0) × ((c ≤ 7) × (get_or fs c 0 ≤ places))
  count_all h = go (leb c 7) (leb (get_or fs c 0) places) refl refl where
    go : (x y : Bool) → leb c 7 ≡ x → leb (get_or fs c 0) places ≡ y → (count_of fs c ≡ get_or fs c 0) × ((c ≤ 7) × (get_or fs c 0 ≤ places))
    go true true p q = let a = leb-true c 7 p in let b = leb-true (get_or fs c 0) places q in (sym (count_is a b), (a, b))
    go true false p q = let a = leb-true c 7 p in let b = leb-false (get_or fs c 0) places q in let z = none_overfull a b in absurd (omega arith)
    go false y p q = let a = leb-false c 7 p in let z = none_beyond a in absurd (omega arith)
