-- Laws of ranges: a number is in an item's range exactly when it is between the two ends. Assumes nothing.
use mathlib.Core.Path.{◌≡◌, refl, sym}
use mathlib.Core.Bool.{Bool, true, false, cond, ◌&&◌}
use Prim.Native.Nat.{ℕ, ◌≤◌, ◌<◌}
use native.Mathlib.Omega.{arith}
use lib.Dec.{leb}
use borrow.Author.Tests.{leb-true, le-leb, lt-leb}
use Rattle.std.specs.Cmp.{ranks}
use Rattle.std.proofs.Common.{Ordering, Less, Equal, Greater}
use Rattle.std.specs.Ordering.{MatchOrdering, nat_cmp, is_le}
use Rattle.std.specs.Prelude.{Some}
use Rattle.std.specs.Range.{range_inclusive_start, range_inclusive_end, range_inclusive_exhausted, range_inclusive_contains}
use Rattle.std.specs.declared.ops.RangeInclusive.{RangeInclusive}
use Rattle.quantity.specs.Ranges.{least_of, most_of, in_range, place_of}
use Rattle.quantity.specs.declared.Item.{Item}
use Rattle.quantity.proofs.Booleans.{both, and_false, cond_true, cond_false}

module _ (i : Item) (n : ℕ) where
  pub within : least_of i ≤ n → n ≤ most_of i → in_range i n ≡ true
  unfolding in_range
  within l m = simp (le-leb _ _ l, le-leb _ _ m)

  pub too_low : n < least_of i → in_range i n ≡ false
  unfolding in_range
  too_low l = simp (lt-leb _ _ l)

  pub too_high : most_of i < n → in_range i n ≡ false
  unfolding in_range
  too_high m = rw (lt-leb _ _ m) (and_false (leb (least_of i) n))

  -- above its low end a number is in the range if it is not above the high one
  pub from_least : least_of i ≤ n → leb n (most_of i) ≡ in_range i n
  unfolding in_range
  from_least l = simp (le-leb _ _ l)

  pub at_least : in_range i n ≡ true → least_of i ≤ n
  unfolding in_range
  at_least e = leb-true _ _ (both (leb (least_of i) n) (leb n (most_of i)) e).0

  pub at_most : in_range i n ≡ true → n ≤ most_of i
  unfolding in_range
  at_most e = leb-true _ _ (both (leb (least_of i) n) (leb n (most_of i)) e).1

  -- ---- the place of an id
  pub place_in : in_range i n ≡ true → place_of i n ≡ n
  unfolding place_of
  place_in e = cond_true (in_range i n) n 0 e

  pub place_out : in_range i n ≡ false → place_of i n ≡ 0
  unfolding place_of
  place_out e = cond_false (in_range i n) n 0 e

  pub place_most : place_of i n ≤ most_of i
  unfolding place_of
  place_most = go (in_range i n) refl
    where
      go : (t : Bool) → in_range i n ≡ t → cond t n 0 ≤ most_of i
      go true e = at_most e
      go false e = omega arith

  -- where the code has found it
  pub place_found : (p : ℕ) → p ≡ place_of i n → p ≤ most_of i
  place_found p e = omega (arith, place_most)

-- ---- a range of the library that has not lost its end
at_most_is : (x y : ℕ) → is_le (nat_cmp x y) ≡ leb x y
at_most_is x y = go (nat_cmp x y) (ranks x y)
  where
    go : (o : Ordering) → MatchOrdering o (x < y) (x ≡ y) (y < x) → is_le o ≡ leb x y
    go Less h = sym (le-leb x y (omega (arith, h)))
    go Equal h = sym (le-leb x y (omega (arith, h)))
    go Greater h = sym (lt-leb x y h)

pub contained : (r : RangeInclusive ℕ) (a b n : ℕ) → range_inclusive_start r ≡ a → range_inclusive_end r ≡ b → range_inclusive_exhausted r ≡ false → range_inclusive_contains (λ x y. Some (nat_cmp x y)) r n ≡ leb a n && leb n b
contained r a b n s e x = simp (s, e, x, at_most_is a n, at_most_is n b)
