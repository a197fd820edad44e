-- Laws of texts that are put one after the other, and of how long they are. Assumes nothing.
use mathlib.Core.Path.{◌≡◌, sym, ap, ◌∙◌}
use mathlib.Core.Bool.{Bool, true, false, cond}
use mathlib.Core.List.{List, [], ◌∷◌, ◌++◌}
use Prim.Native.Nat.{ℕ, zero, suc, ◌+◌, ◌%◌, ◌^◌, ◌≤◌, ◌<◌}
use native.Mathlib.Nat.{add-zero, div-one, mod-eq_of_lt}
use native.Mathlib.Omega.{arith}
use lib.Dec.{ltb, leb}
use lib.ListN.{length, set, length-append}
use lib.Seq.{sets, length-sets}
use Rattle.listing_text.specs.Lines.{space, newline, column, line_of, end_line}
use Rattle.listing_text.specs.Places.{line_room, end_room}
use borrow.Author.Tests.{lt-ltb, le-leb}
use Rattle.quantity.proofs.Booleans.{cond_true}
use Rattle.text.specs.Decimal.{digit, last_digits, fewest, digit_count, decimal}
use Rattle.text.specs.Places.{Placed, placed}
use Rattle.text.proofs.Stores.{decimal_length}
use Rattle.listing_text.specs.Steps.{most_digits, number_room, head_room, Put}

-- ---- one after the other

sets_append : (a b l : List ℕ) (i : ℕ) → sets (sets l i a) (i + length a) b ≡ sets l i (a ++ b)
sets_append [] b l i = rw (add-zero i)
sets_append (x ∷ a) b l i =
    let e : i + suc (length a) ≡ suc i + length a = omega arith in
    ap (λ (k : ℕ). sets (sets (set l i x) (suc i) a) k b) e ∙ sets_append a b (set l i x) (suc i)

pub put_then : {l o m : List ℕ} {at n k : ℕ} (a b : List ℕ) → Put l at a n o → Put o n b k m → Put l at (a ++ b) k m
put_then {l} {o} {m} {at} {n} {k} a b x y = record {
  ends = omega (arith, x.ends, y.ends, length-append a b);
  stands =
      y.stands
      ∙ ap (λ (i : ℕ). sets o i b) x.ends
      ∙ ap (λ (q : List ℕ). sets q (at + length a) b) x.stands
      ∙ sets_append a b l at;
}

pub put_length : {l o : List ℕ} {at n : ℕ} (ts : List ℕ) → Put l at ts n o → length o ≡ length l
put_length {l} {o} {at} ts x = ap length x.stands ∙ length-sets l at ts

pub put_text : {l o : List ℕ} {at n : ℕ} {a b : List ℕ} → a ≡ b → Put l at a n o → Put l at b n o
put_text {l} {o} {at} {n} e x = rw e at x

-- what was placed where it fits was put
pub placed_put : (l o : List ℕ) (at n : ℕ) (ts : List ℕ) → at + length ts ≤ length l → record { next = n; bytes = o } ≡ placed l at ts → Put l at ts n o
unfolding placed
placed_put l o at n ts h e =
    let w = e ∙ cond_true (leb (at + length ts) (length l)) (record { next = at + length ts; bytes = sets l at ts }) (record { next = at; bytes = l }) (le-leb _ _ h) in
    record { ends = ap (λ (p : Placed). p.next) w; stands = ap (λ (p : Placed). p.bytes) w }

-- ---- how long

few : (more k n : ℕ) → fewest more k n ≤ k + more
unfolding fewest
few zero k n = omega arith
few (suc more) k n = go (ltb n (10 ^ k)) (few more (k + 1) n)
  where
    go : (t : Bool) → fewest more (k + 1) n ≤ k + 1 + more → cond t k (fewest more (k + 1) n) ≤ k + suc more
    go true h = omega arith
    go false h = omega arith

-- a decimal has at most 20 digits
pub decimal_short : (n : ℕ) → length (decimal n) ≤ most_digits
unfolding digit_count
decimal_short n = omega (arith, decimal_length n, few 19 1 n)

-- that of a byte at most three
few_of_byte : (n : ℕ) → n < 256 → digit_count n ≤ 3
unfolding digit_count fewest
few_of_byte n h = go (ltb n 10) (ltb n 100)
  where
    last : cond (ltb n (10 ^ 3)) 3 (fewest 16 (3 + 1) n) ≡ 3
    last = cond_true (ltb n (10 ^ 3)) 3 (fewest 16 (3 + 1) n) (lt-ltb n (10 ^ 3) (omega arith))

    go : (s t : Bool) → cond s 1 (cond t 2 (cond (ltb n (10 ^ 3)) 3 (fewest 16 (3 + 1) n))) ≤ 3
    go true t = omega arith
    go false true = omega arith
    go false false = omega (arith, last)

pub byte_short : (n : ℕ) → n < 256 → length (decimal n) ≤ number_room
byte_short n h = omega (arith, decimal_length n, few_of_byte n h)

-- a decimal that was placed where 20 digits have room
pub put_decimal : (l o : List ℕ) (at next n : ℕ) → at + most_digits ≤ length l → record { next = next; bytes = o } ≡ placed l at (decimal n) → Put l at (decimal n) next o
put_decimal l o at next n h e = placed_put l o at next (decimal n) (omega (arith, decimal_short n)) e

-- and what is left behind it
pub decimal_room : (l o : List ℕ) (at next n k : ℕ) → at + (most_digits + k) ≤ length l → record { next = next; bytes = o } ≡ placed l at (decimal n) → next + k ≤ length o
decimal_room l o at next n k h e =
    let p = put_decimal l o at next n (omega arith) e in
    omega (arith, p.ends, put_length (decimal n) p, decimal_short n)

-- the same for a byte, where three have room
pub put_byte_decimal : (l o : List ℕ) (at next n : ℕ) → n < 256 → at + number_room ≤ length l → record { next = next; bytes = o } ≡ placed l at (decimal n) → Put l at (decimal n) next o
put_byte_decimal l o at next n b h e = placed_put l o at next (decimal n) (omega (arith, byte_short n b)) e

-- the last column
pub column_short : (vs : List ℕ) → length (column vs) ≤ most_digits
unfolding column
column_short [] = omega arith
column_short (T ∷ more) = decimal_short T

-- the number of a line and its letters
pub head_within : {l o : List ℕ} {at next : ℕ} (n x y z w : ℕ) → Put l at (decimal n ++ (x ∷ y ∷ z ∷ w ∷ [])) next o → (next ≤ at + head_room) × (length o ≡ length l)
head_within n x y z w p =
    (omega (arith, p.ends, length-append (decimal n) (x ∷ y ∷ z ∷ w ∷ []), decimal_short n), put_length (decimal n ++ (x ∷ y ∷ z ∷ w ∷ [])) p)

-- ---- lines

pub line_short : (n : ℕ) (letters : List ℕ) (number : ℕ) (values : List ℕ) → length letters ≡ 2 → number < 256 → length (line_of n letters number values) ≤ line_room
unfolding line_of
line_short n letters number values e h =
    omega (
      arith,
      length-append (decimal n) (space ∷ (letters ++ (space ∷ (decimal number ++ (space ∷ (column values ++ (newline ∷ []))))))),
      length-append letters (space ∷ (decimal number ++ (space ∷ (column values ++ (newline ∷ []))))),
      length-append (decimal number) (space ∷ (column values ++ (newline ∷ []))),
      length-append (column values) (newline ∷ []),
      decimal_short n,
      byte_short number h,
      column_short values,
    )

pub end_line_short : (n : ℕ) → length (end_line n) ≤ end_room
unfolding end_line
end_line_short n = omega (arith, length-append (decimal n) (newline ∷ []), decimal_short n)

-- ---- a number of one digit

pub one_digit : (n : ℕ) → n < 10 → (48 + n) ∷ [] ≡ decimal n
unfolding digit last_digits fewest digit_count decimal
one_digit n h =
    sym
    (ap (λ (k : ℕ). last_digits k n) (cond_true (ltb n 10) 1 (fewest 18 2 n) (lt-ltb n 10 h))
    ∙ ap (λ (q : ℕ). (48 + q % 10) ∷ []) (div-one n)
    ∙ ap (λ (q : ℕ). (48 + q) ∷ []) (mod-eq_of_lt h))
