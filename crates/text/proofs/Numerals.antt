-- Laws of the numbers that lent bytes are: digit by digit, and clipped at any digit. Assumes nothing.
use mathlib.Core.Path.{◌≡◌, refl, sym, ap, ◌∙◌}
use mathlib.Core.Bool.{Bool, true, false, cond, ◌&&◌}
use mathlib.Core.List.{List, [], ◌∷◌}
use Rattle.std.specs.Prelude.{None, Some}
use Prim.Native.Nat.{ℕ, suc, ◌+◌, ◌-◌, ◌*◌, ◌≤◌, ◌<◌, min}
use native.Mathlib.Numerals.{add-one}
use native.Mathlib.Omega.{arith}
use lib.ListN.{length, get_or, drop, drop_of_length-le}
use lib.Seq.{drop-cons}
use Rattle.text.specs.Numeral.{most, is_digit, are_digits, value_from, numeral_of}

-- ---- one byte
pub no_digit_is : (t : Bool) (n : ℕ) → None ≡ cond t (Some n) None → t ≡ false
no_digit_is true n e = cc
no_digit_is false n e = refl

pub digit_is : (t : Bool) (n d : ℕ) → Some d ≡ cond t (Some n) None → (t ≡ true) × (d ≡ n)
digit_is true n d e = (refl, cc)
digit_is false n d e = cc

-- ---- a list of bytes
pub no_number : (l : List ℕ) → are_digits l ≡ false → None ≡ numeral_of l
unfolding numeral_of
no_number [] e = refl
no_number (b ∷ l) e = rw e

pub none_at_all : (l : List ℕ) → length l ≡ 0 → None ≡ numeral_of l
unfolding numeral_of
none_at_all [] e = refl
none_at_all (b ∷ l) e = absurd (omega arith)

a_number : (l : List ℕ) → 0 < length l → are_digits l ≡ true → Some (min (value_from 0 l) most) ≡ numeral_of l
unfolding numeral_of
a_number [] h e = absurd (omega arith)
a_number (b ∷ l) h e = rw e

-- a number that is clipped before its last digits ends where it would without
clipped : (l : List ℕ) (v : ℕ) → min (value_from (min v most) l) most ≡ min (value_from v l) most
unfolding value_from
clipped [] v = omega arith
clipped (b ∷ l) v =
    let x = min v most * 10 + (b - 48) in
    let y = v * 10 + (b - 48) in
    let e : min x most ≡ min y most = omega arith in
    sym (clipped l x) ∙ ap (λ (n : ℕ). min (value_from n l) most) e ∙ clipped l y

-- ---- digit by digit: what the digits from i on, after the number n, say
pub record Reading (l : List ℕ) (n i : ℕ) : Type 0 where
  pub within : i ≤ length l
  pub small : n ≤ most
  pub digits : are_digits (drop i l) ≡ are_digits l
  pub value : min (value_from n (drop i l)) most ≡ min (value_from 0 l) most

pub begins : (l : List ℕ) → Reading l 0 0
begins l = record { within = omega arith; small = omega arith; digits = refl; value = refl }

module _ (l : List ℕ) (n i : ℕ) (r : Reading l n i) where
  digits_here : i < length l → is_digit (get_or l i 0) && are_digits (drop (suc i) l) ≡ are_digits l
  unfolding are_digits
  digits_here h = rw (drop-cons l i 0 h) at r.digits

  pub no_digit : i < length l → is_digit (get_or l i 0) ≡ false → None ≡ numeral_of l
  no_digit h e = let d : false ≡ are_digits l = rw e at (digits_here h) in no_number l (sym d)

  pub digit_on : i < length l → is_digit (get_or l i 0) ≡ true → (m : ℕ) → m ≡ min (n * 10 + (get_or l i 0 - 48)) most → Reading l m (i + 1)
  unfolding value_from
  digit_on h e m is = record {
    within = omega arith;
    small = omega arith;
    digits = rw (add-one i) (rw e at (digits_here h));
    value =
        rw (is, add-one i)
        (clipped (drop (suc i) l) (n * 10 + (get_or l i 0 - 48))
        ∙ (rw (drop-cons l i 0 h) at r.value));
  }

pub all_read : (l : List ℕ) (n i : ℕ) → Reading l n i → 0 < length l → length l ≤ i → Some n ≡ numeral_of l
unfolding are_digits value_from
all_read l n i r h d =
    let end = drop_of_length-le l d in
    let digits : true ≡ are_digits l = rw end at r.digits in
    let value : min n most ≡ min (value_from 0 l) most = rw end at r.value in
    let small = r.small in
    let same : n ≡ min (value_from 0 l) most = omega arith in
    ap Some same ∙ a_number l h (sym digits)
