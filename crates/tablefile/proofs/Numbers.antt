-- Laws of big-endian numbers, for any width: bytes and numbers determine each other, and both fall into parts.
-- Assumes nothing.
use mathlib.Core.Path.{◌≡◌, refl, sym, ap, ◌∙◌}
use mathlib.Core.List.{List, [], ◌∷◌, ◌++◌}
use Prim.Native.Nat.{ℕ, zero, suc, ◌+◌, ◌*◌, ◌/◌, ◌%◌, ◌^◌, ◌≤◌, ◌<◌}
use native.Mathlib.Nat.{mul_assoc, pow-suc, pow-succ', one-le-pow, mod-lt, mod-one, mod-eq_of_lt, div-add-mod', div-lt_iff_lt-mul, mul-add-div_right, mul-add-mod_self_right}
use native.Mathlib.Omega.{arith}
use lib.Arith.{digits_lt, digits_div, mod-mul}
use lib.Pow.{pow-add}
use lib.ListN.{length, get_or, take, drop, length-append, length-drop}
use lib.Seq.{drop-cons, take-add, drop-drop, length-take-le, get_or-drop}
use Rattle.tablefile.specs.BigEndian.{byte_values, big_endian, number, number_at, AreBytes}

place_worth : (w : ℕ) → 0 < byte_values ^ w
place_worth w = one-le-pow w byte_values (omega arith)

pub length_big_endian : (w n : ℕ) → length (big_endian w n) ≡ w
unfolding big_endian
length_big_endian zero n = refl
length_big_endian (suc w) n = ap suc (length_big_endian w n)

-- ---- from a number to its bytes and back

number_mod : (w n : ℕ) → number (big_endian w n) ≡ n % byte_values ^ w
unfolding big_endian number
number_mod zero n = sym (mod-one n)
number_mod (suc w) n =
    rw (length_big_endian w n, number_mod w n, pow-succ' byte_values w)
    (sym (mod-mul n {m = byte_values} {c = byte_values ^ w} (omega arith) (place_worth w)))

pub number_big_endian : (w n : ℕ) → n < byte_values ^ w → number (big_endian w n) ≡ n
number_big_endian w n h = number_mod w n ∙ mod-eq_of_lt h

pub bytes_big_endian : (w n : ℕ) → AreBytes (big_endian w n)
unfolding big_endian
bytes_big_endian zero n i = omega arith
bytes_big_endian (suc w) n zero = mod-lt (n / byte_values ^ w) (omega arith)
bytes_big_endian (suc w) n (suc i) = bytes_big_endian w n i

-- ---- from bytes to their number and back

pub number_below : (l : List ℕ) → AreBytes l → number l < byte_values ^ length l
unfolding number
number_below [] h = omega arith
number_below (b ∷ bs) h =
    rw (pow-suc byte_values (length bs))
    (omega (arith, digits_lt {c = byte_values ^ length bs} (h 0) (number_below bs (λ i. h (suc i)))))

-- the last w bytes of a number do not see what is above them
low_bytes : (w a n : ℕ) → big_endian w (a * byte_values ^ w + n) ≡ big_endian w n
unfolding big_endian
low_bytes zero a n = refl
low_bytes (suc w) a n =
    let shifted : a * byte_values ^ suc w + n ≡ (a * byte_values) * byte_values ^ w + n =
    ap (λ (x : ℕ). x + n) (ap (λ (x : ℕ). a * x) (pow-succ' byte_values w) ∙ sym (mul_assoc a byte_values (byte_values ^ w))) in
    rw (
      shifted,
      mul-add-div_right (place_worth w) (a * byte_values) n,
      mul-add-mod_self_right a byte_values (n / byte_values ^ w),
      low_bytes w (a * byte_values) n,
    )

pub big_endian_number : (l : List ℕ) → AreBytes l → big_endian (length l) (number l) ≡ l
unfolding big_endian number
big_endian_number [] h = refl
big_endian_number (b ∷ bs) h =
    rw (
      digits_div b (number_below bs (λ i. h (suc i))),
      mod-eq_of_lt (h 0),
      low_bytes (length bs) b (number bs),
      big_endian_number bs (λ i. h (suc i)),
    )

-- ---- parts

pub number_append : (a b : List ℕ) → number (a ++ b) ≡ number a * byte_values ^ length b + number b
unfolding number
number_append [] b = omega arith
number_append (x ∷ a) b =
    rw (number_append a b, length-append a b, pow-add byte_values (length a) (length b)) (omega arith)

bytes_append : (a b : List ℕ) → AreBytes a → AreBytes b → AreBytes (a ++ b)
bytes_append [] b ha hb i = hb i
bytes_append (x ∷ a) b ha hb zero = ha 0
bytes_append (x ∷ a) b ha hb (suc i) = bytes_append a b (λ j. ha (suc j)) hb i

pub bytes_take : (n : ℕ) (l : List ℕ) → AreBytes l → AreBytes (take n l)
bytes_take zero l h i = omega arith
bytes_take (suc n) [] h i = omega arith
bytes_take (suc n) (x ∷ l) h zero = h 0
bytes_take (suc n) (x ∷ l) h (suc i) = bytes_take n l (λ j. h (suc j)) i

pub bytes_drop : (n : ℕ) (l : List ℕ) → AreBytes l → AreBytes (drop n l)
bytes_drop n l h i = rw get_or-drop (h (n + i))

-- the bytes of a number are those of its quotient and then those of its remainder
module _ (a b n : ℕ) (h : n < byte_values ^ (a + b)) where
  pub big_endian_parts : big_endian a (n / byte_values ^ b) ++ big_endian b (n % byte_values ^ b) ≡ big_endian (a + b) n
  big_endian_parts =
      let q-below : n / byte_values ^ b < byte_values ^ a =
      (div-lt_iff_lt-mul (place_worth b)).1 (rw (pow-add byte_values a b) at h) in
      let r-below = mod-lt n (place_worth b) in
      let high = big_endian a (n / byte_values ^ b) in
      let low = big_endian b (n % byte_values ^ b) in
      let width : length (high ++ low) ≡ a + b = simp (length-append, length_big_endian) in
      let value : number (high ++ low) ≡ n =
      rw (number_append, number_big_endian a _ q-below, number_big_endian b _ r-below, length_big_endian)
      (div-add-mod' n (byte_values ^ b)) in
      sym (big_endian_number (high ++ low) (bytes_append high low (bytes_big_endian a _) (bytes_big_endian b _)))
      ∙ cc

-- ---- a number at a place of a list

pub number_one : (l : List ℕ) (p : ℕ) → p < length l → number_at l p 1 ≡ get_or l p 0
unfolding number_at number
number_one l p h = rw (drop-cons l p 0 h) (omega arith)

pub number_parts : (l : List ℕ) (p a b : ℕ) → p + (a + b) ≤ length l
    → number_at l p a * byte_values ^ b + number_at l (p + a) b ≡ number_at l p (a + b)
unfolding number_at
number_parts l p a b h =
    let width : length (take b (drop (p + a) l)) ≡ b = length-take-le b (drop (p + a) l) (rw length-drop (omega arith)) in
    rw (take-add, drop-drop, number_append, width)
