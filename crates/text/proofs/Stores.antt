-- Laws of runs of stores: one more in front of a run, and what a run does where it fits. Assumes nothing.
use mathlib.Core.Path.{◌≡◌, refl, sym, ap, ◌∙◌}
use mathlib.Core.Bool.{Bool, true, false}
use mathlib.Core.List.{List, [], ◌∷◌, append_assoc}
use Prim.Native.Nat.{ℕ, suc, ◌+◌, ◌-◌, ◌/◌, ◌%◌, ◌^◌, ◌≤◌, ◌<◌}
use native.Mathlib.Omega.{arith}
use lib.Dec.{leb}
use lib.ListN.{length, set, take, drop}
use lib.Seq.{sets, sets-eq, length-sets, set_comm}
use Rattle.std.proofs.lemmas.List.{drop-drop}
use borrow.Rule.Slice.PartMut.{put_mid}
use borrow.Author.Tests.{le-leb, lt-leb, leb-true}
use Rattle.quantity.proofs.Booleans.{cond_true, cond_false}
use Rattle.text.specs.Decimal.{last_digits, digit_count, decimal}
use Rattle.text.specs.Places.{Placed, placed}
use Rattle.text.proofs.Digits.{next_digits, digits_length}

-- a store before a run of stores may be made first
before_run : (ds l : List ℕ) (i j d : ℕ) → i < j → set (sets l j ds) i d ≡ sets (set l i d) j ds
before_run [] l i j d h = refl
before_run (x ∷ ds) l i j d h =
    before_run ds (set l j x) i (suc j) d (omega arith) ∙ ap (λ (m : List ℕ). sets m (suc j) ds) (set_comm l j i x d (λ e. absurd (omega arith)))

pub one_more : (l ds : List ℕ) (i d : ℕ) → set (sets l (suc i) ds) i d ≡ sets l i (d ∷ ds)
one_more l ds i d = before_run ds l i (suc i) d (omega arith)

-- one more digit before those that stand before the end
pub digit_more : (l out : List ℕ) (end j n r : ℕ) → j < end → r ≡ n / 10 ^ j → out ≡ sets l (end - j) (last_digits j n) → set out (end - 1 - j) (48 + r % 10) ≡ sets l (end - (j + 1)) (last_digits (j + 1) n)
digit_more l out end j n r h e w =
    let i : ℕ = end - (j + 1) in
    let p : end - 1 - j ≡ i = omega arith in
    let q : end - j ≡ suc i = omega arith in
    ap (λ (m : ℕ). set out m (48 + r % 10)) p
    ∙ ap (λ (m : List ℕ). set m i (48 + r % 10)) (w ∙ ap (λ (m : ℕ). sets l m (last_digits j n)) q)
    ∙ one_more l (last_digits j n) i (48 + r % 10)
    ∙ ap (λ (m : List ℕ). sets l i m) (sym (next_digits n j r e))

pub decimal_length : (n : ℕ) → length (decimal n) ≡ digit_count n
unfolding decimal
decimal_length n = digits_length (digit_count n) n

module _ (l : List ℕ) (at : ℕ) (ts : List ℕ) where
  pub fits : at + length ts ≤ length l → record { next = at + length ts; bytes = sets l at ts } ≡ placed l at ts
  unfolding placed
  fits h = sym (cond_true (leb (at + length ts) (length l)) (record { next = at + length ts; bytes = sets l at ts }) (record { next = at; bytes = l }) (le-leb _ _ h))

  pub no_room : leb (at + length ts) (length l) ≡ false → record { next = at; bytes = l } ≡ placed l at ts
  unfolding placed
  no_room e = sym (cond_false (leb (at + length ts) (length l)) (record { next = at + length ts; bytes = sets l at ts }) (record { next = at; bytes = l }) e)

  pub too_long : length l < at + length ts → record { next = at; bytes = l } ≡ placed l at ts
  unfolding placed
  too_long h = sym (cond_false (leb (at + length ts) (length l)) (record { next = at + length ts; bytes = sets l at ts }) (record { next = at; bytes = l }) (lt-leb _ _ h))

pub decimal_fits : (l out : List ℕ) (at k n : ℕ) → k ≡ digit_count n → at + k ≤ length l → out ≡ sets l (at + k - k) (last_digits k n) → record { next = at + k; bytes = out } ≡ placed l at (decimal n)
unfolding decimal
decimal_fits l out at k n e h w =
    let m : at + k - k ≡ at = omega arith in
    let p : out ≡ sets l at (decimal n) = w ∙ ap (λ (i : ℕ). sets l i (last_digits k n)) m ∙ ap (λ (i : ℕ). sets l at (last_digits i n)) e in
    let q : at + k ≡ at + length (decimal n) = ap (λ (i : ℕ). at + i) (e ∙ sym (decimal_length n)) in
    ap (λ (i : ℕ). record { next = i; bytes = out }) q
    ∙ ap (λ (b : List ℕ). record { next = at + length (decimal n); bytes = b }) p
    ∙ fits l at (decimal n) (omega (arith, q))

-- a text copied over the bytes from a place on
pub stored : (l out : List ℕ) (at : ℕ) (ts : List ℕ) → at + length ts ≤ length l → out ≡ ts → put_mid at (at + length ts - at) l out ≡ sets l at ts
stored l out at ts h e =
    let n : at + length ts - at ≡ length ts = omega arith in
    rw (e, n, drop-drop (length ts) at l) (sym (sets-eq ts l at h ∙ append_assoc (take at l) ts (drop (at + length ts) l)))

pub copied : (l out : List ℕ) (at : ℕ) (ts : List ℕ) → at + length ts ≤ length l → out ≡ ts → record { next = at + length ts; bytes = put_mid at (at + length ts - at) l out } ≡ placed l at ts
copied l out at ts h e = rw (stored l out at ts h e) (fits l at ts h)

-- the next place is in the lent bytes where the one before is, and the bytes are as many
pub placed_within : (l : List ℕ) (at : ℕ) (ts : List ℕ) (r : ℕ) (o : List ℕ) → record { next = r; bytes = o } ≡ placed l at ts → at ≤ length l → (r ≤ length o) × (length o ≡ length l)
unfolding placed
placed_within l at ts r o e h = go (leb (at + length ts) (length l)) refl
  where
    go : (t : Bool) → leb (at + length ts) (length l) ≡ t → (r ≤ length o) × (length o ≡ length l)
    go true is =
        let p : ◌≡◌ {A = Placed} (record { next = r; bytes = o }) (record { next = at + length ts; bytes = sets l at ts }) = rw is at e in
        let long : length o ≡ length l = ap (λ (x : Placed). length x.bytes) p ∙ length-sets l at ts in
        (omega (arith, ap (λ (x : Placed). x.next) p, leb-true (at + length ts) (length l) is), long)
    go false is =
        let p : ◌≡◌ {A = Placed} (record { next = r; bytes = o }) (record { next = at; bytes = l }) = rw is at e in
        let long : length o ≡ length l = ap (λ (x : Placed). length x.bytes) p in
        (omega (arith, ap (λ (x : Placed). x.next) p), long)
