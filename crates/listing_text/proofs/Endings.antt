-- Laws of what ends a listing: a refusal has its line, and where the text may be put. Assumes nothing.
use mathlib.Core.Path.{◌≡◌, sym, ap, ◌∙◌}
use mathlib.Core.Bool.{true, false}
use mathlib.Core.List.{[], ◌∷◌, ◌++◌}
use Prim.Native.Nat.{ℕ, ◌+◌, ◌≤◌, ◌<◌}
use lib.Dec.{ltb, leb}
use borrow.Author.Tests.{lt-ltb, le-ltb, le-leb, leb-true}
use Rattle.quantity.specs.Numbers.{least_refusal, number_of}
use Rattle.quantity.specs.declared.Refusal.{Refusal}
use Rattle.quantity.proofs.Refusals.{refusal_number}
use Rattle.quantity.proofs.Booleans.{both, and_false, cond_true, cond_false}
use Rattle.listing_text.specs.Lines.{dash, line_of, end_line, ending}
use Rattle.listing_text.specs.Places.{line_room, end_room, most_lines, may_end}

-- ---- the text

pub plain_ending : (n e : ℕ) → e < least_refusal → ending n e ≡ end_line n
unfolding ending
plain_ending n e h = cond_true (ltb e least_refusal) (end_line n) (line_of (n + 1) (dash ∷ dash ∷ []) e [] ++ end_line (n + 1)) (lt-ltb e least_refusal h)

-- with the number that the code found
pub refused_ending : (n k : ℕ) (why : Refusal) → k ≡ number_of why → line_of (n + 1) (dash ∷ dash ∷ []) k [] ++ end_line (n + 1) ≡ ending n (number_of why)
unfolding ending
refused_ending n k why g =
    ap (λ (i : ℕ). line_of (n + 1) (dash ∷ dash ∷ []) i [] ++ end_line (n + 1)) g
    ∙ sym
    (cond_false (ltb (number_of why) least_refusal) (end_line n) (line_of (n + 1) (dash ∷ dash ∷ []) (number_of why) [] ++ end_line (n + 1))
    (le-ltb (number_of why) least_refusal (refusal_number why).0))

-- ---- where it is put

module _ (n at size : ℕ) where
  pub may_end_law : may_end n at size ≡ true → at + (line_room + end_room) ≤ size
  unfolding may_end
  may_end_law e = leb-true (at + (line_room + end_room)) size (both (leb (at + (line_room + end_room)) size) (ltb n most_lines) e).0

  pub no_room : leb (at + (line_room + end_room)) size ≡ false → may_end n at size ≡ false
  unfolding may_end
  no_room e = rw e

  pub no_number : most_lines ≤ n → may_end n at size ≡ false
  unfolding may_end
  no_number h = rw (le-ltb n most_lines h) (and_false (leb (at + (line_room + end_room)) size))

  pub may_be : at + (line_room + end_room) ≤ size → n < most_lines → may_end n at size ≡ true
  unfolding may_end
  may_be r h = rw (le-leb (at + (line_room + end_room)) size r, lt-ltb n most_lines h)
