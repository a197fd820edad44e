-- The promises of the listing's text, proved: each theorem has the name of its statement in specs/Promises. Assumes nothing.
use mathlib.Core.Path.{refl, ap}
use mathlib.Core.List.{[], ◌∷◌}
use Prim.Native.Nat.{ℕ, ◌+◌, ◌≤◌}
use native.Mathlib.Omega.{arith}
use lib.ListN.{length, length-append}
use Rattle.quantity.specs.Numbers.{number_of}
use Rattle.tablefile.specs.Answers.{nothing_left, reading_number}
use Rattle.tablefile.specs.declared.Reading.{Reading}
use Rattle.tablefile.specs.declared.Reading.TheVariants.{Found, NothingLeft, Refused}
use Rattle.listing_text.specs.Lines.{dash, line_of, end_line, ending}
use Rattle.listing_text.specs.Places.{line_room, end_room, may_end, end_put}
use Rattle.listing_text.specs.Promises.{EndWithin}
use Rattle.quantity.proofs.Refusals.{refusal_number}
use Rattle.listing_text.proofs.Texts.{line_short, end_line_short}
use Rattle.listing_text.proofs.Placing.{where-within}
use Rattle.listing_text.proofs.Endings.{plain_ending, refused_ending, may_end_law}

ending_short : (n : ℕ) (x : Reading) → length (ending n (reading_number x)) ≤ line_room + end_room
ending_short n (Found r next) = omega (arith, ap length (plain_ending n 0 (omega arith)), end_line_short n)
ending_short n NothingLeft = omega (arith, ap length (plain_ending n nothing_left (omega arith)), end_line_short n)
ending_short n (Refused why) =
    let e = number_of why in
    let line = line_of (n + 1) (dash ∷ dash ∷ []) e [] in
    omega (arith, ap length (refused_ending n e why refl), length-append line (end_line (n + 1)), line_short (n + 1) (dash ∷ dash ∷ []) e [] refl (refusal_number why).1, end_line_short (n + 1))

pub end_within : EndWithin
unfolding end_put
end_within l at n x h = where-within (may_end n at (length l)) l at (ending n (reading_number x)) h (λ e. omega (arith, may_end_law n at (length l) e, ending_short n x))
