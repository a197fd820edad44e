-- Laws of texts that are put where they may be: what was put, and that it is within the lent bytes. Assumes nothing.
use mathlib.Core.Path.{◌≡◌, refl, sym, ap, ◌∙◌}
use mathlib.Core.Bool.{Bool, true, false}
use mathlib.Core.List.{List, [], ◌∷◌}
use Prim.Native.Nat.{ℕ, ◌+◌, ◌≤◌}
use lib.ListN.{length, get_or}
use lib.Seq.{sets, length-sets}
use borrow.Author.Tests.{le-leb}
use Rattle.quantity.proofs.Booleans.{cond_true, cond_false}
use Rattle.text.specs.Places.{Placed}
use Rattle.listing_text.specs.Lines.{values_of, line_of}
use Rattle.listing_text.specs.Places.{line_room, put_where, line_put}
use Rattle.listing_text.specs.Steps.{Put}
use Rattle.listing_text.specs.declared.Answered.{Answered}

module _ {may : Bool} (l : List ℕ) (at : ℕ) (ts : List ℕ) where
  was_put : may ≡ true → put_where may l at ts ≡ record { next = at + length ts; bytes = sets l at ts }
  unfolding put_where
  was_put e = cond_true may (record { next = at + length ts; bytes = sets l at ts }) (record { next = at; bytes = l }) e

  pub stays : may ≡ false → record { next = at; bytes = l } ≡ put_where may l at ts
  unfolding put_where
  stays e = sym (cond_false may (record { next = at + length ts; bytes = sets l at ts }) (record { next = at; bytes = l }) e)

  pub puts : {next : ℕ} {o : List ℕ} → may ≡ true → Put l at ts next o → record { next = next; bytes = o } ≡ put_where may l at ts
  puts {next} {o} e p =
      ap (λ (i : ℕ). record { next = i; bytes = o }) p.ends
      ∙ ap (λ (b : List ℕ). record { next = at + length ts; bytes = b }) p.stands
      ∙ sym (was_put e)

  pub is_put : {next : ℕ} {o : List ℕ} → may ≡ true → record { next = next; bytes = o } ≡ put_where may l at ts → Put l at ts next o
  is_put e w = let p = w ∙ was_put e in record { ends = ap (λ (x : Placed). x.next) p; stands = ap (λ (x : Placed). x.bytes) p }

pub where-within : (may : Bool) (l : List ℕ) (at : ℕ) (ts : List ℕ) → at ≤ length l → (may ≡ true → at + length ts ≤ length l)
    → ((put_where may l at ts).next ≤ length l) × (length (put_where may l at ts).bytes ≡ length l)
unfolding put_where
where-within true l at ts h fits = (fits refl, length-sets l at ts)
where-within false l at ts h fits = (h, refl)

-- ---- a line

-- where a longest line has room
pub line_is_put : (l : List ℕ) (at n : ℕ) (letters : List ℕ) (a : Answered) {next : ℕ} {o : List ℕ} → at + line_room ≤ length l → record { next = next; bytes = o } ≡ line_put l at n letters a
    → Put l at (line_of n (get_or letters 0 0 ∷ get_or letters 1 0 ∷ []) a.number (values_of a.time)) next o
unfolding line_put
line_is_put l at n letters a h e = is_put l at _ (le-leb (at + line_room) (length l) h) e
