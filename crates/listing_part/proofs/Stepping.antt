-- Laws of the listing's steps: where it goes on and where it ends, and what a step says of the record that was found. Assumes nothing.
use mathlib.Core.Path.{◌≡◌, refl, sym, ap, ◌∙◌}
use mathlib.Core.Bool.{Bool, true, false, cond}
use mathlib.Core.List.{[], ◌∷◌}
use Prim.Native.Nat.{ℕ, ◌≤◌, ◌<◌}
use native.Mathlib.Omega.{arith}
use lib.Dec.{ltb, leb}
use lib.ListN.{get_or}
use borrow.Author.Tests.{lt-ltb, le-ltb, ltb-true, le-leb, lt-leb, leb-true}
use Rattle.quantity.proofs.Booleans.{both, and_false, cond_true, cond_false}
use Rattle.tablefile.specs.Layout.{mark, kind_of}
use Rattle.tablefile.specs.declared.Record.{Record}
use Rattle.tablefile.specs.declared.Record.TheVariants as made
use Rattle.tablefile.specs.declared.Reading.{Reading}
use Rattle.tablefile.specs.declared.Reading.TheVariants.{Found, NothingLeft, Refused}
use Rattle.listing_text.specs.Places.{line_room, most_lines}
use Rattle.listing_part.specs.Parts.{Part, may_go_on, going_on}
use Rattle.listing_part.specs.Steps.{next_step}
use Rattle.listing_part.specs.declared.Step.{Step}
use Rattle.listing_part.specs.declared.Step.TheVariants.{Ends, Goes}

-- ---- whether it may go on

module _ (n room : ℕ) where
  may_not_fit : room < line_room → may_go_on n room ≡ false
  unfolding may_go_on
  may_not_fit h = rw (lt-leb line_room room h)

  may_not_count : most_lines ≤ n → may_go_on n room ≡ false
  unfolding may_go_on
  may_not_count h = rw (le-ltb n most_lines h) (and_false (leb line_room room))

  may : line_room ≤ room → n < most_lines → may_go_on n room ≡ true
  unfolding may_go_on
  may h k = rw (le-leb line_room room h, lt-ltb n most_lines k)

  pub may_means : may_go_on n room ≡ true → (line_room ≤ room) × (n < most_lines)
  unfolding may_go_on
  may_means e =
      let w = both (leb line_room room) (ltb n most_lines) e in
      (leb-true line_room room w.0, ltb-true n most_lines w.1)

-- ---- the returns of next_step

module _ (x : Reading) (r : Record) (next n room : ℕ) (found : x ≡ Found r next) where
  ends_if : may_go_on n room ≡ false → Ends (Found r next) ≡ next_step x n room
  unfolding next_step
  ends_if e = sym (ap (λ (y : Reading). next_step y n room) found ∙ cond_false (may_go_on n room) (Goes r next) (Ends (Found r next)) e)

  pub no_room : room < line_room → Ends (Found r next) ≡ next_step x n room
  no_room h = ends_if (may_not_fit n room h)

  pub no_number : most_lines ≤ n → Ends (Found r next) ≡ next_step x n room
  no_number h = ends_if (may_not_count n room h)

  pub goes : line_room ≤ room → n < most_lines → Goes r next ≡ next_step x n room
  unfolding next_step
  goes h k = sym (ap (λ (y : Reading). next_step y n room) found ∙ cond_true (may_go_on n room) (Goes r next) (Ends (Found r next)) (may n room h k))

-- ---- from a step to what was found

record_in : Record → Step → Record
record_in r (Ends x) = r
record_in r (Goes q to) = q

next_in : Step → ℕ
next_in (Ends x) = 0
next_in (Goes r to) = to

is_going : Step → Bool
is_going (Ends x) = false
is_going (Goes r to) = true

-- this record was found, a line has room and its number fits
pub record Going (x : Reading) (n room : ℕ) (made : Record) (to : ℕ) : Type 0 where
  pub found : x ≡ Found made to
  pub roomy : line_room ≤ room
  pub counts : n < most_lines

differ : {A : Type 0} → true ≡ false → A
differ e = let z : ◌≡◌ {A = ℕ} 0 1 = cc in absurd (omega arith)

module _ (n room : ℕ) where
  pub going : (x : Reading) (r : Record) (to : ℕ) → Goes r to ≡ next_step x n room → Going x n room r to
  unfolding next_step record_in next_in is_going
  going (Found q next) r to e = go (may_go_on n room) refl e
    where
      go : (t : Bool) → may_go_on n room ≡ t → Goes r to ≡ cond t (Goes q next) (Ends (Found q next)) → Going (Found q next) n room r to
      go true h e = record {
        found = sym (ap (λ (s : Step). Found (record_in r s) (next_in s)) e);
        roomy = (may_means n room h).0;
        counts = (may_means n room h).1;
      }
      go false h e = differ (ap is_going e)
  going NothingLeft r to e = differ (ap is_going e)
  going (Refused why) r to e = differ (ap is_going e)

  -- where it ends, it stops with what the reader gave
  ended_with : Step → Reading → Reading
  ended_with (Ends y) x = y
  ended_with (Goes r to) x = x

  pub ended : (x y : Reading) → Ends y ≡ next_step x n room → (y ≡ x) × ((stop : Part) (go : Record → ℕ → Part) → going_on x (may_go_on n room) stop go ≡ stop)
  unfolding next_step going_on ended_with is_going
  ended (Found r next) y e = turns (may_go_on n room) e
    where
      turns : (t : Bool) → Ends y ≡ cond t (Goes r next) (Ends (Found r next)) → (y ≡ Found r next) × ((stop : Part) (go : Record → ℕ → Part) → going_on (Found r next) t stop go ≡ stop)
      turns true q = differ (sym (ap is_going q))
      turns false q = (ap (λ (s : Step). ended_with s y) q, λ stop go. refl)
  ended NothingLeft y e = (ap (λ (s : Step). ended_with s y) e, λ stop go. refl)
  ended (Refused why) y e = (ap (λ (s : Step). ended_with s y) e, λ stop go. refl)

  pub goes_on : (r : Record) (next : ℕ) → line_room ≤ room → n < most_lines → (stop : Part) (go : Record → ℕ → Part) → going_on (Found r next) (may_go_on n room) stop go ≡ go r next
  unfolding going_on
  goes_on r next h k stop go = rw (may n room h k)

-- ---- letters

pub mark_letters : (r : Record) → get_or (mark (kind_of r)) 0 0 ∷ get_or (mark (kind_of r)) 1 0 ∷ [] ≡ mark (kind_of r)
mark_letters (made.Group i c M) = refl
mark_letters (made.GroupDefault i c) = refl
mark_letters (made.Stream i k r u) = refl
mark_letters (made.Frame i n A) = refl
