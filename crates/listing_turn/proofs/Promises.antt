-- The promises of a session of turns, proved: each theorem has the name of its statement in specs/Promises. Assumes nothing.
use Rattle.std.proofs.Common.{◌≡◌, ℕ, ◌≤◌, Bool, true, false, cond, eqb, List, [], ◌++◌, length, drop, sym, refl, ap, ◌∙◌, append-nil, arith}
use borrow.Author.Tests.{eqb-false}
use Rattle.quantity.specs.Numbers.{number_of}
use Rattle.quantity.specs.declared.Refusal.{Refusal}
use Rattle.quantity.specs.declared.Refusal.TheVariants.{CutShort}
use Rattle.quantity.proofs.Refusals.{refusal_number}
use Rattle.tablefile.specs.Answers.{nothing_left, reading_number}
use Rattle.tablefile.specs.BigEndian.{AreBytes}
use Rattle.tablefile.specs.declared.Reading.{Reading}
use Rattle.tablefile.specs.declared.Reading.TheVariants.{Found, NothingLeft, Refused}
use Rattle.listing_text.specs.Lines.{ending}
use Rattle.listing_part.specs.Listing.{listing_from}
use Rattle.listing_part.specs.Parts.{part_of}
use Rattle.listing_part.proofs.Promises.{listing_in_parts, listing_to_its_end}
use Prim.{Unit, tt}
use Rattle.intake.specs.Promises.{Given, following}
use Rattle.intake.specs.declared.Told.{Told}
use Rattle.intake.specs.declared.Told.TheVariants.{More, Ended, Failed}
use Rattle.intake.specs.declared.Next.{Next}
use Rattle.intake.specs.declared.Next.TheVariants.{GoesOn, Reads, Ends, Fails}
use Rattle.intake.proofs.Promises as sessions
use Rattle.listing_turn.specs.Turns.{Reached, start, closing, at_edge, next_of, end_if, turn_of, list_turn}
use Rattle.listing_turn.specs.Promises.{listing_session, listing_on, nothing_else, MayCount, no_work, TurnIsRight, NoEndBeforeTheEnd, ListingOfAllReadings, ListingSoFar}
use Rattle.listing_turn.proofs.Nexts.{not_unended}
use Rattle.listing_turn.proofs.Settled.{ends_for_good}
use Rattle.listing_turn.proofs.Moving.{turn_moves}

-- a text and nothing beside it
given : List ℕ → Given (Unit {0})
given text = record { text = text; final = tt }

-- ---- a turn that goes on

no_text : (x : Next) (n : ℕ) (r : Reading) → (x ≡ Ends → ⊥) → end_if x n r ≡ []
unfolding end_if
no_text GoesOn n r h = refl
no_text Reads n r h = refl
no_text Ends n r h = absurd (h refl)
no_text Fails n r h = refl

-- ---- a turn that ends

-- why it ended: what was held is all that there is and no record is left in it, or the reader refused it for good
pub data Closed (x : Reading) (told : Told) : Type 0 where
  at_the_end : told ≡ Ended → nothing_left ≤ reading_number x → Closed x told
  for_good : (why : Refusal) → x ≡ Refused why → (number_of why ≡ number_of CutShort → ⊥) → Closed x told

at_edge_law : (x : Reading) (told : Told) (n at size : ℕ) → nothing_left ≤ reading_number x → at_edge told n at size ≡ Ends → Closed x told
unfolding at_edge
at_edge_law x More n at size h e = absurd (sessions.no_end refl e)
at_edge_law x Ended n at size h e = at_the_end refl h
at_edge_law x Failed n at size h e = absurd (sessions.no_end refl e)

closed : (x : Reading) (told : Told) (n at size : ℕ) → next_of x told n at size ≡ Ends → Closed x told
unfolding next_of
closed (Found r next) told n at size e = absurd (not_unended n e)
closed NothingLeft told n at size e = at_edge_law NothingLeft told n at size (omega arith) e
closed (Refused why) told n at size e = go (eqb (number_of why) (number_of CutShort)) refl e
  where
    go : (t : Bool) → eqb (number_of why) (number_of CutShort) ≡ t → cond t (at_edge told n at size) (closing n at size) ≡ Ends → Closed (Refused why) told
    go true q z = at_edge_law (Refused why) told n at size (omega (arith, (refusal_number why).0)) z
    go false q z = for_good why refl (eqb-false (number_of why) (number_of CutShort) q)

module _ (size : ℕ) (s : Reached) (held : List ℕ) (told : Told) (after : List ℕ) (h : AreBytes held) (k : AreBytes after) (all : told ≡ Ended → after ≡ []) where
  ends_by : Closed (part_of held size s.bridge s.count).reading told
      → let P = part_of held size s.bridge s.count in listing_from s.bridge s.count (held ++ after) ≡ P.text ++ ending P.count (reading_number P.reading)
  ends_by (at_the_end q m) =
      ap (λ (l : List ℕ). listing_from s.bridge s.count (held ++ l)) (all q)
      ∙ ap (listing_from s.bridge s.count) (append-nil held)
      ∙ listing_to_its_end held h size s.bridge s.count m
  ends_by (for_good why q m) =
      let P = part_of held size s.bridge s.count in
      ends_for_good held after h k size s.bridge s.count why q m
      ∙ ap (λ (x : Reading). P.text ++ ending P.count (reading_number x)) (sym q)

pub turn_is_right : TurnIsRight
unfolding list_turn turn_of listing_on nothing_else end_if following given
turn_is_right room = record {
  on = λ s held said after h n.
      let P = part_of held room s.bridge s.count in
      let x = next_of P.reading said P.count (length P.text) room in
      let text : P.text ++ end_if x P.count P.reading ≡ P.text = ap (λ (l : List ℕ). P.text ++ l) (no_text x P.count P.reading n) ∙ append-nil P.text in
      ap given (listing_in_parts held after h room s.bridge s.count
      ∙ ap (λ (l : List ℕ). l ++ listing_from P.bridge P.count (drop P.place held ++ after)) (sym text));
  last = λ s held said after h k all e.
      let P = part_of held room s.bridge s.count in
      let x = next_of P.reading said P.count (length P.text) room in
      ap given (ends_by room s held said after h k all (closed P.reading said P.count (length P.text) room e)
      ∙ ap (λ (y : Next). P.text ++ end_if y P.count P.reading) (sym e));
}

-- ---- the session

pub no_end_before_the_end : NoEndBeforeTheEnd
unfolding listing_session listing_on start
no_end_before_the_end room turns input h e =
    sym (ap (λ (g : Given (Unit {0})). g.text) (sessions.all_of_it Reached (Unit {0}) (list_turn room) nothing_else listing_on (turn_is_right room) turns start input h e))

pub listing_so_far : ListingSoFar
unfolding listing_session listing_on start following
listing_so_far room turns input h after n =
    ap (λ (g : Given (Unit {0})). g.text) (sessions.the_beginning Reached (Unit {0}) (list_turn room) nothing_else listing_on (turn_is_right room) turns start input h after n)

pub listing_of_all_readings : ListingOfAllReadings
unfolding listing_session start MayCount no_work
listing_of_all_readings room turns input h w wide few enough =
    let ends : (listing_session room turns input).close ≡ Ends =
    sessions.comes_to_its_end Reached (list_turn room) MayCount no_work (turn_moves room wide) turns start input h w (omega arith) (omega arith) in
    (ends, no_end_before_the_end room turns input h ends)
