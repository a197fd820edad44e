-- Laws of what comes next: where a listing ends, its end has room. Assumes nothing.
use Rattle.std.proofs.Common.{◌≡◌, ℕ, Bool, true, false, cond, eqb, ltb, refl}
use Rattle.listing_text.specs.Places.{most_lines, may_end}
use Rattle.intake.specs.declared.Next.TheVariants.{GoesOn, Ends, Fails}
use Rattle.quantity.specs.Numbers.{number_of}
use Rattle.quantity.specs.declared.Refusal.TheVariants.{CutShort}
use Rattle.tablefile.specs.declared.Reading.{Reading}
use Rattle.tablefile.specs.declared.Reading.TheVariants.{Found, NothingLeft, Refused}
use Rattle.intake.specs.declared.Told.{Told}
use Rattle.intake.specs.declared.Told.TheVariants.{More, Ended, Failed}
use Rattle.intake.proofs.Promises.{no_end}
use Rattle.listing_turn.specs.Turns.{unended, closing, at_edge, next_of}

-- ---- where it ends, the end has room and a line more can be counted

pub not_unended : (n : ℕ) → unended n ≡ Ends → ⊥
unfolding unended
not_unended n e = go (ltb n most_lines) e
  where
    go : (t : Bool) → cond t GoesOn Fails ≡ Ends → ⊥
    go true q = no_end refl q
    go false q = no_end refl q

closing_may : (n at size : ℕ) → closing n at size ≡ Ends → may_end n at size ≡ true
unfolding closing
closing_may n at size e = go (may_end n at size) e
  where
    go : (t : Bool) → cond t Ends (unended n) ≡ Ends → t ≡ true
    go true q = refl
    go false q = absurd (not_unended n q)

edge_may : (told : Told) (n at size : ℕ) → at_edge told n at size ≡ Ends → may_end n at size ≡ true
unfolding at_edge
edge_may More n at size e = absurd (no_end refl e)
edge_may Ended n at size e = closing_may n at size e
edge_may Failed n at size e = absurd (no_end refl e)

pub end_may : (x : Reading) (told : Told) (n at size : ℕ) → next_of x told n at size ≡ Ends → may_end n at size ≡ true
unfolding next_of
end_may (Found r next) told n at size e = absurd (not_unended n e)
end_may NothingLeft told n at size e = edge_may told n at size e
end_may (Refused why) told n at size e = go (eqb (number_of why) (number_of CutShort)) e
  where
    go : (t : Bool) → cond t (at_edge told n at size) (closing n at size) ≡ Ends → may_end n at size ≡ true
    go true q = edge_may told n at size q
    go false q = closing_may n at size q
