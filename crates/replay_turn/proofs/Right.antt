-- A turn is right: what it says and what its state gives for the rest are what the whole gives. Assumes nothing.
use Rattle.std.specs.Prelude.{Option, None, Some}
use mathlib.Core.Path.{◌≡◌, refl, sym, ap, ◌∙◌}
use mathlib.Core.Bool.{true, false}
use mathlib.Core.List.{List, [], ◌++◌, append-nil}
use Prim.Native.Nat.{ℕ, ◌+◌, ◌≤◌}
use native.Mathlib.Nat.{add-zero}
use native.Mathlib.Omega.{arith}
use borrow.Author.Tests.{ne_eqb}
use lib.Dec.{ltb, eqb}
use lib.ListN.{length, drop}
use Rattle.quantity.specs.Numbers.{number_of}
use Rattle.quantity.specs.declared.Refusal.{Refusal}
use Rattle.quantity.specs.declared.Ticks.{Ticks}
use Rattle.quantity.proofs.Booleans.{cond_false}
use Rattle.quantity.proofs.Refusals.{refusal_number}
use Rattle.tablefile.specs.Answers.{nothing_left}
use Rattle.tablefile.specs.BigEndian.{AreBytes}
use Rattle.tablefile.specs.declared.Record.TheVariants.{Frame}
use Rattle.tablefile.specs.declared.Reading.TheVariants as reading
use Rattle.reader.specs.Reader.{read_at}
use Rattle.intake.specs.Promises.{following}
use Rattle.intake.specs.declared.Told.{Told}
use Rattle.intake.specs.declared.Told.TheVariants.{Ended}
use Rattle.intake.specs.declared.Next.TheVariants.{Ends}
use Rattle.replay_gathering.specs.Gathering.{State, Outcome, begun}
use Rattle.replay_gathering.specs.declared.End.{End}
use Rattle.replay_gathering.specs.declared.End.TheVariants.{ListsFull}
use Rattle.replay_gathering.proofs.Parts.{resumed}
use Rattle.replay_text.specs.Notes.{note_text}
use Rattle.replay_text.specs.declared.Note.{Note}
use Rattle.replay_text.specs.declared.Note.TheVariants as note
use Rattle.replay_turn.specs.Gathered.{Yard, frames, ends_with, ended_at, taken, gathered_of}
use Rattle.replay_turn.specs.Turns.{next_of, unread_note, note_of, is_end, whole_by, Reached, gathering, reached_after, places_in, yard_of, final_of}
use Rattle.replay_turn.specs.Promises.{reading_on}
use Rattle.replay_turn.proofs.Places.{fewest, place_left}
use Rattle.replay_turn.proofs.Halts.{Halted, lists_full, says_nothing_left, says_unreadable}
use Rattle.reader.proofs.Further.{found_there, refused_there}
use Rattle.replay_turn.proofs.Meaning.{gathered_at, record_first, nothing_there, refused_there as refused_here, no_record_ends, rest_of, spoken, yard_in, nothing_before, gathering_goes}
use Rattle.replay_turn.proofs.Nexts.{Closed, at_the_end, cut_at_the_end, refused_for_good, no_place, note_on}
use Rattle.replay_turn.proofs.Turning.{gathering_halts}

-- ---- where a gathering ended

-- the whole ends there, where nothing follows, or where the reader refused it for good
module _ (most n before : ℕ) (y : Yard) (bytes : List ℕ) (p : ℕ) where
  whole_ends : read_at bytes p ≡ reading.NothingLeft → gathered_at most y n before bytes p ≡ ends_with None true y
  unfolding ended_at
  whole_ends e = no_record_ends most y n before bytes p nothing_there e

  unread_ends : (why : Refusal) → read_at bytes p ≡ reading.Refused why → gathered_at most y n before bytes p ≡ ends_with (Some (note.Unreadable (n + 1) (before + p) (number_of why))) false y
  unfolding ended_at
  unread_ends why e =
      no_record_ends most y n before bytes p (refused_here why) e
      ∙ cond_false (eqb (number_of why) nothing_left) (ends_with None true y) (ends_with (Some (note.Unreadable (n + 1) (before + p) (number_of why))) false y)
      (ne_eqb (number_of why) nothing_left (λ z. omega (arith, (refusal_number why).0)))

  full_ends : (i o : ℕ) (A : Ticks) (next : ℕ) → read_at bytes p ≡ reading.Found (Frame i o A) next → ltb (frames y) most ≡ false
      → gathered_at most y n before bytes p ≡ ends_with (Some note.TooManyFrames) false y
  unfolding taken
  full_ends i o A next e f = record_first most y n before bytes p (Frame i o A) next e ∙ cond_false (ltb (frames y) most) _ (ends_with (Some note.TooManyFrames) false y) f

module _ (n before : ℕ) (held after : List ℕ) (h : AreBytes held) (said : Told) (all : said ≡ Ended → after ≡ []) (r : State) (w : r.at ≤ length held) where
  alone : said ≡ Ended → held ++ after ≡ held
  alone q = ap (λ (l : List ℕ). held ++ l) (all q) ∙ append-nil held

  by_frame : Halted held 0 r ListsFull → gathered_at (fewest r) (yard_in r) n before (held ++ after) r.at ≡ ends_with (Some note.TooManyFrames) false (yard_in r)
  unfolding yard_in
  by_frame (lists_full i o A next e f) =
      full_ends (fewest r) n before (yard_in r) (held ++ after) r.at i o A next (found_there held after h r.at (Frame i o A) next e) (place_left r ∙ f)

  ends_by : {why : End} → Closed said why → Halted held 0 r why
      → gathered_at (fewest r) (yard_in r) n before (held ++ after) r.at ≡ ends_with (note_of why Ends n (before + r.at)) (whole_by why Ends) (yard_in r)
  unfolding note_of unread_note whole_by is_end
  ends_by (at_the_end q) k = whole_ends (fewest r) n before (yard_in r) (held ++ after) r.at (ap (λ (l : List ℕ). read_at l r.at) (alone q) ∙ says_nothing_left held k)
  ends_by (cut_at_the_end why q) k =
      unread_ends (fewest r) n before (yard_in r) (held ++ after) r.at why (ap (λ (l : List ℕ). read_at l r.at) (alone q) ∙ says_unreadable held k)
  ends_by (refused_for_good why m) k =
      unread_ends (fewest r) n before (yard_in r) (held ++ after) r.at why (refused_there why m held after r.at w (says_unreadable held k))
  ends_by no_place k = by_frame k

-- why it ends is no set-up that was refused
ends_silent : {why : End} {said : Told} (n : ℕ) → Closed said why → spoken why n ≡ None
unfolding spoken
ends_silent n (at_the_end q) = refl
ends_silent n (cut_at_the_end why q) = refl
ends_silent n (refused_for_good why m) = refl
ends_silent n no_place = refl

-- ---- the turn

module _ (s : Reached) (held : List ℕ) (said : Told) (after : List ℕ) (h : AreBytes held) where
  abbrev g : Outcome
  g = gathering s held

  -- what the whole gives: what the gathering says, and then what stands where it ended
  whole_goes : reading_on s (held ++ after)
      ≡ following (note_text (spoken g.gathered.why (s.records + g.gathered.records)))
      (gathered_at (fewest (resumed g)) (yard_in (resumed g)) (s.records + g.gathered.records) s.bytes (held ++ after) g.gathered.at)
  unfolding reading_on gathering begun gathered_at places_in yard_of yard_in
  whole_goes =
      ap (λ (k : ℕ). gathered_of (places_in s) (yard_of s) k s.bytes _) (sym (add-zero s.records))
      ∙ gathering_goes s.records s.bytes held after h (begun s.bridge s.arrivals s.ids s.octets s.count) (omega arith)

  pub on_right : (next_of g.gathered.why said ≡ Ends → ⊥)
      → let x = next_of g.gathered.why said in
      reading_on s (held ++ after)
      ≡ following (note_text (note_of g.gathered.why x (s.records + g.gathered.records) (s.bytes + g.gathered.at)))
      (reading_on (reached_after s g x) (drop g.gathered.at held ++ after))
  unfolding reading_on reached_after places_in yard_of yard_in resumed gathered_at
  on_right unended =
      let why = g.gathered.why in
      let n = s.records + g.gathered.records in
      let at = g.gathered.at in
      let H = gathering_halts s held said in
      let x = next_of why said in
      whole_goes
      ∙ ap (following (note_text (spoken why n))) (rest_of (fewest (resumed g)) (yard_in (resumed g)) n s.bytes held after at H.inside)
      ∙ ap (λ (k : Option Note). following (note_text k) (reading_on (reached_after s g x) (drop at held ++ after))) (sym (note_on why said n (s.bytes + at) unended))

  pub last_right : (said ≡ Ended → after ≡ []) → Closed said g.gathered.why
      → reading_on s (held ++ after)
      ≡ record {
        text = note_text (note_of g.gathered.why Ends (s.records + g.gathered.records) (s.bytes + g.gathered.at));
        final = final_of (reached_after s g Ends);
      }
  unfolding reached_after final_of yard_of yard_in resumed ends_with begun
  last_right all c =
      let why = g.gathered.why in
      let n = s.records + g.gathered.records in
      let at = g.gathered.at in
      let H = gathering_halts s held said in
      whole_goes
      ∙ ap (λ (k : Option Note). following (note_text k) (gathered_at (fewest (resumed g)) (yard_in (resumed g)) n s.bytes (held ++ after) at)) (ends_silent n c)
      ∙ nothing_before (gathered_at (fewest (resumed g)) (yard_in (resumed g)) n s.bytes (held ++ after) at)
      ∙ ends_by n s.bytes held after h said all (resumed g) H.inside c H.halted
