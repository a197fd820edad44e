-- The promises of an account in parts, proved: each theorem has the name of its statement in specs/Promises. Assumes nothing.
use mathlib.Core.Path.{◌≡◌, refl, sym, ap, ◌∙◌, subst}
use mathlib.Core.List.{List, [], ◌∷◌, ◌++◌, append-nil}
use Prim.Native.Nat.{ℕ, suc, ◌+◌, ◌-◌, ◌≤◌, ◌<◌}
use native.Mathlib.Nat.{add-zero, zero-add}
use native.Mathlib.Omega.{arith}
use lib.ListN.{length, take, drop, length-drop, take-append-drop}
use lib.Seq.{length-sets, drop-drop}
use Rattle.quantity.specs.Kinds.{ticks}
use Rattle.tablefile.specs.BigEndian.{AreBytes}
use Rattle.intake.specs.Sessions.{ended, at_its_end, bytes_of, readings, at_first}
use Rattle.intake.specs.declared.Told.TheVariants.{More}
use Rattle.intake.specs.Promises.{Given, following, Moves}
use Rattle.intake.proofs.Bytes.{bytes_front}
use Rattle.intake.proofs.Promises.{all_of_it, comes_to_its_end, turn_stands}
use Rattle.replay_text.specs.Lines.{line_room}
use Rattle.replay_text.specs.declared.Line.{Line}
use Rattle.replay_text.specs.declared.Line.TheVariants.{Answer, Pick}
use Rattle.replay_text.proofs.Lengths.{no_longer}
use Rattle.replay_account.specs.Account.{answer_lines, pick_lines, lines_of, told, account_text, part_of, PutPart, put_as, lines_put, part_put}
use Rattle.replay_account.specs.Promises.{account_turn, lines_left, TurnIsRight, PartIsTurn, AccountInParts, AllShort, none, and_one, LinesAreShort, LastIsShort, PartWithin, MayTell, BeginStands, PartStands}
use Rattle.replay_account.proofs.Parts.{then_the_rest, no_more_lines, some_put, text_within, short_behind, short_both, on_means, never_reads, end_means, failure_means}
use Rattle.replay_account.proofs.Runs.{last_short}

-- ---- the parts are the whole

-- a text and n lines: the texts of what is left are the text, and then those of what is left behind the n lines
module _ (lines : List Line) (k : ℕ) (text : List ℕ) (n : ℕ) where
  same_number : n ≤ length (drop k lines) → k + length (drop k lines) ≡ k + n + length (drop (k + n) lines)
  same_number h = omega (arith, length-drop k lines, length-drop (k + n) lines)

  same_text : told (drop k lines) ≡ text ++ told (drop n (drop k lines)) → told (drop k lines) ≡ text ++ told (drop (k + n) lines)
  same_text e = e ∙ ap (λ (l : List Line). text ++ told l) (drop-drop n k lines)

  and_then : told (drop k lines) ≡ text ++ told (drop n (drop k lines)) → n ≤ length (drop k lines) → lines_left lines k [] ≡ following text (lines_left lines (k + n) [])
  unfolding lines_left following
  and_then e h = rw (sym (same_text e), sym (same_number h))

-- what a turn writes, and then what is left after it
after_turn : (size : ℕ) (lines : List Line) (k : ℕ)
    → lines_left lines k [] ≡ following (part_of size (drop k lines)).text (lines_left lines (k + (part_of size (drop k lines)).count) [])
after_turn size lines k =
    and_then lines k (part_of size (drop k lines)).text (part_of size (drop k lines)).count (then_the_rest size (drop k lines)) (no_more_lines size (drop k lines))

-- a text with nothing left behind it
to_the_end : (text : List ℕ) (k : ℕ) (lines : List Line) → drop k lines ≡ [] → following text (lines_left lines k []) ≡ record { text = text; final = k }
unfolding following lines_left told
to_the_end text k lines e =
    ap (λ (l : List Line). record { text = text ++ told l; final = k + length l }) e
    ∙ ap (λ (l : List ℕ). record { text = l; final = k + 0 }) (append-nil text)
    ∙ ap (λ (m : ℕ). record { text = text; final = m }) (add-zero k)

pub turn_is_right : TurnIsRight
unfolding account_turn lines_left
turn_is_right size lines = record {
  on = λ k held said after h n. after_turn size lines k;
  last = λ k held said after h g none_after e.
      after_turn size lines k ∙ to_the_end (part_of size (drop k lines)).text (k + (part_of size (drop k lines)).count) lines (end_means _ _ e);
}

pub part_is_turn : PartIsTurn
unfolding part_put lines_put put_as account_turn
part_is_turn a answers picked moments k out held said = refl

-- what of a session is still to be done: the lines that are left
turn_moves : (size : ℕ) (lines : List Line) → line_room ≤ size → Moves (account_turn size lines) (λ k n. Unit {0}) (λ k. length lines - k)
unfolding account_turn
turn_moves size lines h = record {
  goes = λ k held said n b s e.
      let p = on_means _ _ e in (omega (arith, p.0, p.1, length-drop (k + (part_of size (drop k lines)).count) lines), tt);
  reads = λ k held said n b s e. absurd (never_reads _ _ e);
  fails = λ k held said n b s e.
      let p = failure_means _ _ e in
      let some_left : 0 < length (drop k lines) = omega (arith, p.0, p.1, length-drop (k + (part_of size (drop k lines)).count) lines, length-drop k lines) in
      absurd (omega (arith, p.0, some_put size (drop k lines) h some_left));
}

pub account_in_parts : AccountInParts
unfolding bytes_of readings lines_left account_text
account_in_parts a answers picked moments size turns h enough =
    let lines = lines_of a answers picked moments in
    let ends = comes_to_its_end ℕ (account_turn size lines) (λ k n. Unit {0}) (λ k. length lines - k) (turn_moves size lines h) turns 0 ended (λ i. omega arith) at_its_end tt (omega arith) in
    let all = all_of_it ℕ ℕ (account_turn size lines) (λ k. k) (lines_left lines) (turn_is_right size lines) turns 0 ended (λ i. omega arith) ends in
    (ends, sym (ap (λ (g : Given ℕ). g.text) all), sym (ap (λ (g : Given ℕ). g.final) all) ∙ zero-add (length lines))

-- ---- within the lent bytes

answers_short : (k : ℕ) (ns : List ℕ) → AreBytes ns → AllShort (answer_lines k ns)
unfolding answer_lines
answers_short k [] b = none
answers_short k (n ∷ ns) b = and_one (no_longer (Answer k n) (omega (arith, b 0))) (answers_short (k + 1) ns (λ i. b (suc i)))

picks_short : (hs ms : List ℕ) → AllShort (pick_lines hs ms)
unfolding pick_lines
picks_short [] ms = none
picks_short (h ∷ hs) [] = none
picks_short (h ∷ hs) (m ∷ ms) = and_one (no_longer (Pick h (ticks m)) (omega arith)) (picks_short hs ms)

bytes_first : (n : ℕ) (l : List ℕ) → AreBytes l → AreBytes (take n l)
bytes_first n l b = bytes_front (take n l) (drop n l) (subst AreBytes (sym (take-append-drop n l)) b)

pub lines_are_short : LinesAreShort
unfolding lines_of
lines_are_short a answers picked moments b s =
    short_both (answers_short 0 (take a.frames answers) (bytes_first a.frames answers b)) (short_both (picks_short (take a.picks picked) moments) (and_one s none))

pub last_is_short : LastIsShort
last_is_short ran = last_short ran

pub part_within : PartWithin
unfolding part_put lines_put put_as
part_within a answers picked moments k out s =
    (text_within (length out) (short_behind k s), length-sets out 0 (part_of (length out) (drop k (lines_of a answers picked moments))).text)

-- ---- the program

pub begin_stands : BeginStands
unfolding MayTell
begin_stands size lines = record { read = []; text = []; stands = at_first }

pub part_stands : PartStands
unfolding MayTell account_turn
part_stands a answers picked moments n k out may =
    let lines = lines_of a answers picked moments in
    let p = part_is_turn a answers picked moments k out [] More in
    let next = ap (λ (x : PutPart). x.part.next) (sym p) in
    let t = turn_stands ℕ (account_turn (length out) lines) 0 n k [] More may _ [] More (ap (λ (x : PutPart). x.part.line) p) refl refl in
    (λ e. t.goes (next ∙ e), λ e. t.ends (next ∙ e))
