-- Laws of a turn over lists: what it uses is held, its text is no longer than a line, and the lists stay as long. Assumes nothing.
use mathlib.Core.Path.{◌≡◌, refl}
use mathlib.Core.Bool.{Bool, true, false, cond}
use mathlib.Core.List.{List}
use Prim.Native.Nat.{ℕ, ◌+◌, ◌≤◌}
use native.Mathlib.Omega.{arith}
use lib.ListN.{length}
use Rattle.quantity.specs.Numbers.{number_of}
use Rattle.quantity.proofs.Refusals.{refusal_number}
use Rattle.intake.specs.Sessions.{Turn}
use Rattle.intake.specs.declared.Told.{Told}
use Rattle.intake.specs.declared.Next.{Next}
use Rattle.intake.specs.declared.Next.TheVariants as next
use Rattle.replay_gathering.specs.Gathering.{State, begun}
use Rattle.replay_gathering.specs.declared.End.{End}
use Rattle.replay_gathering.specs.declared.End.TheVariants as end
use Rattle.replay_text.specs.Lines.{line_room}
use Rattle.replay_text.proofs.Lengths.{note_number, no_note_longer}
use Rattle.replay_turn.specs.Turns.{next_of, unread_note, note_of, Reached, countable, gathering, reached_after, turn_of, stuck, read_turn}
use Rattle.replay_turn.proofs.Halts.{Halts, halts}

-- ---- the note's number

unread_number : (x : Next) (n offset number : ℕ) → number ≤ 255 → note_number (unread_note x n offset number) ≤ 255
unfolding unread_note
unread_number next.GoesOn n offset number h = omega arith
unread_number next.Reads n offset number h = omega arith
unread_number next.Ends n offset number h = h
unread_number next.Fails n offset number h = omega arith

pub note_number_law : (why : End) (x : Next) (n offset : ℕ) → note_number (note_of why x n offset) ≤ 255
unfolding note_of
note_number_law end.NothingLeft x n offset = omega arith
note_number_law (end.Unreadable why) x n offset = unread_number x n offset (number_of why) (omega (arith, (refusal_number why).1))
note_number_law (end.NotSetUp why) x n offset = omega (arith, (refusal_number why).1)
note_number_law end.ListsFull x n offset = omega arith

-- ---- the turn, by whether all can be counted

module _ (s : Reached) (held : List ℕ) (told : Told) where
  -- how the gathering of what is held begins
  abbrev pub start : State
  start = begun s.bridge s.arrivals s.ids s.octets s.count

  abbrev pub turned : Turn Reached
  turned = turn_of s (gathering s held) (next_of (gathering s held).gathered.why told)

  pub by_count : (P : Turn Reached → Type 0) → (countable s.records s.bytes (length held) ≡ true → P turned) → (countable s.records s.bytes (length held) ≡ false → P (stuck s)) → P (read_turn s held told)
  unfolding read_turn
  by_count P counted uncounted = go (countable s.records s.bytes (length held)) refl
    where
      go : (t : Bool) → countable s.records s.bytes (length held) ≡ t → P (cond t turned (stuck s))
      go true e = counted e
      go false e = uncounted e

  pub gathering_halts : Halts held start (gathering s held)
  unfolding gathering begun
  gathering_halts = halts held start (omega arith)

-- what is true of every turn
pub record Keeping (s : Reached) (held : List ℕ) (t : Turn Reached) : Type 0 where
  pub used : t.used ≤ length held
  pub text : length t.text ≤ line_room
  pub arrivals_long : length t.state.arrivals ≡ length s.arrivals
  pub ids_long : length t.state.ids ≡ length s.ids
  pub octets_long : length t.state.octets ≡ length s.octets
  pub arrivals_taken : s.count ≤ length s.arrivals → t.state.count ≤ length s.arrivals
  pub ids_taken : s.count ≤ length s.ids → t.state.count ≤ length s.ids
  pub octets_taken : s.count ≤ length s.octets → t.state.count ≤ length s.octets

turned_keeps : (s : Reached) (held : List ℕ) (told : Told) → Keeping s held (turned s held told)
unfolding turn_of reached_after begun
turned_keeps s held told =
    let g = gathering s held in
    let x = next_of g.gathered.why told in
    let h = gathering_halts s held told in
    let note = note_of g.gathered.why x (s.records + g.gathered.records) (s.bytes + g.gathered.at) in
    record {
      used = h.inside;
      text = no_note_longer note (note_number_law g.gathered.why x (s.records + g.gathered.records) (s.bytes + g.gathered.at));
      arrivals_long = h.arrivals_long;
      ids_long = h.ids_long;
      octets_long = h.octets_long;
      arrivals_taken = h.arrivals_taken;
      ids_taken = h.ids_taken;
      octets_taken = h.octets_taken;
    }

stuck_keeps : (s : Reached) (held : List ℕ) → Keeping s held (stuck s)
unfolding stuck
stuck_keeps s held = record {
  used = omega arith;
  text = omega arith;
  arrivals_long = refl;
  ids_long = refl;
  octets_long = refl;
  arrivals_taken = λ c. c;
  ids_taken = λ c. c;
  octets_taken = λ c. c;
}

pub turn_keeps : (s : Reached) (held : List ℕ) (told : Told) → Keeping s held (read_turn s held told)
turn_keeps s held told = by_count s held told (Keeping s held) (λ e. turned_keeps s held told) (λ e. stuck_keeps s held)
