-- Laws of a line and of a note that are put part by part. Assumes nothing.
use mathlib.Core.Path.{◌≡◌, refl, sym, ap, ◌∙◌}
use mathlib.Core.Bool.{Bool, true, false, cond}
use mathlib.Core.List.{List, []}
use Prim.Native.Nat.{ℕ, ◌+◌, ◌≤◌}
use native.Mathlib.Omega.{arith}
use borrow.Author.Tests.{leb-true}
use Rattle.std.specs.Prelude.{Option, None, Some}
use lib.Dec.{leb}
use lib.ListN.{length}
use Rattle.quantity.proofs.Booleans.{cond_true, cond_false}
use Rattle.text.specs.Places.{Placed, placed}
use Rattle.text.specs.Puts.{joined, puts}
use Rattle.text.proofs.Stores.{placed_within}
use Rattle.text.proofs.Putting.{puts_fit}
use Rattle.replay_text.specs.declared.Line.{Line}
use Rattle.replay_text.specs.Lines.{parts_of, text_of, line_room, line_put}
use Rattle.replay_text.specs.declared.Note.{Note}
use Rattle.replay_text.specs.Notes.{note_parts_of, note_text, note_put}
use Rattle.replay_text.proofs.Lengths.{number_of, no_longer, note_number, no_note_longer}

-- ---- a text is put where the longest line has room

module _ (l : List ℕ) (at : ℕ) where
  where_room : List ℕ → Placed
  where_room ts = cond (leb (at + line_room) (length l)) (placed l at ts) (record { next = at; bytes = l })

  kept : (ts : List ℕ) → leb (at + line_room) (length l) ≡ false → record { next = at; bytes = l } ≡ where_room ts
  unfolding where_room
  kept ts h = sym (cond_false (leb (at + line_room) (length l)) (placed l at ts) (record { next = at; bytes = l }) h)

  put : (parts : List (List ℕ)) (x : Placed) → leb (at + line_room) (length l) ≡ true → length (joined parts) ≤ line_room → x ≡ puts l at parts → x ≡ where_room (joined parts)
  unfolding where_room
  put parts x h short e =
      e
      ∙ puts_fit parts l at (omega (arith, leb-true (at + line_room) (length l) h))
      ∙ sym (cond_true (leb (at + line_room) (length l)) (placed l at (joined parts)) (record { next = at; bytes = l }) h)

  -- the next place is in the lent bytes where the one before is, and the bytes are as many
  within : (ts : List ℕ) (r : ℕ) (o : List ℕ) → record { next = r; bytes = o } ≡ where_room ts → at ≤ length l → (r ≤ length o) × (length o ≡ length l)
  unfolding where_room
  within ts r o e h = go (leb (at + line_room) (length l)) e
    where
      go : (t : Bool) → record { next = r; bytes = o } ≡ cond t (placed l at ts) (record { next = at; bytes = l }) → (r ≤ length o) × (length o ≡ length l)
      go true e = placed_within l at ts r o e h
      go false e = (omega (arith, ap (λ (x : Placed). x.next) e, ap (λ (x : Placed). length x.bytes) e), ap (λ (x : Placed). length x.bytes) e)

-- ---- a line, and a note: put by its kind, part by part

module _ (l : List ℕ) (at : ℕ) (line : Line) where
  pub no_room : leb (at + line_room) (length l) ≡ false → record { next = at; bytes = l } ≡ line_put l at line
  unfolding line_put where_room
  no_room h = kept l at (text_of line) h

  pub room : (kind : Line) (x : Placed) → leb (at + line_room) (length l) ≡ true → line ≡ kind → number_of kind ≤ 255 → x ≡ puts l at (parts_of kind) → x ≡ line_put l at line
  unfolding line_put where_room text_of
  room kind x h is small e = put l at (parts_of kind) x h (no_longer kind small) e ∙ ap (λ (k : Line). line_put l at k) (sym is)

  pub line_within : (r : ℕ) (o : List ℕ) → record { next = r; bytes = o } ≡ line_put l at line → at ≤ length l → (r ≤ length o) × (length o ≡ length l)
  unfolding line_put where_room
  line_within r o e h = within l at (text_of line) r o e h

module _ (l : List ℕ) (at : ℕ) (note : Option Note) where
  pub no_room_noted : leb (at + line_room) (length l) ≡ false → record { next = at; bytes = l } ≡ note_put l at note
  unfolding note_put where_room
  no_room_noted h = kept l at (note_text note) h

  pub noted : (x y : Note) (o : Placed) → leb (at + line_room) (length l) ≡ true → note ≡ Some y → y ≡ x → note_number (Some x) ≤ 255 → o ≡ puts l at (note_parts_of x) → o ≡ note_put l at note
  unfolding note_put where_room note_text
  noted x y o h is kind small e = put l at (note_parts_of x) o h (no_note_longer (Some x) small) e ∙ ap (λ (k : Option Note). note_put l at k) (sym (is ∙ ap Some kind))

  pub none_noted : leb (at + line_room) (length l) ≡ true → note ≡ None → record { next = at; bytes = l } ≡ note_put l at note
  unfolding note_put where_room note_text puts joined
  none_noted h is = put l at [] _ h (omega arith) refl ∙ ap (λ (k : Option Note). note_put l at k) (sym is)

  pub note_within : (r : ℕ) (o : List ℕ) → record { next = r; bytes = o } ≡ note_put l at note → at ≤ length l → (r ≤ length o) × (length o ≡ length l)
  unfolding note_put where_room
  note_within r o e h = within l at (note_text note) r o e h
