-- Laws of whether a turn can be made. Assumes nothing.
use mathlib.Core.Path.{◌≡◌}
use mathlib.Core.Bool.{true}
use Prim.Native.Nat.{ℕ, ◌+◌, ◌≤◌, ◌<◌}
use borrow.Author.Tests.{ltb-true, leb-true, lt-ltb, le-leb}
use lib.Dec.{ltb, leb}
use Rattle.quantity.proofs.Booleans.{both}
use Rattle.text.specs.Numeral.{most}
use Rattle.intake.specs.Holding.{Within, is_within}
use Rattle.intake.specs.declared.Held.{Held}
use Rattle.intake.proofs.Promises.{is_within_law, within_is}
use Rattle.replay_text.specs.Lines.{line_room}
use Rattle.replay_turn.specs.Turns.{countable, buffers_fit}

pub record Fitting (h : Held) (size n : ℕ) : Type 0 where
  pub within : Within h size
  pub room : line_room ≤ n

pub fitting : (h : Held) (size room : ℕ) → buffers_fit h size room ≡ true → Fitting h size room
unfolding buffers_fit
fitting h size room e =
    let p = both (is_within h size) (leb line_room room) e in
    record { within = is_within_law h size p.0; room = leb-true line_room room p.1 }

pub are_fit : (h : Held) (size room : ℕ) → Within h size → line_room ≤ room → buffers_fit h size room ≡ true
unfolding buffers_fit
are_fit h size room w k = rw (within_is h size w, le-leb line_room room k)

pub record Counting (m k n : ℕ) : Type 0 where
  pub records : m + n < most
  pub bytes : k + n ≤ most

pub counting : (records bytes n : ℕ) → countable records bytes n ≡ true → Counting records bytes n
unfolding countable
counting records bytes n e =
    let p = both (ltb (records + n) most) (leb (bytes + n) most) e in
    record { records = ltb-true (records + n) most p.0; bytes = leb-true (bytes + n) most p.1 }

pub can_count : (records bytes n : ℕ) → records + n < most → bytes + n ≤ most → countable records bytes n ≡ true
unfolding countable
can_count records bytes n h k = rw (lt-ltb (records + n) most h, le-leb (bytes + n) most k)
