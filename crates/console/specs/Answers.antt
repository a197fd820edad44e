-- What is made of the system's answers. No sentence of document 01 stands here.
-- h is what is held, l the buffer, got what a call answered, e an error's number, after the buffer after it.
use Rattle.std.specs.Prelude.{ℕ, Bool, false, cond, ◌||◌, List, ◌++◌, Result, Ok, Err, eqb, ℤ, pos, negsuc, length, take, drop}
use Rattle.intake.specs.Holding.{came_in}
use Rattle.intake.specs.declared.Held.{Held}
use Rattle.intake.specs.declared.Unread.{Unread}
use Rattle.intake.specs.declared.Unread.TheVariants.{Waits, Fails}
use Rattle.console.specs.declared.Came.{Came}

-- the errors after which a call may be made again: interrupted (EINTR, 4), and not ready (EAGAIN, 11)
unfoldable pub only_waits : ℤ → Bool
only_waits (pos e) = eqb e 4 || eqb e 11
only_waits (negsuc e) = false

-- why a reading that failed so brought nothing
abbrev pub unread_by : ℤ → Unread
unread_by e = cond (only_waits e) Waits Fails

-- what a reading that answered so has brought
abbrev pub brought : Result ℕ ℤ → Result ℕ Unread
brought (Ok n) = Ok n
brought (Err e) = Err (unread_by e)

-- what a reading gives, and the buffer after it
pub record Read : Type 0 where
  pub came : Came
  pub bytes : List ℕ

-- the system's answer, what is held by it, and the buffer: the bytes up to the place that was filled are those that were there, and behind it stands what the system left
unfoldable pub read_behind : Held → List ℕ → Result ℕ ℤ → List ℕ → Read
read_behind h l got after = record {
  came = record { got = got; held = came_in h (brought got) (length l) };
  bytes = take h.filled l ++ drop h.filled after;
}
