-- What the private steps give. No sentence of the document stands here.
-- a is the account, k the number of a line, lines how many there are.
use Rattle.std.specs.Prelude.{ℕ, ◌≤◌, min, ◌≡◌, cond, List, leb, length, get_or}
use Rattle.intake.specs.declared.Next.{Next}
use Rattle.intake.specs.declared.Next.TheVariants.{GoesOn, Ends, Fails}
use Rattle.replay_text.specs.Lines.{text_of, line_room}
use Rattle.replay_text.specs.declared.Line.{Line}
use Rattle.replay_account.specs.Account.{lines_of}
use Rattle.replay_account.specs.declared.Account.{Account}

-- no more frames and picks than lists of these lengths hold
unfoldable pub shown_of : Account → ℕ → ℕ → ℕ → Account
shown_of a answers picked moments = record { frames = min a.frames answers; picks = min (min a.picks picked) moments; last = a.last }

-- the frames and the picks are in lists of these lengths, and the last line is no longer than the room for one
pub record Within (a : Account) (answers picked moments : ℕ) : Type 0 where
  pub answered : a.frames ≤ answers
  pub handled : a.picks ≤ picked
  pub timed : a.picks ≤ moments
  pub short : length (text_of a.last) ≤ line_room

-- the line of a number, which is no longer than the room for one; the last line from its number on
pub record LineAt (a : Account) (answers picked moments : List ℕ) (k : ℕ) (x : Line) : Type 0 where
  pub is : x ≡ get_or (lines_of a answers picked moments) k a.last
  pub short : length (text_of x) ≤ line_room

-- after the lines from the one number up to the other
unfoldable pub next_after : ℕ → ℕ → ℕ → Next
next_after from k lines = cond (leb lines k) Ends (cond (leb k from) Fails GoesOn)
