-- The account of a run. Document 01 asks for the run; no sentence of it stands here.
-- a is the account, k the number of a line, ns the answers' numbers, hs the handles and ms the moments of picks, room the lent bytes that are left.
use Rattle.std.specs.Prelude.{ℕ, zero, suc, ◌+◌, ◌-◌, cond, List, [], ◌∷◌, ◌++◌, leb, length, take, drop}
use Rattle.std.proofs.lemmas.List.Edits.{sets}
use Rattle.quantity.specs.Kinds.{ticks}
use Rattle.event.specs.Next.{stop_number}
use Rattle.event.specs.declared.Stop.{Stop}
use Rattle.event.specs.declared.Stop.TheVariants as stop
use Rattle.line.specs.declared.Ran.{Ran}
use Rattle.intake.specs.declared.Next.{Next}
use Rattle.intake.specs.declared.Next.TheVariants.{GoesOn, Ends, Fails}
use Rattle.replay_text.specs.Lines.{text_of, line_room}
use Rattle.replay_text.specs.declared.Line.{Line}
use Rattle.replay_text.specs.declared.Line.TheVariants as line
use Rattle.replay_account.specs.declared.Account.{Account}
use Rattle.replay_account.specs.declared.Part.{Part}

-- ---- what there is to tell of a run

-- of one that is refused: no frame, no pick, and the number
unfoldable pub account_refused : Ran → Account
account_refused r = record { frames = 0; picks = 0; last = line.Refused (stop_number r.stop) }

-- of any other: the frames up to the next arrival, the picks, and how it stopped
unfoldable pub account_stopped : Ran → Account
account_stopped r = record {
  frames = r.next;
  picks = r.picks;
  last = line.Stop (stop_number r.stop) r.next r.free r.events r.picks;
}

-- by the stop
unfoldable pub account_by : Stop → Ran → Account
account_by stop.Done r = account_stopped r
account_by stop.BudgetSpent r = account_stopped r
account_by stop.TooLate r = account_stopped r
account_by stop.PicksFull r = account_stopped r
account_by (stop.Refused why) r = account_refused r

-- of a run
unfoldable pub account_of : Ran → Account
account_of r = account_by r.stop r

-- ---- its lines

-- the answers, each with its place; the first one's is k
unfoldable pub answer_lines : ℕ → List ℕ → List Line
answer_lines k [] = []
answer_lines k (n ∷ ns) = line.Answer k n ∷ answer_lines (k + 1) ns

-- the picks, each a handle and a moment, as far as both lists go
unfoldable pub pick_lines : List ℕ → List ℕ → List Line
pick_lines [] ms = []
pick_lines (h ∷ hs) [] = []
pick_lines (h ∷ hs) (m ∷ ms) = line.Pick h (ticks m) ∷ pick_lines hs ms

-- the answers to the frames, the picks, and the last line, as far as the lists go
unfoldable pub lines_of : Account → List ℕ → List ℕ → List ℕ → List Line
lines_of a answers picked moments = answer_lines 0 (take a.frames answers) ++ (pick_lines (take a.picks picked) moments ++ (a.last ∷ []))

-- the texts of lines, one after the other
unfoldable pub told : List Line → List ℕ
told [] = []
told (x ∷ xs) = text_of x ++ told xs

-- the whole account
unfoldable pub account_text : Account → List ℕ → List ℕ → List ℕ → List ℕ
account_text a answers picked moments = told (lines_of a answers picked moments)

-- ---- a part of it

-- so many lines from the front, and their text
pub record Fitting : Type 0 where
  pub count : ℕ
  pub text : List ℕ

-- none of them
unfoldable pub no_line : Fitting
no_line = record { count = 0; text = [] }

-- a line more in front
unfoldable pub onto : List ℕ → Fitting → Fitting
onto text x = record { count = suc x.count; text = text ++ x.text }

-- the lines that have room: each is put where a longest line has room in what is left
unfoldable pub part_of : ℕ → List Line → Fitting
part_of room [] = no_line
part_of room (x ∷ xs) = cond (leb line_room room) (onto (text_of x) (part_of (room - length (text_of x)) xs)) no_line

-- what comes next, by how many lines were put and which are left: the end where none is left, and a failure where none was put though some are left
unfoldable pub next_by : ℕ → List Line → Next
next_by put [] = Ends
next_by zero (x ∷ left) = Fails
next_by (suc put) (x ∷ left) = GoesOn

-- the call's answer, and the lent bytes after it
pub record PutPart : Type 0 where
  pub part : Part
  pub out : List ℕ

-- so many of the lines were put from the number k on: their text stands at the front of the lent bytes, and the others stay
unfoldable pub put_as : List Line → ℕ → List ℕ → Fitting → PutPart
put_as lines k out x = record {
  part = record { line = k + x.count; written = length x.text; next = next_by x.count (drop (k + x.count) lines) };
  out = sets out 0 x.text;
}

-- the lines from the number k on, as far as they have room
unfoldable pub lines_put : List Line → ℕ → List ℕ → PutPart
lines_put lines k out = put_as lines k out (part_of (length out) (drop k lines))

-- the account's lines from the number k on, as far as they have room; past the last there is none
unfoldable pub part_put : Account → List ℕ → List ℕ → List ℕ → ℕ → List ℕ → PutPart
part_put a answers picked moments k out = lines_put (lines_of a answers picked moments) k out
