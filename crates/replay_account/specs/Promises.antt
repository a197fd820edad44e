-- What is promised of an account in parts beside the contracts.
-- Each statement has a name here, and its proof under the same name in the file Promises of proofs/.
use Rattle.std.specs.Prelude.{ℕ, suc, ◌+◌, ◌≤◌, ◌<◌, ◌≡◌, List, [], ◌∷◌, length, drop}
use Rattle.std.proofs.lemmas.List.Edits.{sets}
use Rattle.tablefile.specs.BigEndian.{AreBytes}
use Rattle.line.specs.declared.Ran.{Ran}
use Rattle.intake.specs.declared.Told.{Told}
use Rattle.intake.specs.declared.Told.TheVariants.{More}
use Rattle.intake.specs.declared.Next.TheVariants.{GoesOn, Ends}
use Rattle.intake.specs.Sessions.{ended, Stepping, session_of, MayTurn, HasEnded}
use Rattle.intake.specs.Promises.{Meaning, Right}
use Rattle.replay_text.specs.Lines.{text_of, line_room}
use Rattle.replay_text.specs.declared.Line.{Line}
use Rattle.replay_account.specs.declared.Account.{Account}
use Rattle.replay_account.specs.Account.{account_of, lines_of, told, account_text, part_of, next_by, part_put}

-- ---- the parts are the whole

-- a turn that puts lines into so many lent bytes: its state is the number of the next line, and it uses no input, whatever is held and said
unfoldable pub account_turn : ℕ → List Line → Stepping ℕ
account_turn size lines k held said = record {
  text = (part_of size (drop k lines)).text;
  state = k + (part_of size (drop k lines)).count;
  used = 0;
  next = next_by (part_of size (drop k lines)).count (drop (k + (part_of size (drop k lines)).count) lines);
}

-- from a line on: the texts of those that are left, and the number after the last of them
unfoldable pub lines_left : List Line → Meaning ℕ ℕ
lines_left lines k input = record { text = told (drop k lines); final = k + length (drop k lines) }

-- the turn is right: what it writes, and then what the lines that it leaves give, are what the lines from its number on give
abbrev pub TurnIsRight : Type 0
TurnIsRight = (size : ℕ) (lines : List Line) → Right (account_turn size lines) (λ k. k) (lines_left lines)

-- what the call gives is what the turn gives, with as many bytes as are lent to it
abbrev pub PartIsTurn : Type 0
PartIsTurn =
    (a : Account) (answers picked moments : List ℕ) (k : ℕ) (out held : List ℕ) (said : Told)
    → let t = account_turn (length out) (lines_of a answers picked moments) k held said in
    part_put a answers picked moments k out ≡ record { part = record { line = t.state; written = length t.text; next = t.next }; out = sets out 0 t.text }

-- with room for a longest line, a session of enough turns ends, and has written the whole account
abbrev pub AccountInParts : Type 0
AccountInParts =
    (a : Account) (answers picked moments : List ℕ) (size turns : ℕ) → line_room ≤ size
    → let lines = lines_of a answers picked moments in
    let o = session_of (account_turn size lines) turns 0 ended in
    length lines + 1 < turns
    → (o.close ≡ Ends) × (o.text ≡ account_text a answers picked moments) × (o.state ≡ length lines)

-- ---- within the lent bytes

-- no line is longer than the room for one
pub data AllShort : List Line → Type 0 where
  none : AllShort []
  and_one : {x : Line} {xs : List Line} → length (text_of x) ≤ line_room → AllShort xs → AllShort (x ∷ xs)

-- as in an account whose answers are bytes and whose last line is short
abbrev pub LinesAreShort : Type 0
LinesAreShort =
    (a : Account) (answers picked moments : List ℕ) → AreBytes answers → length (text_of a.last) ≤ line_room → AllShort (lines_of a answers picked moments)

-- as the last line of a run is
abbrev pub LastIsShort : Type 0
LastIsShort = (ran : Ran) → length (text_of (account_of ran).last) ≤ line_room

-- a part is within the lent bytes, and these stay as many
abbrev pub PartWithin : Type 0
PartWithin =
    (a : Account) (answers picked moments : List ℕ) (k : ℕ) (out : List ℕ) → AllShort (lines_of a answers picked moments)
    → let x = part_put a answers picked moments k out in
    (x.part.written ≤ length out) × (length x.out ≡ length out)

-- ---- the program

-- it may put the part of this number, from the line k on, into so many bytes
unfoldable pub MayTell : ℕ → List Line → ℕ → ℕ → Type 0
MayTell size lines n k = MayTurn (account_turn size lines) 0 n k [] More

-- it may begin with the first line
abbrev pub BeginStands : Type 0
BeginStands = (size : ℕ) (lines : List Line) → MayTell size lines 0 0

-- a part lets it put the next, or end, by what it says comes next
abbrev pub PartStands : Type 0
PartStands =
    (a : Account) (answers picked moments : List ℕ) (n k : ℕ) (out : List ℕ)
    → let lines = lines_of a answers picked moments in
    let x = (part_put a answers picked moments k out).part in
    MayTell (length out) lines n k
    → (x.next ≡ GoesOn → MayTell (length out) lines (suc n) x.line) × (x.next ≡ Ends → HasEnded (account_turn (length out) lines) 0 n x.line)
