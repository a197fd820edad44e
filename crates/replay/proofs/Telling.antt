-- Laws of the replay's loop over its account: where it stands after a part. Assumes nothing.
use Rattle.std.proofs.Common.{◌≡◌, ℕ, suc, ◌+◌, ◌≤◌, List, length, take, drop, sym, refl, ap, ◌∙◌, subst, add-one, length-take-le}
use lib.Seq.{length-sets}
use Rattle.tablefile.specs.BigEndian.{AreBytes}
use Rattle.intake.specs.declared.Next.TheVariants.{GoesOn}
use Rattle.replay_text.specs.Lines.{text_of, line_room}
use Rattle.line.specs.declared.Ran.{Ran}
use Rattle.replay_account.specs.declared.Account.{Account}
use Rattle.replay_account.specs.declared.Part.{Part}
use Rattle.replay_account.specs.Account.{account_of, lines_of, part_of, PutPart, put_as, lines_put, part_put}
use Rattle.replay_account.specs.Promises.{MayTell}
use Rattle.replay_account.proofs.Promises.{begin_stands, lines_are_short, last_is_short, part_within, part_stands}

-- before the part of a number, from a line on: the program may put it, and the buffer is as long as it was
pub record Telling (a : Account) (answers picked moments out₀ : List ℕ) (turn from : ℕ) (out : List ℕ) : Type 0 where
  pub may : MayTell (length out) (lines_of a answers picked moments) turn from
  pub long : length out ≡ length out₀

pub begins : (a : Account) (answers picked moments out : List ℕ) → Telling a answers picked moments out 0 0 out
begins a answers picked moments out = record { may = begin_stands (length out) (lines_of a answers picked moments); long = refl }

-- what a part wrote is in the buffer
pub part_inside : (a : Account) (answers picked moments : List ℕ) (k : ℕ) (out o : List ℕ) (r : Part) → AreBytes answers → length (text_of a.last) ≤ line_room
    → record { part = r; out = o } ≡ part_put a answers picked moments k out → r.written ≤ length out
part_inside a answers picked moments k out o r bytes short e =
    subst (λ (x : PutPart). x.part.written ≤ length out) (sym e) (part_within a answers picked moments k out (lines_are_short a answers picked moments bytes short)).0

-- and the buffer is as long as it was
pub part_long : (a : Account) (answers picked moments : List ℕ) (k : ℕ) (out o : List ℕ) (r : Part) → record { part = r; out = o } ≡ part_put a answers picked moments k out → length o ≡ length out
unfolding part_put lines_put put_as
part_long a answers picked moments k out o r e =
    ap (λ (x : PutPart). length x.out) e ∙ length-sets out 0 (part_of (length out) (drop k (lines_of a answers picked moments))).text

module _ (a : Account) (answers picked moments : List ℕ) (turn k : ℕ) (out o : List ℕ) (r : Part) (e : record { part = r; out = o } ≡ part_put a answers picked moments k out) where
  pub goes_on : (out₀ : List ℕ) → length o ≡ length out → Telling a answers picked moments out₀ turn k out → r.next ≡ GoesOn → Telling a answers picked moments out₀ (turn + 1) r.line o
  goes_on out₀ same t q =
      let s = (part_stands a answers picked moments turn k out t.may).0 (ap (λ (x : PutPart). x.part.next) (sym e) ∙ q) in
      let here : MayTell (length out) (lines_of a answers picked moments) (suc turn) r.line =
      subst (λ (x : PutPart). MayTell (length out) (lines_of a answers picked moments) (suc turn) x.part.line) (sym e) s in
      record {
        may =
            subst (λ (n : ℕ). MayTell (length o) (lines_of a answers picked moments) n r.line) (sym (add-one turn))
            (subst (λ (n : ℕ). MayTell n (lines_of a answers picked moments) (suc turn) r.line) (sym same) here);
        long = same ∙ t.long;
      }

pub counts : (n : ℕ) (l : List ℕ) → n ≤ length l → n ≡ length (take n l)
counts n l h = sym (length-take-le n l h)

-- the last line of a run's account
pub last_short : (ran : Ran) (a : Account) → a ≡ account_of ran → length (text_of a.last) ≤ line_room
last_short ran a e = subst (λ (x : Account). length (text_of x.last) ≤ line_room) (sym e) (last_is_short ran)
