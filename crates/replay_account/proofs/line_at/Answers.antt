-- `replay_account::line_at` meets its contract. Assumes nothing.
use native.Mathlib.Omega.{arith}
use Rattle.replay_account.proofs.Lines.{answer_line, pick_line, last_line}
use Rattle.replay_account.proofs.line_at.Goals as goal

pub returns-then-k-frames : goal.returns-then-k-frames
returns-then-k-frames c =
    let a = c.args in answer_line a.account a.answers.now a.picked.now a.moments.now c.requires a.k (omega arith) (omega (arith, c.shared_slice_known-1.given c.args.k))

pub returns-then-i-account : goal.returns-then-i-account
returns-then-i-account c =
    let a = c.args in pick_line a.account a.answers.now a.picked.now a.moments.now c.requires a.k (omega arith) (omega arith)

pub returns : goal.returns
returns c =
    let a = c.args in last_line a.account a.answers.now a.picked.now a.moments.now c.requires a.k (omega arith) (omega arith)
