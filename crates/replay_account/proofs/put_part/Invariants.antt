-- `replay_account::put_part` meets its contract: each turn of the loop puts a line of the definition. Assumes nothing.
use Prim.Native.Nat.{◌-◌}
use Rattle.replay_account.specs.Account.{lines_of}
use Rattle.replay_account.proofs.Underway.{Underway}
use Rattle.replay_account.proofs.put_part.Given as goal

abbrev pub invariant-loop-told : goal.invariant-loop-told
invariant-loop-told l = Underway (lines_of l.told l.answers l.picked l.moments) l.initial.k l.initial.out l.k l.written l.out

abbrev pub decreases-loop-told : goal.decreases-loop-told
decreases-loop-told l = l.lines - l.k
