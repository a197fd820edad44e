-- `event::arrival_step` meets its contract. Assumes nothing.
use Prim.Native.Nat.{◌<◌}
use native.Mathlib.Omega.{arith}
use borrow.Author.Tests.{lt-ltb, le-ltb}
use Rattle.event.specs.Next.{arrival_step}
use Rattle.event.proofs.arrival_step.Goals as goal

pub returns-then-left-gt0 : goal.returns-then-left-gt0
unfolding arrival_step
returns-then-left-gt0 c = simp (le-ltb _ _ c.if-left-gt0.true)

pub returns : goal.returns
unfolding arrival_step
returns c = let h : c.args.left < 1 = omega arith in simp (lt-ltb _ _ h)
