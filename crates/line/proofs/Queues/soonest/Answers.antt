-- `line::Queues::soonest` meets its contract: what was looked at gives the smallest so far. Assumes nothing.
use mathlib.Core.Path.{refl}
use native.Mathlib.Omega.{arith}
use Rattle.line.proofs.Searches.{soon_below, soon_next, soon_none, soon_some}
use Rattle.line.proofs.Queues.soonest.Goals as goal

pub loop-first-init : goal.loop-first-init
unfolding soon_below
loop-first-init c = refl

pub loop-first-preserved : goal.loop-first-preserved
loop-first-preserved c = soon_next _ _ _ _ c.loop-first.invariant c.min-soon.ensures

pub returns-then-soon : goal.returns-then-soon
returns-then-soon c = soon_none _ _ c.args.self.now.keeps _ _ (omega arith) c.loop-first.invariant c.if-soon.true

pub returns : goal.returns
returns c = soon_some _ _ c.args.self.now.keeps _ _ (omega arith) c.loop-first.invariant c.if-soon.false
