-- `firsts::smallest_time` meets its contract: the smallest time of the classes passed. Assumes nothing.
use native.Mathlib.Omega.{arith}
use Rattle.firsts.proofs.Firsts.{smallest_start, smallest_goes, smallest_done}
use Rattle.firsts.proofs.smallest_time.Goals as goal

pub loop-class-init : goal.loop-class-init
loop-class-init c = smallest_start _ _ 0

pub loop-class-preserved : goal.loop-class-preserved
loop-class-preserved c =
    smallest_goes _ _ _ _ _ _ c.loop-class.invariant c.first_least.ensures c.smaller_of-least.ensures

pub returns : goal.returns
returns c = smallest_done _ _ _ _ (omega arith) c.loop-class.invariant
