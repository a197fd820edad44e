-- `firsts::smallest_time` meets its contract: the smallest time of the classes passed. Assumes nothing.
use mathlib.Core.Path.{◌≡◌}
use Rattle.firsts.specs.Firsts.{smallest_below}
use Rattle.firsts.proofs.smallest_time.Given as goal

abbrev pub invariant-loop-class : goal.invariant-loop-class
invariant-loop-class l = l.least ≡ smallest_below l.waiting.times l.waiting.fills l.class
