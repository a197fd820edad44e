-- `line::sending_ticks` meets its contract. Assumes nothing.
use mathlib.Core.Path.{refl}
use native.Mathlib.Omega.{arith}
use Rattle.quantity.specs.declared.Item.TheVariants.{LineRate}
use Rattle.quantity.proofs.Ranges.{at_least, at_most}
use Rattle.line.specs.Run.{sending_ticks}
use Rattle.line.proofs.Sending.{sending_most}
use Rattle.line.proofs.sending_ticks.Goals as goal

pub overflow_sub-result : goal.overflow_sub-result
overflow_sub-result c = omega (arith, at_least LineRate _ c.requires.1)

pub overflow_add-result : goal.overflow_add-result
overflow_add-result c = omega (arith, at_most LineRate _ c.requires.1)

pub nonzero_div-result : goal.nonzero_div-result
nonzero_div-result c = omega (arith, at_least LineRate _ c.requires.1)

pub returns : goal.returns
unfolding sending_ticks
returns c = (refl, sending_most _ _ c.requires.1 c.requires.0)
