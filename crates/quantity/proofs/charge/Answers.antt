-- `quantity::charge` meets its contract. Assumes nothing.
use mathlib.Core.Path.{refl}
use Rattle.quantity.specs.Charge.{charged_bits}
use Rattle.quantity.proofs.charge.Goals as goal

pub returns : goal.returns
unfolding charged_bits
returns c = refl
