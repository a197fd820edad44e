-- `line::hand_on` meets its contract. Assumes nothing.
use Rattle.line.specs.Run.{handed}
use mathlib.Core.Path.{ap}
use Rattle.quantity.specs.declared.Bits.{Bits}
use Rattle.line.proofs.hand_on.Goals as goal

pub returns : goal.returns
unfolding handed
returns c = ap (λ (L : Bits). record { class = c.args.group.class; entry = record { handle = c.args.place; time = c.args.time; bits = L } }) c.charge.ensures
