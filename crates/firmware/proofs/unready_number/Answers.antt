-- `firmware::unready_number` meets its contract. Assumes nothing.
use mathlib.Core.Path.{ap, ◌∙◌}
use Rattle.records.specs.Numbers.{answer_number}
use Rattle.firmware.proofs.unready_number.Goals as goal

pub returns : goal.returns
unfolding answer_number
returns c = c.answer_number.ensures ∙ ap answer_number c.unready.ensures
