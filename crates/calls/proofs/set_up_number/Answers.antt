-- `calls::set_up_number` meets its contract. Assumes nothing.
use mathlib.Core.Path.{sym, ap, ◌∙◌}
use Rattle.calls.specs.Numbers.{set_up_number}
use Rattle.calls.proofs.set_up_number.Goals as goal

pub returns-in-Ok : goal.returns-in-Ok
unfolding set_up_number
returns-in-Ok c = sym (ap set_up_number c.in-Ok.is)

pub returns-in-Err : goal.returns-in-Err
unfolding set_up_number
returns-in-Err c = c.refusal_number.ensures ∙ sym (ap set_up_number c.in-Err.is)
