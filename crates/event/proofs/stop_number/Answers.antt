-- `event::stop_number` meets its contract: each arm has the stop that led there. Assumes nothing.
use mathlib.Core.Path.{sym, ap, ◌∙◌}
use Rattle.event.specs.Next.{stop_number}
use Rattle.event.proofs.stop_number.Goals as goal

pub returns-in-Done : goal.returns-in-Done
unfolding stop_number
returns-in-Done c = ap stop_number (sym c.in-Done.is)

pub returns-in-BudgetSpent : goal.returns-in-BudgetSpent
unfolding stop_number
returns-in-BudgetSpent c = ap stop_number (sym c.in-BudgetSpent.is)

pub returns-in-TooLate : goal.returns-in-TooLate
unfolding stop_number
returns-in-TooLate c = ap stop_number (sym c.in-TooLate.is)

pub returns-in-PicksFull : goal.returns-in-PicksFull
unfolding stop_number
returns-in-PicksFull c = ap stop_number (sym c.in-PicksFull.is)

pub returns-in-Refused : goal.returns-in-Refused
unfolding stop_number
returns-in-Refused c = c.refusal_number.ensures ∙ ap stop_number (sym c.in-Refused.is)
