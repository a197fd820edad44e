-- `records::answer_number` meets its contract, by cases on the answer. Assumes nothing.
use mathlib.Core.Path.{sym, ap, ◌∙◌}
use Rattle.records.specs.Numbers.{answer_number}
use Rattle.records.proofs.answer_number.Goals as goal

pub returns-in-Released : goal.returns-in-Released
unfolding answer_number
returns-in-Released c = sym (ap answer_number c.in-Released.is)

pub returns-in-Discarded : goal.returns-in-Discarded
unfolding answer_number
returns-in-Discarded c = sym (ap answer_number c.in-Discarded.is)

pub returns-in-Refused : goal.returns-in-Refused
unfolding answer_number
returns-in-Refused c = c.refusal_number.ensures ∙ sym (ap answer_number c.in-Refused.is)
