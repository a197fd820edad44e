-- `figures::entered_number` meets its contract: an entering's answer is numbered as a set-up's. Assumes nothing.
use Rattle.std.proofs.Common.{◌≡◌, refl, ◌∙◌, Result, Ok, Err}
use Rattle.quantity.specs.declared.Refusal.{Refusal}
use Rattle.calls.specs.Numbers.{set_up_number}
use Rattle.waiting.specs.Answers.{entered_number}
use Rattle.figures.proofs.entered_number.Goals as goal

one_number : (a : Result (Unit {0}) Refusal) → set_up_number a ≡ entered_number a
unfolding set_up_number
one_number (Ok done) = refl
one_number (Err why) = refl

pub returns : goal.returns
returns c = c.set_up_number.ensures ∙ one_number c.args.answer
