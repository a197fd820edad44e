-- `line::Queues::dequeue` meets its contract. Assumes nothing.
use mathlib.Core.Path.{sym, ap, ◌∙◌}
use Rattle.classes.specs.Calls.{picked_from}
use Rattle.classes.proofs.Calls.{pick_nothing, pick_from}
use Rattle.line.proofs.Noting.{due_class, left_keeps}
use Rattle.line.proofs.Queues.dequeue.Goals as goal

pub returns-in_default : goal.returns-in_default
returns-in_default c = pick_nothing _ _ _ c.args.self.now.keeps.sound c.due.ensures c.in_default.is

pub bounds-self-due : goal.bounds-self-due
bounds-self-due c = due_class _ _ c.args.self.now.keeps _ _ (sym c.due.ensures ∙ c.in-Some.is)

pub invariant_of-self : goal.invariant_of-self
invariant_of-self c = record { keeps = left_keeps _ _ c.args.self.now.keeps _ _ (sym c.due.ensures ∙ c.in-Some.is) _ c.take_out-left.ensures _ c.noted.ensures }

pub returns-in-Some-left : goal.returns-in-Some-left
returns-in-Some-left c =
    pick_from _ _ _ c.args.self.now.keeps.sound c.due.ensures _ _ _ c.in-Some.is c.take_out-left.ensures
    (ap (picked_from c.in-Some.due.class) (sym c.in-Some-left.is))

pub returns-in-None : goal.returns-in-None
returns-in-None c =
    pick_from _ _ _ c.args.self.now.keeps.sound c.due.ensures _ _ _ c.in-Some.is c.take_out-left.ensures
    (ap (picked_from c.in-Some.due.class) (sym c.in-None.is))
