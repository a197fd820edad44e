-- `line::Queues::enqueue` meets its contract. Assumes nothing.
use Rattle.line.proofs.Noting.{full_gives, full_keeps, in_gives, lower_keeps, stay_keeps}
use Rattle.line.proofs.Queues.enqueue.Goals as goal

pub invariant_of-self : goal.invariant_of-self
invariant_of-self c = record { keeps = full_keeps _ _ _ c.args.self.now.keeps c.requires _ _ c.put.ensures c.if-not-put.true }

pub returns-then-not-put : goal.returns-then-not-put
returns-then-not-put c = full_gives _ _ _ c.args.self.now.keeps c.requires _ _ c.put.ensures c.if-not-put.true

pub invariant_of-self-then-entry-self : goal.invariant_of-self-then-entry-self
invariant_of-self-then-entry-self c = record { keeps = lower_keeps _ _ _ c.args.self.now.keeps c.requires _ _ c.put.ensures c.if-not-put.false c.if-entry-self.true }

pub invariant_of-self-else-entry-self : goal.invariant_of-self-else-entry-self
invariant_of-self-else-entry-self c = record { keeps = stay_keeps _ _ _ c.args.self.now.keeps c.requires _ _ c.put.ensures c.if-not-put.false c.if-entry-self.false }

pub returns-then-entry-self : goal.returns-then-entry-self
returns-then-entry-self c = in_gives _ _ _ c.args.self.now.keeps c.requires _ _ c.put.ensures c.if-not-put.false

pub returns-else-entry-self : goal.returns-else-entry-self
returns-else-entry-self c = in_gives _ _ _ c.args.self.now.keeps c.requires _ _ c.put.ensures c.if-not-put.false
