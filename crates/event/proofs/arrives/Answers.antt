-- `event::arrives` meets its contract. Assumes nothing.
use Rattle.event.proofs.Steps.{arrives_in, arrives_out}
use Rattle.event.proofs.arrives.Goals as goal

pub returns-then-next-arrivals : goal.returns-then-next-arrivals
returns-then-next-arrivals c = arrives_in _ _ _ c.if-next-arrivals.true

pub returns-else-next-arrivals : goal.returns-else-next-arrivals
returns-else-next-arrivals c = arrives_out _ _ _ c.if-next-arrivals.false
