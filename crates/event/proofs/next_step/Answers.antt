-- `event::next_step` meets its contract. Assumes nothing.
use Rattle.event.proofs.Steps.{nothing_arrives, nothing_left, arrives_first, picks_first}
use Rattle.event.proofs.next_step.Goals as goal

pub returns-then-next-arrivals : goal.returns-then-next-arrivals
returns-then-next-arrivals c = nothing_arrives _ _ _ _ _ _ _ _ _ c.in-None.is c.if-next-arrivals.true c.arrival_step.ensures

pub returns-then-arrives : goal.returns-then-arrives
returns-then-arrives c = arrives_first _ _ _ _ _ _ _ _ _ _ c.in-Some.is _ c.max-moment.ensures _ c.arrives.ensures c.if-arrives.true c.arrival_step-then-arrives.ensures

pub returns-else-next-arrivals : goal.returns-else-next-arrivals
returns-else-next-arrivals c = nothing_left _ _ _ _ _ _ _ _ c.in-None.is c.if-next-arrivals.false

pub returns-else-arrives : goal.returns-else-arrives
returns-else-arrives c = picks_first _ _ _ _ _ _ _ _ _ _ c.in-Some.is _ c.max-moment.ensures _ c.arrives.ensures c.if-arrives.false c.pick_step.ensures
