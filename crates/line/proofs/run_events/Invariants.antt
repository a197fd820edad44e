-- `line::run_events` meets its contract: each turn of the loop is an event of the definition. Assumes nothing.
use Prim.Native.Nat.{◌-◌}
use Rattle.line.proofs.Turns.{Running}
use Rattle.line.proofs.run_events.Given as goal

abbrev pub invariant-loop-stop : goal.invariant-loop-stop
invariant-loop-stop l =
    let i = l.initial in
    Running (record { arrivals = l.arrivals; ids = l.ids; octets = l.octets; rate = l.rate.0 }) l.budget
    (record { bridge = i.bridge; waiting = i.queues.waiting; next = i.next; free = i.free_at; events = i.events; picks = i.picks; answers = i.answers; picked = i.picked; moments = i.moments })
    (record { bridge = l.bridge; waiting = l.queues.waiting; next = l.next; free = l.free_at; events = l.events; picks = l.picks; answers = l.answers; picked = l.picked; moments = l.moments })

abbrev pub decreases-loop-stop : goal.decreases-loop-stop
decreases-loop-stop l = l.budget - l.events
