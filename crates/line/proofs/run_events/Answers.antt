-- `line::run_events` meets its contract: each turn of the loop is an event of the definition. Assumes nothing.
use mathlib.Core.Path.{refl, ap, ◌∙◌}
use Prim.Native.Nat.{◌-◌, ◌≤◌, ◌<◌}
use native.Mathlib.Omega.{arith}
use lib.ListN.{length}
use Rattle.quantity.specs.declared.Item.TheVariants.{PickMoment}
use Rattle.quantity.proofs.Ranges.{at_most}
use Rattle.event.proofs.Steps.{Picks}
use Rattle.places.specs.declared.Waiting.{Waiting}
use Rattle.line.specs.Run.{stopped, begun, run_for}
use Rattle.line.proofs.Turns.{starts, fits_open, turn, turn_ends, arrival_within, may_settle, turn_arrives, pick_within, some_leaves, leaves_light, turn_picks}
use Rattle.line.proofs.run_events.Goals as goal
use Rattle.line.proofs.run_events.Goals.{In-Arrival, In-Pick}

-- what an arrival as the next step says
arrival : (c : In-Arrival) → (1 ≤ c.args.budget - c.loop-stop.events) × (c.loop-stop.next < length c.args.arrivals.now)
arrival c = arrival_within (turn _ _ _ _ c.loop-stop.invariant _ c.soonest.ensures _ c.next_step-step.ensures) c.in-Arrival.is

-- what a pick as the next step says
picking : (c : In-Pick) → Picks (c.args.budget - c.loop-stop.events) c.loop-stop.picks (length c.loop-stop.picked) (length c.loop-stop.moments) c.in-Pick.moment.0
picking c = pick_within (turn _ _ _ _ c.loop-stop.invariant _ c.soonest.ensures _ c.next_step-step.ensures) _ c.in-Pick.is

pub loop-stop-init : goal.loop-stop-init
loop-stop-init c = starts _ _ _ refl (fits_open _ _ c.requires.0 c.requires.1.0)

pub returns-in-Ends : goal.returns-in-Ends
unfolding stopped begun
returns-in-Ends c =
    turn_ends (turn _ _ _ _ c.loop-stop.invariant _ c.soonest.ensures _ c.next_step-step.ensures) _ c.in-Ends.is
    ∙ ap (λ (w : Waiting). let a = c.args in run_for (record { arrivals = a.arrivals.now; ids = a.ids.now; octets = a.octets.now; rate = a.rate.0 }) a.budget (begun a.bridge w a.start a.free.0 a.answers.now a.picked.now a.moments.now)) c.new-queues.ensures

pub bounds-ids-next : goal.bounds-ids-next
bounds-ids-next c = let h = arrival (goal.at.bounds-ids-next c).In-Arrival in omega (arith, h.1, c.loop-stop.invariant.ids)

pub offset_bounds-octets-next : goal.offset_bounds-octets-next
offset_bounds-octets-next c = let h = arrival (goal.at.offset_bounds-octets-next c).In-Arrival in omega (arith, h.1, c.loop-stop.invariant.many)

pub bounds-octets-next : goal.bounds-octets-next
bounds-octets-next c = let h = arrival (goal.at.bounds-octets-next c).In-Arrival in omega (arith, h.1, c.loop-stop.invariant.octets)

pub offset_bounds-arrivals-next : goal.offset_bounds-arrivals-next
offset_bounds-arrivals-next c = let h = arrival (goal.at.offset_bounds-arrivals-next c).In-Arrival in omega (arith, h.1, c.loop-stop.invariant.many)

pub bounds-arrivals-next : goal.bounds-arrivals-next
bounds-arrivals-next c = let h = arrival (goal.at.bounds-arrivals-next c).In-Arrival in omega (arith, h.1)

pub overflow_cast-next : goal.overflow_cast-next
overflow_cast-next c = let h = arrival (goal.at.overflow_cast-next c).In-Arrival in omega (arith, h.1, c.loop-stop.invariant.many)

pub settle-requires : goal.settle-requires
settle-requires c = may_settle (turn _ _ _ _ c.loop-stop.invariant _ c.soonest.ensures _ c.next_step-step.ensures) c.in-Arrival.is _ _ c.place_of-at.ensures.place c.place_of-of.ensures.place _ c.judge_at-judged.ensures

pub bounds-answers-next : goal.bounds-answers-next
bounds-answers-next c = let h = arrival (goal.at.bounds-answers-next c).In-Arrival in omega (arith, h.1, c.loop-stop.invariant.room)

pub overflow_add-next : goal.overflow_add-next
overflow_add-next c = let h = arrival (goal.at.overflow_add-next c).In-Arrival in omega (arith, h.1, c.loop-stop.invariant.many)

pub overflow_add-events : goal.overflow_add-events
overflow_add-events c = let h = arrival (goal.at.overflow_add-events c).In-Arrival in omega (arith, h.0, c.ranges.budget)

pub loop-stop-smaller-in-Arrival : goal.loop-stop-smaller-in-Arrival
loop-stop-smaller-in-Arrival c = let h = arrival (goal.at.loop-stop-smaller-in-Arrival c).In-Arrival in omega (arith, h.0)

pub loop-stop-preserved-in-Arrival : goal.loop-stop-preserved-in-Arrival
loop-stop-preserved-in-Arrival c =
    turn_arrives (turn _ _ _ _ c.loop-stop.invariant _ c.soonest.ensures _ c.next_step-step.ensures) c.in-Arrival.is _ _ c.place_of-at.ensures.place c.place_of-of.ensures.place _ c.judge_at-judged.ensures _ _ c.settle.ensures

pub dequeue-requires : goal.dequeue-requires
dequeue-requires c = let h = picking (goal.at.dequeue-requires c).In-Pick in omega (arith, at_most PickMoment _ h.in-time)

pub unreachable-requires : goal.unreachable-requires
unreachable-requires c = some_leaves (turn _ _ _ _ c.loop-stop.invariant _ c.soonest.ensures _ c.next_step-step.ensures) _ c.in-Pick.is (record { shaped = c.loop-stop.queues.keeps.shaped; sound = c.loop-stop.queues.keeps.sound }) _ _ c.dequeue.ensures c.in_default.not-Leaves

pub offset_bounds-picked-picks : goal.offset_bounds-picked-picks
offset_bounds-picked-picks c = let h = picking (goal.at.offset_bounds-picked-picks c).In-Pick in omega (arith, h.handle_room, c.loop-stop.invariant.picked_long)

pub bounds-picked-picks : goal.bounds-picked-picks
bounds-picked-picks c = let h = picking (goal.at.bounds-picked-picks c).In-Pick in omega (arith, h.handle_room)

pub offset_bounds-moments-picks : goal.offset_bounds-moments-picks
offset_bounds-moments-picks c = let h = picking (goal.at.offset_bounds-moments-picks c).In-Pick in omega (arith, h.moment_room, c.loop-stop.invariant.moments_long)

pub bounds-moments-picks : goal.bounds-moments-picks
bounds-moments-picks c = let h = picking (goal.at.bounds-moments-picks c).In-Pick in omega (arith, h.moment_room)

pub overflow_add-picks : goal.overflow_add-picks
overflow_add-picks c = let h = picking (goal.at.overflow_add-picks c).In-Pick in omega (arith, h.handle_room, c.loop-stop.invariant.picked_long)

pub sending_ticks-requires : goal.sending_ticks-requires
sending_ticks-requires c = (leaves_light (turn _ _ _ _ c.loop-stop.invariant _ c.soonest.ensures _ c.next_step-step.ensures) _ c.in-Pick.is (record { shaped = c.loop-stop.queues.keeps.shaped; sound = c.loop-stop.queues.keeps.sound }) _ _ c.dequeue.ensures _ _ c.in-Leaves.is, c.loop-stop.invariant.rate)

pub overflow_add-free_at : goal.overflow_add-free_at
overflow_add-free_at c = let h = picking (goal.at.overflow_add-free_at c).In-Pick in omega (arith, at_most PickMoment _ h.in-time, c.sending_ticks.ensures.1)

pub overflow_add-events-in-Pick : goal.overflow_add-events-in-Pick
overflow_add-events-in-Pick c = let h = picking (goal.at.overflow_add-events-in-Pick c).In-Pick in omega (arith, h.some, c.ranges.budget)

pub loop-stop-smaller : goal.loop-stop-smaller
loop-stop-smaller c = let h = picking (goal.at.loop-stop-smaller c).In-Pick in omega (arith, h.some)

pub loop-stop-preserved : goal.loop-stop-preserved
loop-stop-preserved c =
    turn_picks (turn _ _ _ _ c.loop-stop.invariant _ c.soonest.ensures _ c.next_step-step.ensures) _ c.in-Pick.is (record { shaped = c.loop-stop.queues.keeps.shaped; sound = c.loop-stop.queues.keeps.sound }) _ _ c.dequeue.ensures _ _ c.in-Leaves.is _ c.sending_ticks.ensures.0
