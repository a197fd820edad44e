-- `replay_gathering::gather_part` meets its contract: each turn of the loop is a record of the definition. Assumes nothing.
use mathlib.Core.Path.{refl}
use Prim.Native.Nat.{◌<◌, ◌≤◌}
use native.Mathlib.Omega.{arith}
use lib.ListN.{length}
use Rattle.replay_gathering.specs.Gathering.{ended, begun, set_up_taken, frame_taken}
use Rattle.replay_gathering.proofs.Turns.{starts, Room, Turn, turn, turn_ends, sets_within, turn_sets, frame_room, frame_within, turn_takes}
use Rattle.replay_gathering.proofs.gather_part.Goals as goal

pub loop-why-init : goal.loop-why-init
loop-why-init c = (starts _ _ refl refl, record { bytes_short = omega arith; arrivals_short = omega arith; ids_short = omega arith; octets_short = omega arith })

pub returns-in-Ends : goal.returns-in-Ends
unfolding ended begun
returns-in-Ends c =
    let here : let l = c.loop-why in let a = c.args in Turn a.bytes.now (begun a.bridge a.arrivals.now a.ids.now a.octets.now a.count) l.answer (record { at = l.at; records = l.records; count = l.count; bridge = l.bridge; arrivals = l.arrivals; ids = l.ids; octets = l.octets }) c.next_task-task.result = turn _ _ _ _ c.loop-why.invariant.0 _ c.has_room-room.ensures _ c.read-reading.ensures _ c.next_task-task.ensures in
    let t = here in
    turn_ends t _ c.in-Ends.is

pub loop-why-smaller-in-Sets : goal.loop-why-smaller-in-Sets
unfolding begun
loop-why-smaller-in-Sets c =
    let here : let l = c.loop-why in let a = c.args in Turn a.bytes.now (begun a.bridge a.arrivals.now a.ids.now a.octets.now a.count) l.answer (record { at = l.at; records = l.records; count = l.count; bridge = l.bridge; arrivals = l.arrivals; ids = l.ids; octets = l.octets }) c.next_task-task.result = turn _ _ _ _ c.loop-why.invariant.0 _ c.has_room-room.ensures _ c.read-reading.ensures _ c.next_task-task.ensures in
    let set_up_next : let l = c.loop-why in (l.at < c.in-Sets.next) × (c.in-Sets.next ≤ length c.args.bytes.now) = sets_within here _ _ c.in-Sets.is in
    omega (arith, set_up_next.0, set_up_next.1)

pub loop-why-preserved-in-Sets : goal.loop-why-preserved-in-Sets
unfolding set_up_taken begun
loop-why-preserved-in-Sets c =
    let here : let l = c.loop-why in let a = c.args in Turn a.bytes.now (begun a.bridge a.arrivals.now a.ids.now a.octets.now a.count) l.answer (record { at = l.at; records = l.records; count = l.count; bridge = l.bridge; arrivals = l.arrivals; ids = l.ids; octets = l.octets }) c.next_task-task.result = turn _ _ _ _ c.loop-why.invariant.0 _ c.has_room-room.ensures _ c.read-reading.ensures _ c.next_task-task.ensures in
    let l = c.loop-why in
    (turn_sets here _ _ c.in-Sets.is _ c.set_up-answer.ensures, l.invariant.1)

pub offset_bounds-arrivals-count : goal.offset_bounds-arrivals-count
unfolding begun
offset_bounds-arrivals-count c =
    let here : let l = c.loop-why in let a = c.args in Turn a.bytes.now (begun a.bridge a.arrivals.now a.ids.now a.octets.now a.count) l.answer (record { at = l.at; records = l.records; count = l.count; bridge = l.bridge; arrivals = l.arrivals; ids = l.ids; octets = l.octets }) c.next_task-task.result = turn _ _ _ _ c.loop-why.invariant.0 _ c.has_room-room.ensures _ c.read-reading.ensures _ c.next_task-task.ensures in
    let room : let l = c.loop-why in Room (record { at = l.at; records = l.records; count = l.count; bridge = l.bridge; arrivals = l.arrivals; ids = l.ids; octets = l.octets }) = frame_room here _ _ _ _ c.in-Frame.is in
    let l = c.loop-why in
    omega (arith, room.arrivals, l.invariant.0.arrivals_long, l.invariant.1.arrivals_short)

pub bounds-arrivals-count : goal.bounds-arrivals-count
unfolding begun
bounds-arrivals-count c =
    let here : let l = c.loop-why in let a = c.args in Turn a.bytes.now (begun a.bridge a.arrivals.now a.ids.now a.octets.now a.count) l.answer (record { at = l.at; records = l.records; count = l.count; bridge = l.bridge; arrivals = l.arrivals; ids = l.ids; octets = l.octets }) c.next_task-task.result = turn _ _ _ _ c.loop-why.invariant.0 _ c.has_room-room.ensures _ c.read-reading.ensures _ c.next_task-task.ensures in
    let room : let l = c.loop-why in Room (record { at = l.at; records = l.records; count = l.count; bridge = l.bridge; arrivals = l.arrivals; ids = l.ids; octets = l.octets }) = frame_room here _ _ _ _ c.in-Frame.is in
    room.arrivals

pub bounds-ids-count : goal.bounds-ids-count
unfolding begun
bounds-ids-count c =
    let here : let l = c.loop-why in let a = c.args in Turn a.bytes.now (begun a.bridge a.arrivals.now a.ids.now a.octets.now a.count) l.answer (record { at = l.at; records = l.records; count = l.count; bridge = l.bridge; arrivals = l.arrivals; ids = l.ids; octets = l.octets }) c.next_task-task.result = turn _ _ _ _ c.loop-why.invariant.0 _ c.has_room-room.ensures _ c.read-reading.ensures _ c.next_task-task.ensures in
    let room : let l = c.loop-why in Room (record { at = l.at; records = l.records; count = l.count; bridge = l.bridge; arrivals = l.arrivals; ids = l.ids; octets = l.octets }) = frame_room here _ _ _ _ c.in-Frame.is in
    room.ids

pub offset_bounds-octets-count : goal.offset_bounds-octets-count
unfolding begun
offset_bounds-octets-count c =
    let here : let l = c.loop-why in let a = c.args in Turn a.bytes.now (begun a.bridge a.arrivals.now a.ids.now a.octets.now a.count) l.answer (record { at = l.at; records = l.records; count = l.count; bridge = l.bridge; arrivals = l.arrivals; ids = l.ids; octets = l.octets }) c.next_task-task.result = turn _ _ _ _ c.loop-why.invariant.0 _ c.has_room-room.ensures _ c.read-reading.ensures _ c.next_task-task.ensures in
    let room : let l = c.loop-why in Room (record { at = l.at; records = l.records; count = l.count; bridge = l.bridge; arrivals = l.arrivals; ids = l.ids; octets = l.octets }) = frame_room here _ _ _ _ c.in-Frame.is in
    let l = c.loop-why in
    omega (arith, room.octets, l.invariant.0.octets_long, l.invariant.1.octets_short)

pub bounds-octets-count : goal.bounds-octets-count
unfolding begun
bounds-octets-count c =
    let here : let l = c.loop-why in let a = c.args in Turn a.bytes.now (begun a.bridge a.arrivals.now a.ids.now a.octets.now a.count) l.answer (record { at = l.at; records = l.records; count = l.count; bridge = l.bridge; arrivals = l.arrivals; ids = l.ids; octets = l.octets }) c.next_task-task.result = turn _ _ _ _ c.loop-why.invariant.0 _ c.has_room-room.ensures _ c.read-reading.ensures _ c.next_task-task.ensures in
    let room : let l = c.loop-why in Room (record { at = l.at; records = l.records; count = l.count; bridge = l.bridge; arrivals = l.arrivals; ids = l.ids; octets = l.octets }) = frame_room here _ _ _ _ c.in-Frame.is in
    room.octets

pub overflow_add-count : goal.overflow_add-count
unfolding begun
overflow_add-count c =
    let here : let l = c.loop-why in let a = c.args in Turn a.bytes.now (begun a.bridge a.arrivals.now a.ids.now a.octets.now a.count) l.answer (record { at = l.at; records = l.records; count = l.count; bridge = l.bridge; arrivals = l.arrivals; ids = l.ids; octets = l.octets }) c.next_task-task.result = turn _ _ _ _ c.loop-why.invariant.0 _ c.has_room-room.ensures _ c.read-reading.ensures _ c.next_task-task.ensures in
    let room : let l = c.loop-why in Room (record { at = l.at; records = l.records; count = l.count; bridge = l.bridge; arrivals = l.arrivals; ids = l.ids; octets = l.octets }) = frame_room here _ _ _ _ c.in-Frame.is in
    let l = c.loop-why in
    omega (arith, room.ids, l.invariant.0.ids_long, l.invariant.1.ids_short)

pub loop-why-smaller : goal.loop-why-smaller
unfolding begun
loop-why-smaller c =
    let here : let l = c.loop-why in let a = c.args in Turn a.bytes.now (begun a.bridge a.arrivals.now a.ids.now a.octets.now a.count) l.answer (record { at = l.at; records = l.records; count = l.count; bridge = l.bridge; arrivals = l.arrivals; ids = l.ids; octets = l.octets }) c.next_task-task.result = turn _ _ _ _ c.loop-why.invariant.0 _ c.has_room-room.ensures _ c.read-reading.ensures _ c.next_task-task.ensures in
    let frame_next : let l = c.loop-why in (l.at < c.in-Frame.next) × (c.in-Frame.next ≤ length c.args.bytes.now) = frame_within here _ _ _ _ c.in-Frame.is in
    omega (arith, frame_next.0, frame_next.1)

pub loop-why-preserved : goal.loop-why-preserved
unfolding frame_taken begun
loop-why-preserved c =
    let here : let l = c.loop-why in let a = c.args in Turn a.bytes.now (begun a.bridge a.arrivals.now a.ids.now a.octets.now a.count) l.answer (record { at = l.at; records = l.records; count = l.count; bridge = l.bridge; arrivals = l.arrivals; ids = l.ids; octets = l.octets }) c.next_task-task.result = turn _ _ _ _ c.loop-why.invariant.0 _ c.has_room-room.ensures _ c.read-reading.ensures _ c.next_task-task.ensures in
    let l = c.loop-why in
    (turn_takes here _ _ _ _ c.in-Frame.is, l.invariant.1)
