-- `replay::read_table` meets its contract: it makes each turn where it may, and what it returns as a whole has ended. Assumes nothing.
use Rattle.std.proofs.Common.{refl}
use Rattle.replay_turn.specs.Protocol.{with_held}
use Rattle.replay.proofs.Rolling.{begins, turns, rolls_on, reads_on}
use Rattle.replay.proofs.Telling.{counts}
use Rattle.replay.proofs.read_table.Goals.{in-GoesOn, in-Reads}
use Rattle.replay.proofs.read_table.Goals as goal

pub loop-turn-init : goal.loop-turn-init
loop-turn-init g c = begins _ _ _ _ _ _ c.begin-standing.ensures c.requires.0 c.requires.1

pub slice_bounds-write_out-end : goal.slice_bounds-write_out-end
slice_bounds-write_out-end g c =
    let t = turns _ _ _ _ _ _ _ _ _ _ _ _ _ _ _ c.loop-turn.invariant c.gather_on-turned.ensures in
    t.written

pub slice_bounds-write_out-end-in-loop-turn : goal.slice_bounds-write_out-end-in-loop-turn
slice_bounds-write_out-end-in-loop-turn g c =
    let t = turns _ _ _ _ _ _ _ _ _ _ _ _ _ _ _ c.loop-turn.invariant c.gather_on-turned.ensures in
    counts _ _ t.written

pub loop-turn-preserved : goal.loop-turn-preserved
unfolding with_held
loop-turn-preserved g c =
    let t = turns _ _ _ _ _ _ _ _ _ _ _ _ _ _ _ c.loop-turn.invariant c.gather_on-turned.ensures in
    elim c.match-turned.branch [
      | in-GoesOn w ↦ rw (w.standing-is, w.input-is) (rolls_on _ _ _ _ _ _ _ _ _ t w.in-GoesOn.is)
      | in-Reads w ↦ rw (w.standing-is, w.input-is) (reads_on _ _ _ _ _ _ _ _ _ t w.in-Reads.is w.read_behind-came.result _ _ w.read_behind-came.auto.bytes w.read_behind-came.ensures.read refl)
    ]

pub returns-in-Ends : goal.returns-in-Ends
returns-in-Ends g c =
    let t = turns _ _ _ _ _ _ _ _ _ _ _ _ _ _ _ c.loop-turn.invariant c.gather_on-turned.ensures in
    (λ e. t.ahead.ends c.in-Ends.is, t.few, t.lent.lists)
