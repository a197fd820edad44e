-- `listing::list_all` is safe and ends, and makes each turn where it may. Assumes nothing.
use Rattle.std.proofs.Common.{refl}
use Rattle.listing_turn.specs.Turns.{with_held}
use Rattle.listing_turn.proofs.Making.{counts}
use Rattle.listing.proofs.Rolling.{begins, turns, rolls_on, reads_on}
use Rattle.listing.proofs.list_all.Goals.{in-GoesOn, in-Reads}
use Rattle.listing.proofs.list_all.Goals as goal

pub loop-turn-init : goal.loop-turn-init
loop-turn-init g c = begins _ _ _ c.begin-standing.ensures

pub slice_bounds-write_out-end : goal.slice_bounds-write_out-end
slice_bounds-write_out-end g c =
    let t = turns _ _ _ _ _ _ _ _ _ c.loop-turn.invariant c.list_on-turned.ensures in
    t.written

pub slice_bounds-write_out-end-in-loop-turn : goal.slice_bounds-write_out-end-in-loop-turn
slice_bounds-write_out-end-in-loop-turn g c =
    let t = turns _ _ _ _ _ _ _ _ _ c.loop-turn.invariant c.list_on-turned.ensures in
    counts _ _ t.written

pub loop-turn-preserved : goal.loop-turn-preserved
unfolding with_held
loop-turn-preserved g c =
    let t = turns _ _ _ _ _ _ _ _ _ c.loop-turn.invariant c.list_on-turned.ensures in
    elim c.match-turned.branch [
      | in-GoesOn w ↦ rw (w.standing-is, w.input-is) (rolls_on _ _ _ _ _ _ t w.in-GoesOn.is)
      | in-Reads w ↦ rw (w.standing-is, w.input-is) (reads_on _ _ _ _ _ _ t w.in-Reads.is w.read_behind-came.result _ _ w.read_behind-came.auto.bytes w.read_behind-came.ensures.read refl)
    ]
