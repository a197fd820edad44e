-- `replay::print_account` is safe and ends, and puts each part where it may. Assumes nothing.
use Rattle.replay.proofs.Telling.{begins, part_long, goes_on}
use Rattle.replay.proofs.print_account.Goals as goal

pub loop-turn-init : goal.loop-turn-init
loop-turn-init g c = begins _ _ _ _ _

pub loop-turn-preserved : goal.loop-turn-preserved
loop-turn-preserved g c =
    let e = c.tell_on-part.ensures.0 in
    goes_on _ _ _ _ _ _ _ _ _ e _ (part_long _ _ _ _ _ _ _ _ e) c.loop-turn.invariant c.in-GoesOn.is
