-- `replay_turn::is_ready` meets its contract. Assumes nothing.
use Rattle.quantity.proofs.Booleans.{confirmed}
use Rattle.intake.proofs.Promises.{is_within_law}
use Rattle.replay_turn.proofs.is_ready.Goals as goal

pub overflow_sub-n : goal.overflow_sub-n
overflow_sub-n c = (is_within_law _ _ (confirmed c.is_within.ensures c.if-not-is_within.false)).ahead
