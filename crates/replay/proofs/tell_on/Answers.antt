-- `replay::tell_on` meets its contract: it is the call's, and what it wrote is in the buffer. Assumes nothing.
use Rattle.std.proofs.Common.{arith}
use Rattle.replay.proofs.Telling.{part_inside}
use Rattle.replay.proofs.tell_on.Goals as goal

pub returns : goal.returns
returns c = (c.put_part.ensures, part_inside _ _ _ _ _ _ _ _ (λ i. omega (arith, c.shared_slice_known-1.given i)) c.requires.1 c.put_part.ensures)
