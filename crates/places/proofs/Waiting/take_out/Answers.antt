-- `places::Waiting::take_out` meets its contract. Assumes nothing.
use native.Mathlib.Omega.{arith}
use Rattle.std.proofs.Common.{rules}
use Rattle.places.proofs.Calls.{take_nowhere, take_overfull, take_none, take_done}
use Rattle.places.proofs.Gaps.{gap_closed}
use Rattle.places.proofs.Waiting.take_out.Goals as goal

pub returns-then-class-gt-LAST_CLASS : goal.returns-then-class-gt-LAST_CLASS
returns-then-class-gt-LAST_CLASS c = take_nowhere _ _ _ (omega arith)

pub returns-then-n-gt-FULL : goal.returns-then-n-gt-FULL
returns-then-n-gt-FULL c = take_overfull _ _ _ (omega arith) (omega arith)

pub returns-then-place-n : goal.returns-then-place-n
returns-then-place-n c = take_none _ _ _ (omega arith) (omega arith) (omega arith)

pub returns : goal.returns
returns c =
    take_done _ _ _ (omega arith) (omega arith) _ _ _ _ (omega arith) c.entry_at-entry.ensures
    (gap_closed _ _ _ _ (omega arith) (search rules) c.copy_within.ensures.len c.copy_within.ensures.by_index)
    (gap_closed _ _ _ _ (omega arith) (search rules) c.copy_within-2.ensures.len c.copy_within-2.ensures.by_index)
    (gap_closed _ _ _ _ (omega arith) (search rules) c.copy_within-3.ensures.len c.copy_within-3.ensures.by_index)
