-- `places::Waiting::put` meets its contract. Assumes nothing.
use native.Mathlib.Omega.{arith}
use Rattle.places.specs.Places.{with_last}
use Rattle.places.proofs.Calls.{put_nowhere, put_full, put_done}
use Rattle.places.proofs.Waiting.put.Goals as goal

pub returns-then-class-gt-LAST_CLASS : goal.returns-then-class-gt-LAST_CLASS
returns-then-class-gt-LAST_CLASS c = put_nowhere _ _ _ (omega arith)

pub returns-then-n-ge-FULL : goal.returns-then-n-ge-FULL
returns-then-n-ge-FULL c = put_full _ _ _ (omega arith) (omega arith)

pub returns : goal.returns
unfolding with_last
returns c = put_done _ _ _ (omega arith) (omega arith)
