-- `firsts::count` meets its contract. Assumes nothing.
use native.Mathlib.Omega.{arith}
use Rattle.places.proofs.Counts.{none_beyond, none_overfull, count_is}
use Rattle.firsts.proofs.count.Goals as goal

pub returns-then-class-gt-LAST_CLASS : goal.returns-then-class-gt-LAST_CLASS
returns-then-class-gt-LAST_CLASS c = (none_beyond _ _ (omega arith), (omega arith, omega arith))

pub returns-then-n-gt-FULL : goal.returns-then-n-gt-FULL
returns-then-n-gt-FULL c = (none_overfull _ _ (omega arith) (omega arith), (omega arith, omega arith))

pub returns : goal.returns
returns c = (count_is _ _ (omega arith) (omega arith), (omega arith, omega arith))
