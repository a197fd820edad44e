-- `listing_part::list_part` meets its contract: each turn of the loop is a record of the definition. Assumes nothing.
use Prim.Native.Nat.{◌-◌}
use lib.ListN.{length}
use Rattle.listing_part.proofs.Underway.{Underway}
use Rattle.listing_part.proofs.list_part.Given as goal

abbrev pub invariant-loop-why : goal.invariant-loop-why
invariant-loop-why l = Underway l.bytes l.initial.out l.initial.bridge l.initial.number l.bridge l.number l.place l.written l.out

abbrev pub decreases-loop-why : goal.decreases-loop-why
decreases-loop-why l = length l.bytes - l.place
