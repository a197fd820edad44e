-- Before each turn the bytes that are still to be listed are in the buffer, and the program may make it. Assumes nothing.
use Rattle.listing.proofs.Rolling.{Rolling}
use Rattle.listing.proofs.list_all.Given as goal

abbrev pub invariant-loop-turn : goal.invariant-loop-turn
invariant-loop-turn g l = Rolling l.initial.input l.initial.output l.standing l.turn l.input l.output
