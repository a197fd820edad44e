-- Before each turn what is held is in the buffer, and the program may make it. Assumes nothing.
use Rattle.replay.proofs.Rolling.{Rolling}
use Rattle.replay.proofs.read_table.Given as goal

abbrev pub invariant-loop-turn : goal.invariant-loop-turn
invariant-loop-turn g l = Rolling l.initial.input l.initial.notes l.standing l.turn l.input l.notes l.arrivals l.ids l.octets
