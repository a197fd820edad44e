-- Before each part the program may put it, and the buffer is as long as it was. Assumes nothing.
use Rattle.replay.proofs.Telling.{Telling}
use Rattle.replay.proofs.print_account.Given as goal

abbrev pub invariant-loop-turn : goal.invariant-loop-turn
invariant-loop-turn g l = Telling l.account l.answers l.picked l.moments l.initial.out l.turn l.from l.out
