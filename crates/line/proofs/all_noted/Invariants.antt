-- `line::all_noted` meets its contract: the classes passed are noted. Assumes nothing.
use Rattle.line.specs.Firsts.{Noted}
use Rattle.line.proofs.all_noted.Given as goal

abbrev pub invariant-loop-class : goal.invariant-loop-class
invariant-loop-class l = Noted l.waiting.times l.waiting.fills l.firsts l.class
