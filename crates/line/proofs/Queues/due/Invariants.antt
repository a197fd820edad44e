-- `line::Queues::due` meets its contract: the classes not yet looked at give what all give. Assumes nothing.
use mathlib.Core.Path.{◌≡◌}
use Prim.Native.Nat.{◌+◌}
use Rattle.classes.specs.Calls.{due_below, due_of}
use Rattle.line.proofs.Queues.due.Given as goal

abbrev pub invariant-loop-class : goal.invariant-loop-class
invariant-loop-class l = due_below l.self.waiting.times l.self.waiting.fills l.moment (l.class + 1) ≡ due_of l.self.waiting.times l.self.waiting.fills l.moment
