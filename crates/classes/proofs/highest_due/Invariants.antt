-- `classes::highest_due` meets its contract: the classes not yet looked at give what all give. Assumes nothing.
use mathlib.Core.Path.{◌≡◌}
use Prim.Native.Nat.{◌+◌}
use Rattle.classes.specs.Calls.{due_below, due_of}
use Rattle.classes.proofs.highest_due.Given as goal

abbrev pub invariant-loop-class : goal.invariant-loop-class
invariant-loop-class l = due_below l.waiting.times l.waiting.fills l.moment (l.class + 1) ≡ due_of l.waiting.times l.waiting.fills l.moment
