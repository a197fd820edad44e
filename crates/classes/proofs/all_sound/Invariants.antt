-- `classes::all_sound` meets its contract: what is left to test gives what the whole gives. Assumes nothing.
use mathlib.Core.Path.{◌≡◌}
use Prim.Native.Nat.{◌-◌}
use Rattle.places.specs.Queue.{classes}
use Rattle.classes.specs.Soundness.{every, class_sound}
use Rattle.classes.proofs.all_sound.Given as goal

abbrev pub invariant-loop-class : goal.invariant-loop-class
invariant-loop-class l =
    let sound = class_sound l.waiting.times l.waiting.bits l.waiting.fills in
    every sound l.class (classes - l.class) ≡ every sound 0 classes
