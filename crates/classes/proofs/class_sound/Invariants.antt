-- `classes::class_sound` meets its contract: what is left to test gives what the whole gives. Assumes nothing.
use mathlib.Core.Path.{◌≡◌}
use Prim.Native.Nat.{◌*◌, ◌-◌}
use Rattle.places.specs.Queue.{places}
use Rattle.classes.specs.Soundness.{every, sound_at}
use Rattle.classes.proofs.class_sound.Given as goal

abbrev pub invariant-loop-i : goal.invariant-loop-i
invariant-loop-i l =
    let sound = sound_at l.waiting.times l.waiting.bits in
    every sound l.i (l.end - l.i) ≡ every sound (l.class * places) l.n
