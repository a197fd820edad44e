-- `line::all_noted` meets its contract: the classes passed are noted. Assumes nothing.
use mathlib.Core.Path.{◌≡◌, refl}
use native.Mathlib.Omega.{arith}
use Rattle.line.proofs.Noting.{note_next}
use Rattle.line.proofs.all_noted.Goals as goal

pub loop-class-init : goal.loop-class-init
loop-class-init c = record { long = refl; first = λ d l. absurd (omega arith) }

pub loop-class-preserved : goal.loop-class-preserved
loop-class-preserved c = note_next _ _ _ _ c.loop-class.invariant (omega arith) _ c.noted.ensures

pub returns : goal.returns
returns c = let z : c.loop-class.class ≡ 8 = omega arith in rw z at c.loop-class.invariant
