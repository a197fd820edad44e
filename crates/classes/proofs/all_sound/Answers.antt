-- `classes::all_sound` meets its contract: what is left to test gives what the whole gives. Assumes nothing.
use mathlib.Core.Path.{sym, ◌∙◌}
use native.Mathlib.Omega.{arith}
use Rattle.classes.proofs.Scans.{every_goes, class_bad, classes_good}
use Rattle.classes.proofs.all_sound.Goals as goal

pub returns-then-not-class_sound : goal.returns-then-not-class_sound
returns-then-not-class_sound c =
    class_bad _ _ _ _ c.loop-class.invariant (omega arith) (sym c.class_sound.ensures ∙ c.if-not-class_sound.true)

pub loop-class-preserved : goal.loop-class-preserved
loop-class-preserved c =
    every_goes _ _ _ (omega arith) (sym c.class_sound.ensures ∙ c.if-not-class_sound.false) ∙ c.loop-class.invariant

pub returns : goal.returns
returns c = classes_good _ _ _ _ c.loop-class.invariant (omega arith)
