-- `classes::class_sound` meets its contract: what is left to test gives what the whole gives. Assumes nothing.
use mathlib.Core.Path.{refl, ◌∙◌}
use native.Mathlib.Omega.{arith}
use Rattle.classes.proofs.Scans.{every_start, every_goes, told_at, overfull, unsound_at, sound_end}
use Rattle.classes.proofs.class_sound.Goals as goal

pub returns-then-n-gt-FULL : goal.returns-then-n-gt-FULL
returns-then-n-gt-FULL c = overfull _ _ _ _ (omega arith)

pub loop-i-init : goal.loop-i-init
loop-i-init c = every_start _ _ _

pub returns-then-not-entry_sound : goal.returns-then-not-entry_sound
returns-then-not-entry_sound c =
    unsound_at _ _ _ _ _ _ _ refl (omega arith) c.loop-i.invariant c.loop-i-test.true (told_at _ _ _ _ _ c.entry_sound.ensures c.if-not-entry_sound.true)

pub loop-i-preserved : goal.loop-i-preserved
loop-i-preserved c =
    every_goes _ _ _ c.loop-i-test.true (told_at _ _ _ _ _ c.entry_sound.ensures c.if-not-entry_sound.false) ∙ c.loop-i.invariant

pub returns : goal.returns
returns c = sound_end _ _ _ _ _ _ _ refl (omega arith) c.loop-i.invariant c.loop-i-test.false
