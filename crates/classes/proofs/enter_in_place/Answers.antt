-- `classes::enter_in_place` meets its contract. Assumes nothing.
use mathlib.Core.Path.{sym, ◌∙◌}
use native.Mathlib.Omega.{arith}
use Rattle.classes.proofs.Calls.{enter_nowhere, enter_unsound, enter_charge, enter_late, enter_full, enter_done}
use Rattle.classes.proofs.enter_in_place.Goals as goal

pub returns-then-class-gt-LAST_CLASS : goal.returns-then-class-gt-LAST_CLASS
returns-then-class-gt-LAST_CLASS c = enter_nowhere _ _ _ (omega arith)

pub returns-then-not-class_sound : goal.returns-then-not-class_sound
returns-then-not-class_sound c =
    enter_unsound _ _ _ (omega arith) (sym c.class_sound.ensures ∙ c.if-not-class_sound.true)

pub returns-then-not-in_range : goal.returns-then-not-in_range
returns-then-not-in_range c =
    enter_charge _ _ _ (omega arith) (sym c.class_sound.ensures ∙ c.if-not-class_sound.false)
    (sym c.in_range.ensures ∙ c.if-not-in_range.true)

pub returns-then-not-in_range-2 : goal.returns-then-not-in_range-2
returns-then-not-in_range-2 c =
    enter_late _ _ _ (omega arith) (sym c.class_sound.ensures ∙ c.if-not-class_sound.false)
    (sym c.in_range.ensures ∙ c.if-not-in_range.false) (sym c.in_range-2.ensures ∙ c.if-not-in_range-2.true)

pub returns-then-not-put : goal.returns-then-not-put
returns-then-not-put c =
    enter_full _ _ _ (omega arith) (sym c.class_sound.ensures ∙ c.if-not-class_sound.false)
    (sym c.in_range.ensures ∙ c.if-not-in_range.false) (sym c.in_range-2.ensures ∙ c.if-not-in_range-2.false)
    _ c.put.ensures c.if-not-put.true

pub returns : goal.returns
returns c =
    enter_done _ _ _ (omega arith) (sym c.class_sound.ensures ∙ c.if-not-class_sound.false)
    (sym c.in_range.ensures ∙ c.if-not-in_range.false) (sym c.in_range-2.ensures ∙ c.if-not-in_range-2.false)
    _ c.put.ensures c.if-not-put.false
