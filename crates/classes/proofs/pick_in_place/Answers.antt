-- `classes::pick_in_place` meets its contract. Assumes nothing.
use mathlib.Core.Path.{sym, ap, ◌∙◌}
use Rattle.classes.specs.Calls.{picked_from}
use Rattle.classes.proofs.Calls.{pick_unsound, pick_nothing, pick_from}
use Rattle.classes.proofs.pick_in_place.Goals as goal

pub returns-then-not-all_sound : goal.returns-then-not-all_sound
returns-then-not-all_sound c = pick_unsound _ _ (sym c.all_sound.ensures ∙ c.if-not-all_sound.true)

pub returns-in_default : goal.returns-in_default
returns-in_default c = pick_nothing _ _ _ (sym c.all_sound.ensures ∙ c.if-not-all_sound.false) c.highest_due.ensures c.in_default.is

pub returns-in-Some-take_out : goal.returns-in-Some-take_out
returns-in-Some-take_out c =
    pick_from _ _ _ (sym c.all_sound.ensures ∙ c.if-not-all_sound.false) c.highest_due.ensures _ _ _ c.in-Some.is c.take_out.ensures
    (ap (picked_from c.in-Some.due.class) (sym c.in-Some-take_out.is))

pub returns-in-None : goal.returns-in-None
returns-in-None c =
    pick_from _ _ _ (sym c.all_sound.ensures ∙ c.if-not-all_sound.false) c.highest_due.ensures _ _ _ c.in-Some.is c.take_out.ensures
    (ap (picked_from c.in-Some.due.class) (sym c.in-None.is))
