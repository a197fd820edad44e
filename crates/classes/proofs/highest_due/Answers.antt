-- `classes::highest_due` meets its contract: the classes not yet looked at give what all give. Assumes nothing.
use mathlib.Core.Path.{◌≡◌, refl, ◌∙◌}
use native.Mathlib.Omega.{arith}
use Rattle.classes.specs.Calls.{due_of}
use Rattle.classes.proofs.Dues.{due_here, due_later, due_none, none_due}
use Rattle.classes.proofs.highest_due.Goals as goal
use Rattle.classes.proofs.highest_due.Goals.{in-Some+else-first-moment, in_default}
use Prim.Native.Nat.{◌+◌, ◌-◌}

pub loop-class-init : goal.loop-class-init
unfolding due_of
loop-class-init c = refl

pub returns-then-first-moment : goal.returns-then-first-moment
returns-then-first-moment c =
    due_here _ _ _ _ _ c.first_least.ensures _ c.in-Some.is c.if-first-moment.true ∙ c.loop-class.invariant

pub loop-class-preserved : goal.loop-class-preserved
loop-class-preserved c =
    let lower : (c.loop-class.class - 1) + 1 ≡ c.loop-class.class = omega arith in
    rw lower (
    elim c.match-first_least.branch [
      | in-Some+else-first-moment w ↦ due_later _ _ _ _ _ c.first_least.ensures _ w.in-Some.is w.if-first-moment.false
      | in_default w ↦ due_none _ _ _ _ _ c.first_least.ensures w.in_default.is
    ] ∙ c.loop-class.invariant
    )

pub returns-after-first_least : goal.returns-after-first_least
returns-after-first_least c =
    none_due _ _ _ _ (omega arith) ∙ elim c.match-first_least.branch [
      | in-Some+else-first-moment w ↦ due_later _ _ _ _ _ c.first_least.ensures _ w.in-Some.is w.if-first-moment.false
      | in_default w ↦ due_none _ _ _ _ _ c.first_least.ensures w.in_default.is
    ] ∙ c.loop-class.invariant

pub returns : goal.returns
returns c = absurd (omega (arith, c.loop-class-test.false))
