-- `line::Queues::due` meets its contract: the classes not yet looked at give what all give. Assumes nothing.
use mathlib.Core.Path.{◌≡◌, refl, ◌∙◌}
use Prim.Native.Nat.{◌+◌, ◌-◌}
use native.Mathlib.Omega.{arith}
use Rattle.classes.specs.Calls.{due_of}
use Rattle.classes.proofs.Dues.{none_due}
use Rattle.line.proofs.Searches.{due_here, due_lower}
use Rattle.line.proofs.Queues.due.Goals as goal

pub loop-class-init : goal.loop-class-init
unfolding due_of
loop-class-init c = refl

pub returns-then-first-moment : goal.returns-then-first-moment
returns-then-first-moment c =
    due_here _ _ c.args.self.now.keeps _ _ (omega arith) c.requires c.if-first-moment.true ∙ c.loop-class.invariant

pub loop-class-preserved : goal.loop-class-preserved
loop-class-preserved c =
    let lower : (c.loop-class.class - 1) + 1 ≡ c.loop-class.class = omega arith in
    rw lower (due_lower _ _ c.args.self.now.keeps _ _ (omega arith) c.if-first-moment.false ∙ c.loop-class.invariant)

pub returns-else-first-moment : goal.returns-else-first-moment
returns-else-first-moment c =
    none_due _ _ _ _ (omega arith) ∙ due_lower _ _ c.args.self.now.keeps _ _ (omega arith) c.if-first-moment.false ∙ c.loop-class.invariant

pub returns : goal.returns
returns c = absurd (omega (arith, c.loop-class-test.false))
