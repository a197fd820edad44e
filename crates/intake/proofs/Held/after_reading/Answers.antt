-- `intake::Held::after_reading` meets its contract: none came, more came, or it says why not. Assumes nothing.
use Rattle.intake.proofs.Coming.{none_came, some_came, why_none}
use Rattle.intake.proofs.Held.after_reading.Goals as goal

pub returns-in-Ok-eq0 : goal.returns-in-Ok-eq0
returns-in-Ok-eq0 c =
    none_came c.args.self _ c.args.size _ _ _ c.in-Ok-eq0.is (rw c.in-Ok-eq0.is at c.in-Ok-eq0.field-0-test) c.told_by_none.ensures c.saying.ensures

pub returns-in-Ok : goal.returns-in-Ok
returns-in-Ok c =
    some_came c.args.self _ c.args.size _ _ _ c.in-Ok.is (rw c.in-Ok.is at c.in-Ok.n-test.1) (rw c.saturating_sub.ensures at c.min.ensures) c.saying-in-Ok.ensures

pub returns-in-Err : goal.returns-in-Err
returns-in-Err c = why_none c.args.self _ c.args.size _ _ _ c.in-Err.is c.told_by_failure.ensures c.saying-in-Err.ensures
