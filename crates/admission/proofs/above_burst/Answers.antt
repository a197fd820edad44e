-- `admission::above_burst` meets its contract, by cases on the regulator. Assumes nothing.
use mathlib.Core.Path.{sym, ap}
use Rattle.admission.specs.Tests.{above_burst}
use Rattle.records.specs.declared.Regulator.{Regulator}
use Rattle.admission.proofs.above_burst.Goals as goal

pub returns-in-Unset : goal.returns-in-Unset
unfolding above_burst
returns-in-Unset c = sym (ap (λ (k : Regulator). above_burst k c.args.bits.0) c.in-Unset.is)

pub returns-in-Bucket : goal.returns-in-Bucket
unfolding above_burst
returns-in-Bucket c =
    sym (ap (λ (x : Regulator). above_burst x c.args.bits.0) c.in-Bucket.is)
