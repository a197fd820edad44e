-- `setup::before_zero` meets its contract: whole ticks, or one tick borrowed. Assumes nothing.
use mathlib.Core.Path.{sym, ap, ◌∙◌}
use Prim.Native.Nat.{ℕ}
use native.Mathlib.Nat.{add-zero}
use native.Mathlib.Omega.{arith}
use lib.IntN.{pos, neg_ℤ}
use Rattle.records.proofs.Machine.{returned}
use Rattle.records.proofs.ExactTime.{before_zero}
use Rattle.setup.proofs.before_zero.Goals as goal

pub returns-then-part-eq0 : goal.returns-then-part-eq0
returns-then-part-eq0 c =
    let a = c.args in
    before_zero a.rate.0 a.whole a.part 0 _ (omega arith)
    (returned c.lowered.result _ (record { sfits = c.lowered.type_inv }) c.lowered.ensures ∙ ap (λ (n : ℕ). neg_ℤ (pos n)) (sym (add-zero a.whole))) (omega arith)

pub returns : goal.returns
returns c =
    let a = c.args in
    before_zero a.rate.0 a.whole a.part 1 _ (omega arith)
    (returned c.lowered-2.result _ (record { sfits = c.lowered-2.type_inv }) c.lowered-2.ensures) (omega arith)
