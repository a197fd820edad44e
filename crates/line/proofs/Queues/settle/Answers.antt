-- `line::Queues::settle` meets its contract. Assumes nothing.
use mathlib.Core.Path.{ap, ◌∙◌}
use Prim.Native.Nat.{ℕ}
use Rattle.line.proofs.Settling.{settle_released, settle_discarded, settle_refused}
use Rattle.line.proofs.Queues.settle.Goals as goal

pub returns-in-Ok : goal.returns-in-Ok
returns-in-Ok c = settle_released _ _ _ _ _ _ c.in-Released.is _ c.hand_on.ensures _ _ c.in-Ok.ensures

pub returns-in-Err : goal.returns-in-Err
returns-in-Err c =
    ap (λ (n : ℕ). record { number = n; waiting = c.enqueue.new.self.waiting }) c.refusal_number.ensures
    ∙ settle_released _ _ _ _ _ _ c.in-Released.is _ c.hand_on.ensures _ _ c.in-Err.ensures

pub returns-in-Discarded : goal.returns-in-Discarded
returns-in-Discarded c = settle_discarded _ _ _ _ _ _ c.in-Discarded.is _ c.answer_number.ensures

pub returns-in-Refused : goal.returns-in-Refused
returns-in-Refused c = settle_refused _ _ _ _ _ _ c.in-Refused.is _ c.answer_number-in-Refused.ensures
