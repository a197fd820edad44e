-- `listing_part::list_part` meets its contract: each turn of the loop is a record of the definition. Assumes nothing.
use mathlib.Core.Path.{sym, ◌∙◌}
use Prim.Native.Nat.{◌-◌, ◌≤◌, ◌<◌}
use native.Mathlib.Omega.{arith}
use lib.ListN.{length}
use Rattle.listing_part.proofs.Stepping.{Going, going}
use Rattle.listing_part.proofs.Underway.{starts, stops, goes_further, turns}
use Rattle.listing_part.proofs.list_part.Goals as goal

pub loop-why-init : goal.loop-why-init
loop-why-init c = starts _ _ _ _

pub returns-in-Ends : goal.returns-in-Ends
returns-in-Ends c =
    let l = c.loop-why in
    stops _ _ _ _ _ _ _ _ _ l.invariant _ _ c.read-reading.ensures (sym c.in-Ends.is ∙ c.next_step-step.ensures)

pub overflow_add-number : goal.overflow_add-number
overflow_add-number c =
    let goes : let l = c.loop-why in Going c.read-reading.result l.number (length l.out - l.written) c.in-Goes.record c.in-Goes.next = going _ _ _ _ _ (sym c.in-Goes.is ∙ c.next_step-step.ensures) in
    omega (arith, goes.counts)

pub loop-why-smaller : goal.loop-why-smaller
loop-why-smaller c =
    let goes : let l = c.loop-why in Going c.read-reading.result l.number (length l.out - l.written) c.in-Goes.record c.in-Goes.next = going _ _ _ _ _ (sym c.in-Goes.is ∙ c.next_step-step.ensures) in
    let further : let l = c.loop-why in (l.place < c.in-Goes.next) × (c.in-Goes.next ≤ length c.args.bytes.now) = goes_further _ _ _ _ _ _ _ _ _ c.loop-why.invariant _ c.read-reading.ensures _ _ goes in
    omega (arith, further.0, further.1)

pub loop-why-preserved : goal.loop-why-preserved
loop-why-preserved c =
    let goes : let l = c.loop-why in Going c.read-reading.result l.number (length l.out - l.written) c.in-Goes.record c.in-Goes.next = going _ _ _ _ _ (sym c.in-Goes.is ∙ c.next_step-step.ensures) in
    turns _ _ _ _ _ _ _ _ _ c.loop-why.invariant _ c.read-reading.ensures _ _ goes
    _ c.carry_out-answer.ensures.after
    _ c.letters.ensures
    _ c.carry_out-answer.ensures.replies
    c.put_line-written.ensures
