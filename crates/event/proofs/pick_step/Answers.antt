-- `event::pick_step` meets its contract. Assumes nothing.
use Rattle.quantity.proofs.Booleans.{refuted, confirmed}
use Rattle.event.proofs.Steps.{pick_spent, pick_late, pick_full, pick_full_too, pick_now}
use Rattle.event.proofs.pick_step.Goals as goal

pub returns-then-left-lt1 : goal.returns-then-left-lt1
returns-then-left-lt1 c = pick_spent _ _ _ _ _ c.if-left-lt1.true

pub returns-then-not-in_range : goal.returns-then-not-in_range
returns-then-not-in_range c = pick_late _ _ _ _ _ c.if-left-lt1.false (refuted c.in_range.ensures c.if-not-in_range.true)

pub returns-then-picks-handles : goal.returns-then-picks-handles
returns-then-picks-handles c = pick_full _ _ _ _ _ c.if-left-lt1.false (confirmed c.in_range.ensures c.if-not-in_range.false) c.if-picks-handles.true

pub returns-then-picks-moments : goal.returns-then-picks-moments
returns-then-picks-moments c = pick_full_too _ _ _ _ _ c.if-left-lt1.false (confirmed c.in_range.ensures c.if-not-in_range.false) c.if-picks-handles.false c.if-picks-moments.true

pub returns : goal.returns
returns c = pick_now _ _ _ _ _ c.if-left-lt1.false (confirmed c.in_range.ensures c.if-not-in_range.false) c.if-picks-handles.false c.if-picks-moments.false
