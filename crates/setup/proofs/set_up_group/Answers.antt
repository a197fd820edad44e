-- `setup::set_up_group` meets its contract. Assumes nothing.
use mathlib.Core.Path.{sym}
use Rattle.quantity.proofs.Booleans.{refuted, confirmed}
use Rattle.setup.specs.SetUp.{fresh_group}
use Rattle.setup.proofs.Fresh.{class_out, residence_out, group_done}
use Rattle.setup.proofs.set_up_group.Goals as goal

pub returns-then-not-in_range : goal.returns-then-not-in_range
returns-then-not-in_range c =
    let a = c.args in
    sym (class_out a.class a.residence.0 (refuted c.in_range.ensures c.if-not-in_range.true))

pub returns-then-not-in_range-2 : goal.returns-then-not-in_range-2
returns-then-not-in_range-2 c =
    let a = c.args in
    sym (residence_out a.class a.residence.0 (confirmed c.in_range.ensures c.if-not-in_range.false) (refuted c.in_range-2.ensures c.if-not-in_range-2.true))

pub returns : goal.returns
unfolding fresh_group
returns c =
    let a = c.args in
    sym (group_done a.class a.residence.0 (confirmed c.in_range.ensures c.if-not-in_range.false) (confirmed c.in_range-2.ensures c.if-not-in_range-2.false))
