-- `records::sound::sound_group` meets its contract: each return has the tests that led there. Assumes nothing.
use native.Mathlib.Omega.{arith}
use Rattle.quantity.specs.declared.Item.TheVariants.{Residence, Arrival}
use Rattle.quantity.proofs.Booleans.{refuted, confirmed}
use Rattle.quantity.proofs.Ranges.{at_most}
use Rattle.records.specs.Sound.{sound_group}
use Rattle.records.proofs.sound.sound_group.Goals as goal

pub returns-then-not-used : goal.returns-then-not-used
unfolding sound_group
returns-then-not-used c = simp c.if-not-used.true

pub returns-then-not-in_range : goal.returns-then-not-in_range
unfolding sound_group
returns-then-not-in_range c =
    simp (c.if-not-used.false, refuted c.in_range.ensures c.if-not-in_range.true)

pub returns-then-not-in_range-2 : goal.returns-then-not-in_range-2
unfolding sound_group
returns-then-not-in_range-2 c =
    simp (
      c.if-not-used.false,
      confirmed c.in_range.ensures c.if-not-in_range.false,
      refuted c.in_range-2.ensures c.if-not-in_range-2.true,
    )

pub returns-then-not-in_range-3 : goal.returns-then-not-in_range-3
unfolding sound_group
returns-then-not-in_range-3 c =
    simp (
      c.if-not-used.false,
      confirmed c.in_range.ensures c.if-not-in_range.false,
      confirmed c.in_range-2.ensures c.if-not-in_range-2.false,
      refuted c.in_range-3.ensures c.if-not-in_range-3.true,
    )

pub overflow_add-result : goal.overflow_add-result
overflow_add-result c =
    omega (
      arith,
      at_most Residence c.args.group.residence.0 (confirmed c.in_range-2.ensures c.if-not-in_range-2.false),
      at_most Arrival c.args.group.last.0 (confirmed c.in_range-3.ensures c.if-not-in_range-3.false),
    )

pub returns : goal.returns
unfolding sound_group
returns c =
    simp (
      c.if-not-used.false,
      confirmed c.in_range.ensures c.if-not-in_range.false,
      confirmed c.in_range-2.ensures c.if-not-in_range-2.false,
      confirmed c.in_range-3.ensures c.if-not-in_range-3.false,
    )
