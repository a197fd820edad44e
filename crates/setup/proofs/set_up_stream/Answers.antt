-- `setup::set_up_stream` meets its contract: each return has the tests that led there. Assumes nothing.
use mathlib.Core.Path.{sym, ap, ◌∙◌}
use Rattle.quantity.proofs.Booleans.{refuted, confirmed}
use Rattle.records.specs.declared.Stream.{Stream}
use Rattle.setup.proofs.Fresh.{group_out, group_unused, group_unsound, rate_out, burst_out, stream_done}
use Rattle.setup.proofs.set_up_stream.Goals as goal
use Rattle.std.proofs.Common.{Ok}

pub returns-then-not-in_range : goal.returns-then-not-in_range
returns-then-not-in_range c =
    let a = c.args in
    sym (group_out a.id a.group a.rate.0 a.burst.0 (refuted c.in_range.ensures c.if-not-in_range.true))

pub returns-then-not-used : goal.returns-then-not-used
returns-then-not-used c =
    let a = c.args in
    sym (group_unused a.id a.group a.rate.0 a.burst.0 c.if-not-used.true)

pub returns-then-not-sound_group : goal.returns-then-not-sound_group
returns-then-not-sound_group c =
    let a = c.args in
    sym (group_unsound a.id a.group a.rate.0 a.burst.0 (confirmed c.in_range.ensures c.if-not-in_range.false) c.if-not-used.false (refuted c.sound_group.ensures c.if-not-sound_group.true))

pub returns-then-not-in_range-2 : goal.returns-then-not-in_range-2
returns-then-not-in_range-2 c =
    let a = c.args in
    sym (rate_out a.id a.group a.rate.0 a.burst.0 (confirmed c.in_range.ensures c.if-not-in_range.false) c.if-not-used.false (confirmed c.sound_group.ensures c.if-not-sound_group.false) (refuted c.in_range-2.ensures c.if-not-in_range-2.true))

pub returns-then-not-in_range-3 : goal.returns-then-not-in_range-3
returns-then-not-in_range-3 c =
    let a = c.args in
    sym (burst_out a.id a.group a.rate.0 a.burst.0 (confirmed c.in_range.ensures c.if-not-in_range.false) c.if-not-used.false (confirmed c.sound_group.ensures c.if-not-sound_group.false) (confirmed c.in_range-2.ensures c.if-not-in_range-2.false) (refuted c.in_range-3.ensures c.if-not-in_range-3.true))

pub returns : goal.returns
returns c =
    let a = c.args in
    ap (λ (x : Stream). Ok x) c.fresh_stream.ensures
    ∙ sym (stream_done a.id a.group a.rate.0 a.burst.0 (confirmed c.in_range.ensures c.if-not-in_range.false) c.if-not-used.false (confirmed c.sound_group.ensures c.if-not-sound_group.false) (confirmed c.in_range-2.ensures c.if-not-in_range-2.false) (confirmed c.in_range-3.ensures c.if-not-in_range-3.false))
