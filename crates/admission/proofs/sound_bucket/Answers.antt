-- `admission::sound_bucket` meets its contract: each return is a law of soundness. Assumes nothing.
use mathlib.Core.Path.{sym, ◌∙◌}
use native.Mathlib.Omega.{arith}
use Rattle.quantity.specs.declared.Item.TheVariants.{StreamRate, Burst}
use Rattle.quantity.proofs.Booleans.{refuted, confirmed}
use Rattle.quantity.proofs.Ranges.{at_most}
use Rattle.records.proofs.Soundness.{burst_out, part_out}
use Rattle.admission.proofs.Buckets.{empty_after, by_first}
use Rattle.admission.proofs.sound_bucket.Goals as goal

pub returns-then-not-in_range : goal.returns-then-not-in_range
returns-then-not-in_range c =
    let a = c.args in
    sym (burst_out a.rate.0 a.time.0 a.burst a.empty (refuted c.in_range.ensures c.if-not-in_range.true))

pub returns-then-part-r : goal.returns-then-part-r
returns-then-part-r c =
    let a = c.args in
    sym (part_out a.rate.0 a.time.0 a.burst a.empty c.if-part-r.true)

pub returns-then-not-not_after : goal.returns-then-not-not_after
returns-then-not-not_after c =
    let a = c.args in
    sym (empty_after a.rate.0 a.time.0 a.burst a.empty (confirmed c.in_range.ensures c.if-not-in_range.false) (omega arith) (refuted (c.not_after.ensures a.rate.0 (omega arith)) c.if-not-not_after.true))

pub not_before_first-requires : goal.not_before_first-requires
not_before_first-requires c =
    omega (arith, at_most Burst c.args.burst.0 (confirmed c.in_range.ensures c.if-not-in_range.false), at_most StreamRate c.args.rate.0 c.requires)

pub returns : goal.returns
returns c =
    let a = c.args in
    c.not_before_first.ensures
    ∙ by_first a.rate.0 a.time.0 a.burst a.empty (confirmed c.in_range.ensures c.if-not-in_range.false) (omega arith) (confirmed (c.not_after.ensures a.rate.0 (omega arith)) c.if-not-not_after.false)
