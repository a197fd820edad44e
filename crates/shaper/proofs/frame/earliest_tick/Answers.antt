-- `shaper::frame::earliest_tick` meets its contract: of a bucket, the first tick not below S. Assumes nothing.
use Rattle.std.proofs.Common.{ℤ, sym, ap, ◌∙◌}
use Rattle.records.specs.ExactTime.{rounded_up, or_zero}
use Rattle.shaper.specs.Frame.{S, earliest}
use Rattle.shaper.specs.Steps.{Works, BucketWorks}
use Rattle.records.specs.declared.Regulator.{Regulator}
use Rattle.shaper.proofs.frame.earliest_tick.Goals as goal

pub returns-in-Unset : goal.returns-in-Unset
unfolding earliest
returns-in-Unset c =
    let a = c.args in
    sym (ap (λ (k : Regulator). earliest a.rate.0 k a.bits.0) c.in-Unset.is)

pub charged_to-requires : goal.charged_to-requires
unfolding Works
charged_to-requires c =
    let bucket_works : BucketWorks c.args.rate.0 c.in-Bucket.burst.0 c.in-Bucket.empty c.args.bits.0 = rw c.in-Bucket.is at c.requires in
    bucket_works.starts

pub returns-in-Bucket : goal.returns-in-Bucket
unfolding earliest S
returns-in-Bucket c =
    let a = c.args in
    c.first_tick.ensures a.rate.0 c.charged_to.ensures.over
    ∙ ap (λ (z : ℤ). or_zero (rounded_up a.rate.0 z)) c.charged_to.ensures.exact
    ∙ sym (ap (λ (x : Regulator). earliest a.rate.0 x a.bits.0) c.in-Bucket.is)
