-- `shaper::frame::regulator_after` meets its contract, by cases on the regulator. Assumes nothing.
use Rattle.std.proofs.Common.{sym, ap, ◌∙◌}
use Rattle.shaper.specs.Frame.{after_release}
use Rattle.shaper.specs.Steps.{Works, BucketWorks}
use Rattle.records.specs.declared.Moment.{Moment}
use Rattle.records.specs.declared.Regulator.{Regulator}
use Rattle.records.specs.declared.Regulator.TheVariants.{Bucket}
use Rattle.shaper.proofs.frame.regulator_after.Goals as goal

pub returns-in-Unset : goal.returns-in-Unset
unfolding after_release
returns-in-Unset c =
    let a = c.args in
    sym (ap (λ (k : Regulator). after_release a.rate.0 k a.bits.0 a.t.0) c.in-Unset.is)

pub emptied-requires : goal.emptied-requires
unfolding Works
emptied-requires c =
    let bucket_works : BucketWorks c.args.rate.0 c.in-Bucket.burst.0 c.in-Bucket.empty c.args.bits.0 = rw c.in-Bucket.is at c.requires.0 in
    (bucket_works, c.requires.1)

pub returns-in-Bucket : goal.returns-in-Bucket
unfolding after_release
returns-in-Bucket c =
    let a = c.args in
    ap (λ (m : Moment). Bucket c.in-Bucket.burst m) c.emptied.ensures
    ∙ sym (ap (λ (x : Regulator). after_release a.rate.0 x a.bits.0 a.t.0) c.in-Bucket.is)
