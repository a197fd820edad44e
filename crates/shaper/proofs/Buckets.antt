-- What a sound bucket has for judging: a frame can be reckoned by it. Assumes nothing.
use Rattle.std.proofs.Common.{◌≡◌, ℕ, ◌+◌, ◌≤◌, true, false, ℤ, pos, arith, ltb-false}
use Rattle.quantity.specs.Ranges.{most_of, least_of}
use Rattle.quantity.specs.declared.Item.TheVariants.{StreamRate}
use Rattle.records.specs.ExactTime.{bit_time, exactly, or_zero}
use Rattle.records.specs.Sound.{sound_regulator}
use Rattle.records.specs.Steps.{shortfall}
use Rattle.records.specs.declared.Moment.{Moment}
use Rattle.records.specs.declared.Regulator.{Regulator}
use Rattle.records.specs.declared.Regulator.TheVariants.{Unset, Bucket}
use Rattle.records.proofs.Integers.{sum, is_not_lt, not_negative}
use Rattle.records.proofs.ExactTime.{ticks_most}
use Rattle.records.proofs.Soundness.{BucketOk, bucket_ok}
use Rattle.admission.specs.Tests.{above_burst}
use Rattle.shaper.specs.Frame.{F}
use Rattle.shaper.specs.Steps.{latest_release, Works}

-- ---- a sound regulator can be reckoned by
pub full_zero : (E : ℤ) (b : ℕ) → shortfall E ≤ or_zero E + bit_time b → shortfall (F E b) ≡ 0
unfolding F
full_zero E b h = not_negative (F E b) (is_not_lt (F E b) (pos 0) (omega (arith, sum E (pos (bit_time b)))))

pub full_below : (r G b : ℕ) (e : Moment) → BucketOk r G b e → shortfall (F (exactly r e) b) ≡ 0
full_below r G b e ok = full_zero (exactly r e) b ok.low

pub works : (r G L : ℕ) (k : Regulator) → least_of StreamRate ≤ r → r ≤ most_of StreamRate → G ≤ latest_release → sound_regulator r G k ≡ true → above_burst k L ≡ false → Works r k L
unfolding Works above_burst
works r G L Unset slow fast early h x = tt
works r G L (Bucket b e) slow fast early h x =
    let ok = bucket_ok r G b e h in
    let fits : L ≤ b.0 = ltb-false b.0 L x in
    record {
      starts = record {
        some = omega arith;
        fast = fast;
        part = ok.part;
        early = omega (arith, ticks_most r e ok.part G ok.high);
        frame = omega arith;
      };
      burst = ok.most;
      full = full_below r G b.0 e ok;
    }
