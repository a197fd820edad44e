-- `setup::fresh_stream` meets its contract. Assumes nothing.
use mathlib.Core.Path.{ap, ◌∙◌}
use Prim.Native.Nat.{ℕ}
use native.Mathlib.Nat.{div-add-mod', mod-lt, div-le_self}
use native.Mathlib.Omega.{arith}
use lib.IntN.{pos, neg_ℤ}
use Rattle.quantity.specs.declared.Item.TheVariants.{StreamRate, Burst}
use Rattle.quantity.proofs.Ranges.{at_least, at_most}
use Rattle.records.specs.ExactTime.{bit_time, moment_of, E_first}
use Rattle.setup.specs.SetUp.{fresh_stream}
use Rattle.records.specs.declared.Moment.{Moment}
use Rattle.records.specs.declared.Regulator.TheVariants.{Bucket}
use Rattle.setup.proofs.fresh_stream.Goals as goal

pub overflow_mul-parts : goal.overflow_mul-parts
overflow_mul-parts c = omega (arith, at_most Burst c.args.burst.0 c.requires.1)

pub nonzero_div-parts : goal.nonzero_div-parts
nonzero_div-parts c = omega (arith, at_least StreamRate c.args.rate.0 c.requires.0)

pub nonzero_rem-parts : goal.nonzero_rem-parts
nonzero_rem-parts c = omega (arith, at_least StreamRate c.args.rate.0 c.requires.0)

pub before_zero-empty-requires : goal.before_zero-empty-requires
before_zero-empty-requires c =
    let a = c.args in
    let n = bit_time a.burst.0 in
    (mod-lt n (omega (arith, at_least StreamRate a.rate.0 c.requires.0)), omega (arith, div-le_self n a.rate.0, at_most Burst a.burst.0 c.requires.1))

pub returns : goal.returns
unfolding fresh_stream E_first
returns c =
    let a = c.args in
    ap (λ (m : Moment). record { group = a.id; rate = a.rate; regulator = Bucket a.burst m })
    (c.before_zero-empty.ensures ∙ ap (λ (n : ℕ). moment_of a.rate.0 (neg_ℤ (pos n))) (div-add-mod' (bit_time a.burst.0) a.rate.0))
