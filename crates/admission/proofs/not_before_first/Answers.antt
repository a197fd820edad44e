-- `admission::not_before_first` meets its contract: from tick 0 on there is nothing to reckon, before it the division says. Assumes nothing.
use borrow.Author.Rules.{rules}
use mathlib.Core.Path.{◌≡◌, ap, ◌∙◌}
use mathlib.Core.Bool.{true}
use Prim.Native.Nat.{ℕ, ◌+◌, ◌/◌, ◌<◌, ◌^◌}
use native.Mathlib.Nat.{div-le_self}
use native.Mathlib.Omega.{arith}
use lib.IntN.{pos}
use lib.Signed.{lt_z, le_z}
use mir.Syntax.{w64}
use mir.Val.{SFits}
use mir.Facts.{to_z-of_z}
use Rattle.records.specs.ExactTime.{bit_time, or_zero}
use Rattle.records.proofs.Integers.{is_negative}
use Rattle.records.proofs.Machine.{sum_is}
use Rattle.admission.proofs.Buckets.{below_zero, from_start, by_division}
use Rattle.admission.proofs.not_before_first.Goals as goal

pub returns-then-ticks-ge0 : goal.returns-then-ticks-ge0
returns-then-ticks-ge0 c =
    let ticks_fit : SFits w64 c.args.empty.ticks = search rules in
    let a = c.args in
    from_start a.rate.0 a.empty (omega (arith, c.requires)) a.burst.0 (rw (to_z-of_z ticks_fit) at c.if-ticks-ge0.true)

pub returns : goal.returns
returns c =
    let ticks_fit : SFits w64 c.args.empty.ticks = search rules in
    let before_start : lt_z c.args.empty.ticks (pos 0) ≡ true = below_zero c.args.empty.ticks (rw (to_z-of_z ticks_fit) at c.if-ticks-ge0.false) in
    let quotient : ℕ = (bit_time c.args.burst.0 + c.args.empty.part) / c.args.rate.0 in
    let most : quotient < 2 ^ 63 = omega (arith, c.requires, div-le_self (bit_time c.args.burst.0 + c.args.empty.part) c.args.rate.0) in
    let room : or_zero c.args.empty.ticks + quotient < 2 ^ 63 = omega (arith, most, is_negative c.args.empty.ticks before_start) in
    ap (le_z (pos 0)) (sum_is c.args.empty.ticks quotient ticks_fit room)
    ∙ by_division c.args.rate.0 c.args.empty (omega (arith, c.requires)) c.args.burst.0 before_start
