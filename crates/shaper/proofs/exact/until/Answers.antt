-- `shaper::exact::until` meets its contract: whole ticks, or one tick borrowed. Assumes nothing.
use Rattle.std.proofs.Common.{◌≡◌, ℕ, ◌-◌, false, pos, nat_abs, arith, to_z-of_z, w64, SFits, to_z, of_z, rules}
use lib.Signed.{lt_z}
use Rattle.records.specs.ExactTime.{or_zero}
use Rattle.shaper.specs.Steps.{span_time}
use Rattle.records.proofs.Integers.{is_not_lt}
use Rattle.records.proofs.Machine.{clip_is}
use Rattle.records.proofs.ExactTime.{reach, within, within_more}
use Rattle.shaper.proofs.exact.until.Goals as goal

pub overflow_sub-result : goal.overflow_sub-result
overflow_sub-result c =
    let ticks_fit : SFits w64 c.args.m.ticks = search rules in
    let not_below : lt_z (to_z w64 (of_z w64 c.args.m.ticks)) (pos 0) ≡ false = rw (to_z-of_z ticks_fit) (is_not_lt c.args.m.ticks (pos 0) (omega (arith, c.requires.part_lt_rate.1))) in
    let ticks : ℕ = nat_abs (to_z w64 (of_z w64 c.args.m.ticks)) in
    let whole : ticks ≡ or_zero c.args.m.ticks = clip_is c.args.m.ticks ticks_fit not_below in
    omega (arith, whole, within c.args.rate.0 c.args.m c.requires.part_lt_rate.1 c.args.t.0 (omega arith) c.requires.m_bound)

pub returns-then-part-eq0 : goal.returns-then-part-eq0
unfolding span_time
returns-then-part-eq0 c =
    let ticks_fit : SFits w64 c.args.m.ticks = search rules in
    let not_below : lt_z (to_z w64 (of_z w64 c.args.m.ticks)) (pos 0) ≡ false = rw (to_z-of_z ticks_fit) (is_not_lt c.args.m.ticks (pos 0) (omega (arith, c.requires.part_lt_rate.1))) in
    let ticks : ℕ = nat_abs (to_z w64 (of_z w64 c.args.m.ticks)) in
    let whole : ticks ≡ or_zero c.args.m.ticks = clip_is c.args.m.ticks ticks_fit not_below in
    let n = ticks in
    record {
      exact = reach c.args.rate.0 c.args.m c.requires.part_lt_rate.1 c.args.t.0 (c.args.t.0 - n) 0 0 (omega (arith, whole, within c.args.rate.0 c.args.m c.requires.part_lt_rate.1 c.args.t.0 (omega arith) c.requires.m_bound)) (omega arith);
      over = omega arith;
      most = omega arith;
    }

pub overflow_sub-result-2 : goal.overflow_sub-result-2
overflow_sub-result-2 c =
    let ticks_fit : SFits w64 c.args.m.ticks = search rules in
    let not_below : lt_z (to_z w64 (of_z w64 c.args.m.ticks)) (pos 0) ≡ false = rw (to_z-of_z ticks_fit) (is_not_lt c.args.m.ticks (pos 0) (omega (arith, c.requires.part_lt_rate.1))) in
    let ticks : ℕ = nat_abs (to_z w64 (of_z w64 c.args.m.ticks)) in
    let whole : ticks ≡ or_zero c.args.m.ticks = clip_is c.args.m.ticks ticks_fit not_below in
    omega (arith, whole, within c.args.rate.0 c.args.m c.requires.part_lt_rate.1 c.args.t.0 (omega arith) c.requires.m_bound)

pub overflow_sub-result-3 : goal.overflow_sub-result-3
overflow_sub-result-3 c =
    let ticks_fit : SFits w64 c.args.m.ticks = search rules in
    let not_below : lt_z (to_z w64 (of_z w64 c.args.m.ticks)) (pos 0) ≡ false = rw (to_z-of_z ticks_fit) (is_not_lt c.args.m.ticks (pos 0) (omega (arith, c.requires.part_lt_rate.1))) in
    let ticks : ℕ = nat_abs (to_z w64 (of_z w64 c.args.m.ticks)) in
    let whole : ticks ≡ or_zero c.args.m.ticks = clip_is c.args.m.ticks ticks_fit not_below in
    omega (arith, whole, within_more c.args.rate.0 c.args.m c.requires.part_lt_rate.1 c.args.t.0 (omega arith) c.requires.m_bound)

pub returns : goal.returns
unfolding span_time
returns c =
    let ticks_fit : SFits w64 c.args.m.ticks = search rules in
    let not_below : lt_z (to_z w64 (of_z w64 c.args.m.ticks)) (pos 0) ≡ false = rw (to_z-of_z ticks_fit) (is_not_lt c.args.m.ticks (pos 0) (omega (arith, c.requires.part_lt_rate.1))) in
    let ticks : ℕ = nat_abs (to_z w64 (of_z w64 c.args.m.ticks)) in
    let whole : ticks ≡ or_zero c.args.m.ticks = clip_is c.args.m.ticks ticks_fit not_below in
    let n = ticks in
    record {
      exact = reach c.args.rate.0 c.args.m c.requires.part_lt_rate.1 c.args.t.0 (c.args.t.0 - n - 1) (c.args.rate.0 - c.args.m.part) 1 (omega (arith, whole, within_more c.args.rate.0 c.args.m c.requires.part_lt_rate.1 c.args.t.0 (omega arith) c.requires.m_bound)) (omega arith);
      over = omega arith;
      most = omega arith;
    }
