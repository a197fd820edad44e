-- `shaper::frame::emptied` meets its contract: before F, and from F on. Assumes nothing.
use Rattle.std.proofs.Common.{◌≡◌, ◌*◌, ◌≤◌, ℤ, pos, ◌+ℤ◌, sym, ap, ◌∙◌, arith}
use lib.Signed.{lt_z}
use Rattle.records.specs.ExactTime.{exactly, rounded_up, or_zero}
use Rattle.shaper.specs.Frame.{S, F}
use Rattle.records.specs.Steps.{shortfall}
use Rattle.shaper.specs.Steps.{span_time}
use Rattle.records.proofs.Integers.{not_negative, is_not_lt}
use Rattle.records.proofs.ExactTime.{moment_of_law, not_before_first, sign}
use Rattle.shaper.proofs.Judging.{before_full, from_full}
use Rattle.shaper.proofs.frame.emptied.Goals as goal

pub returns-then-at-first_tick : goal.returns-then-at-first_tick
unfolding S F
returns-then-at-first_tick c =
    let is_full : let a = c.args in exactly a.rate.0 c.charged_to-full.result ≡ F (exactly a.rate.0 a.empty) a.burst.0 = c.charged_to-full.ensures.exact in
    let first : let a = c.args in c.first_tick.result.0 ≡ or_zero (rounded_up a.rate.0 (F (exactly a.rate.0 a.empty) a.burst.0)) = let r = c.args.rate.0 in c.first_tick.ensures r c.charged_to-full.ensures.over ∙ ap (λ (z : ℤ). or_zero (rounded_up r z)) is_full in
    let a = c.args in
    let start = c.charged_to-start in
    moment_of_law a.rate.0 start.result _ start.ensures.over
    (start.ensures.exact ∙ sym (before_full a.rate.0 (exactly a.rate.0 a.empty) a.burst.0 a.bits.0 a.t.0 c.requires.0.full (omega arith) (omega (arith, first))))

pub returns : goal.returns
unfolding S F
returns c =
    let is_full : let a = c.args in exactly a.rate.0 c.charged_to-full.result ≡ F (exactly a.rate.0 a.empty) a.burst.0 = c.charged_to-full.ensures.exact in
    let a = c.args in
    let r = a.rate.0 in
    let start = c.charged_to-start in
    let n = span_time r c.until.result in
    let e = exactly r a.empty in
    moment_of_law r c.later.result _ c.later.ensures.over
    (c.later.ensures.exact ∙ ap (λ (z : ℤ). z +ℤ pos n) start.ensures.exact ∙ sym (from_full r e a.burst.0 a.bits.0 a.t.0 c.requires.0.full n (rw is_full at c.until.ensures.exact)))

-- F's whole ticks are not negative, since F is not
pub until-requires-clause-part_lt_rate : goal.until-requires-clause-part_lt_rate
unfolding F
until-requires-clause-part_lt_rate c =
    let a = c.args in
    let z = F (exactly a.rate.0 a.empty) a.burst.0 in
    let is_full : exactly a.rate.0 c.charged_to-full.result ≡ z = c.charged_to-full.ensures.exact in
    let whole : shortfall c.charged_to-full.result.ticks ≡ 0 =
    not_negative c.charged_to-full.result.ticks
    (sym (sign a.rate.0 c.charged_to-full.result c.charged_to-full.ensures.over) ∙ ap (λ (x : ℤ). lt_z x (pos 0)) is_full ∙ is_not_lt z (pos 0) (omega (arith, c.requires.0.full))) in
    (c.charged_to-full.ensures.over, whole)

-- where t is not before F: F is reached by t
pub until-requires-clause-m_bound : goal.until-requires-clause-m_bound
unfolding F
until-requires-clause-m_bound c =
    let a = c.args in
    let z = F (exactly a.rate.0 a.empty) a.burst.0 in
    let is_full : exactly a.rate.0 c.charged_to-full.result ≡ z = c.charged_to-full.ensures.exact in
    let first : c.first_tick.result.0 ≡ or_zero (rounded_up a.rate.0 z) =
    c.first_tick.ensures a.rate.0 c.charged_to-full.ensures.over ∙ ap (λ (y : ℤ). or_zero (rounded_up a.rate.0 y)) is_full in
    let reached : or_zero z ≤ a.t.0 * a.rate.0 = omega (arith, c.requires.0.full, not_before_first a.rate.0 (omega arith) z a.t.0 (omega (arith, first))) in
    rw is_full reached
