-- `shaper::frame::eligibility_time` meets its contract. Assumes nothing.
use Rattle.std.proofs.Common.{ap, max, ◌∙◌}
use Rattle.quantity.specs.declared.Ticks.{Ticks}
use Rattle.quantity.proofs.Order.{later_is}
use Rattle.shaper.specs.Frame.{eligibility_time}
use Rattle.shaper.proofs.frame.eligibility_time.Goals as goal

pub returns : goal.returns
unfolding eligibility_time
returns c =
    let earlier = ap (λ (t : Ticks). t.0) c.max.ensures ∙ later_is _ _ in
    ap (λ (t : Ticks). t.0) c.max-2.ensures ∙ later_is _ _
    ∙ (λ i. max (earlier i) (c.earliest_tick-allowed.ensures i))
