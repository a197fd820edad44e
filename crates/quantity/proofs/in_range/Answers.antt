-- `quantity::in_range` meets its contract. Assumes nothing.
use mathlib.Core.Path.{◌∙◌}
use Rattle.quantity.specs.Ranges.{in_range}
use Rattle.quantity.proofs.Ranges.{contained}
use Rattle.quantity.proofs.in_range.Goals as goal

pub returns : goal.returns
unfolding in_range
returns c =
    let r = c.range_of.ensures in
    c.contains.ensures.value ∙ contained _ _ _ _ r.0 r.1.0 r.1.1
