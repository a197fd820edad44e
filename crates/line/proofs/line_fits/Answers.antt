-- `line::line_fits` meets its contract. Assumes nothing.
use Rattle.quantity.proofs.Booleans.{refuted, confirmed}
use Rattle.line.specs.Run.{line_fits}
use Rattle.line.proofs.line_fits.Goals as goal

pub returns-then-in_range : goal.returns-then-in_range
unfolding line_fits
returns-then-in_range c = simp (confirmed c.in_range.ensures c.if-in_range.true) c.in_range-then-in_range.ensures

pub returns-else-in_range : goal.returns-else-in_range
unfolding line_fits
returns-else-in_range c = simp (refuted c.in_range.ensures c.if-in_range.false) c.if-in_range.false
