-- `classes::entry_sound` meets its contract. Assumes nothing.
use mathlib.Core.Path.{sym, ◌∙◌}
use Rattle.classes.proofs.Scans.{charge_out, charge_in}
use Rattle.classes.proofs.entry_sound.Goals as goal

pub returns-then-in_range : goal.returns-then-in_range
returns-then-in_range c = c.in_range-then-in_range.ensures ∙ charge_in _ _ (sym c.in_range.ensures ∙ c.if-in_range.true)

pub returns-else-in_range : goal.returns-else-in_range
returns-else-in_range c = c.if-in_range.false ∙ charge_out _ _ (sym c.in_range.ensures ∙ c.if-in_range.false)
