-- `quantity::place_of` meets its contract. Assumes nothing.
use mathlib.Core.Path.{sym, ◌∙◌}
use Rattle.quantity.proofs.Ranges.{place_in, place_out, at_most}
use Rattle.quantity.proofs.place_of.Goals as goal

pub returns-then-in_range : goal.returns-then-in_range
returns-then-in_range c =
    let a = c.args in
    let inside = sym c.in_range.ensures ∙ c.if-in_range.true in
    record { place = sym (place_in a.item a.id inside); within = at_most a.item a.id inside }

pub returns-else-in_range-clause-place : goal.returns-else-in_range-clause-place
returns-else-in_range-clause-place c = let a = c.args in sym (place_out a.item a.id (sym c.in_range.ensures ∙ c.if-in_range.false))
