-- `lent::is_ready` meets its contract. Assumes nothing.
use borrow.Author.Tests.{ne_eqb, eq-eqb}
use mathlib.Core.Path.{sym, ◌∙◌}
use Rattle.lent.specs.InPlace.{run_places}
use Rattle.lent.proofs.InPlaceLaws.{of_another_length, of_its_length}
use Rattle.lent.proofs.is_ready.Goals as goal

pub returns-then-places-ne-RUN_PLACES : goal.returns-then-places-ne-RUN_PLACES
returns-then-places-ne-RUN_PLACES c =
    let a = c.args in
    sym (of_another_length a.places a.stream (ne_eqb a.places run_places c.if-places-ne-RUN_PLACES.true))

pub returns : goal.returns
returns c =
    let a = c.args in
    c.in_range.ensures ∙ of_its_length a.places a.stream (eq-eqb a.places run_places c.if-places-ne-RUN_PLACES.false)
