-- `lent::unready` meets its contract. Assumes nothing.
use borrow.Author.Tests.{ne_eqb, eq-eqb}
use mathlib.Core.Path.{sym, ap}
use Rattle.records.specs.declared.Answer.TheVariants.{Refused}
use Rattle.lent.specs.InPlace.{run_places}
use Rattle.lent.proofs.InPlaceLaws.{length_first, then_stream}
use Rattle.lent.proofs.unready.Goals as goal

pub returns-then-places-ne-RUN_PLACES : goal.returns-then-places-ne-RUN_PLACES
returns-then-places-ne-RUN_PLACES c = sym (ap Refused (length_first c.args.places (ne_eqb c.args.places run_places c.if-places-ne-RUN_PLACES.true)))

pub returns : goal.returns
returns c = sym (ap Refused (then_stream c.args.places (eq-eqb c.args.places run_places c.if-places-ne-RUN_PLACES.false)))
