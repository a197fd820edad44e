-- `listing_turn::turn` meets its contract: what is held is in the buffer, or it is not. Assumes nothing.
use Rattle.std.proofs.Common.{◌∙◌}
use Rattle.quantity.proofs.Booleans.{refuted, confirmed}
use Rattle.intake.proofs.Promises.{is_within_law}
use Rattle.listing_turn.specs.Turns.{nothing_listed}
use Rattle.listing_turn.proofs.Making.{is_listed, not_listed}
use Rattle.listing_turn.proofs.turn.Goals as goal

pub returns-then-not-is_within : goal.returns-then-not-is_within
unfolding nothing_listed
returns-then-not-is_within c =
    let a = c.args in
    not_listed a.standing a.input.now a.output.now (refuted c.is_within.ensures c.if-not-is_within.true)

pub list_held-requires : goal.list_held-requires
list_held-requires c =
    let a = c.args in
    is_within_law a.standing.held _ (confirmed c.is_within.ensures c.if-not-is_within.false)

pub returns : goal.returns
returns c =
    let a = c.args in
    c.list_held.ensures ∙ is_listed a.standing a.input.now a.output.now (confirmed c.is_within.ensures c.if-not-is_within.false)
