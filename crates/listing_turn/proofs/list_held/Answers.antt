-- `listing_turn::list_held` meets its contract. Assumes nothing.
use Rattle.std.proofs.Common.{◌-◌, ◌≤◌, refl, arith}
use Rattle.intake.specs.Holding.{held_in}
use Rattle.listing_turn.specs.Turns.{left_held}
use Rattle.listing_turn.proofs.Making.{turn_made_law, part_used}
use Rattle.listing_turn.proofs.list_held.Goals as goal

pub overflow_add-left : goal.overflow_add-left
unfolding held_in
overflow_add-left c =
    let used : let h = c.args.standing.held in c.list_part-listed.result.place ≤ h.filled - h.place = part_used c.args.standing.held c.args.input.now _ _ _ _ _ c.requires c.list_part-listed.ensures in
    omega (arith, used)

pub returns : goal.returns
unfolding held_in left_held
returns c =
    let a = c.args in
    turn_made_law a.standing a.input.now a.output.now _ _ _ _ _ _ _ _ c.list_part-listed.ensures refl c.next_of-next.ensures c.put_end_if-written.ensures c.keep_for.ensures
