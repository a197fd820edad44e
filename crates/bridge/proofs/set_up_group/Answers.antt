-- `bridge::set_up_group` meets its contract. Assumes nothing.
use Rattle.bridge.proofs.Tables.{group_call}
use Rattle.bridge.proofs.set_up_group.Goals as goal

pub returns : goal.returns
returns c =
    let a = c.args in
    group_call a.bridge a.id a.class a.residence.0 c.place_of-at.result c.place_of-at.ensures.place c.place_group-placed.result c.place_group-placed.ensures
