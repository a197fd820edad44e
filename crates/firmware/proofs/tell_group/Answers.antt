-- `firmware::tell_group` meets its contract. Assumes nothing.
use Rattle.firmware.proofs.LentRecords.{group_told_law}
use Rattle.firmware.proofs.tell_group.Goals as goal

pub returns : goal.returns
returns c =
    let a = c.args in
    group_told_law a.group a.id c.byte.ensures c.from.ensures a.class a.residence c.byte-2.ensures c.place_group-placed.ensures c.set_up_number.ensures c.from-2.ensures
