-- A group's record to lend is made as the definition says. Assumes nothing.
use mathlib.Core.Path.{refl}
use Rattle.firmware.specs.Firmware.{group_record}
use Rattle.firmware.proofs.GroupRecordFromGroup.from.Goals as goal

pub returns : goal.returns
unfolding group_record
returns c = refl
