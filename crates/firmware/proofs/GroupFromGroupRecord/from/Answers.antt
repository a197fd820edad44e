-- A group is made of its lent record as the definition says. Assumes nothing.
use mathlib.Core.Path.{refl}
use Rattle.firmware.specs.Firmware.{group_of}
use Rattle.firmware.proofs.GroupFromGroupRecord.from.Goals as goal

pub returns : goal.returns
unfolding group_of
returns c = refl
