-- `writer::write` meets its contract: the length decides, and then the record is stored at the front.
-- Assumes nothing.
use native.Mathlib.Omega.{arith}
use Rattle.writer.proofs.FieldsStored.{no_room, room}
use Rattle.writer.proofs.write.Goals as goal

pub returns-then-part-size : goal.returns-then-part-size
returns-then-part-size c =
    let a = c.args in
    no_room a.given a.part.now (omega (arith, c.size_of-size.ensures))

pub returns : goal.returns
returns c =
    let a = c.args in
    let bytes = c.size_of-size.ensures in
    rw (c.put_record.ensures, bytes) (room a.given a.part.now (omega arith))
