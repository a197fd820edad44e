-- `firmware::tell_stream` meets its contract. Assumes nothing.
use Rattle.firmware.proofs.LentRecords.{stream_told_law}
use Rattle.firmware.proofs.tell_stream.Goals as goal

pub returns : goal.returns
returns c =
    let a = c.args in
    stream_told_law a.group a.id c.byte.ensures c.from-2.ensures a.stream c.from.ensures a.in_group a.rate a.burst c.byte-2.ensures c.place_stream-placed.ensures c.set_up_number.ensures c.stream_record.ensures
