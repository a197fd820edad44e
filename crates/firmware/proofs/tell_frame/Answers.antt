-- `firmware::tell_frame` meets its contract. Assumes nothing.
use Rattle.firmware.proofs.LentRecords.{frame_told_law}
use Rattle.firmware.proofs.tell_frame.Goals as goal

pub returns : goal.returns
returns c =
    let a = c.args in
    frame_told_law a.group a.id c.byte.ensures c.from-2.ensures a.stream c.from.ensures a.octets a.arrival a.time c.half.ensures c.judge_in-judged.ensures c.answer_number.ensures c.time_after.ensures c.stream_record.ensures c.from-3.ensures
