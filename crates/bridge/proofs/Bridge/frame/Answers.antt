-- `bridge::Bridge::frame` meets its contract. Assumes nothing.
use Rattle.bridge.proofs.Tables.{frame_call}
use Rattle.bridge.proofs.Bridge.frame.Goals as goal

pub returns : goal.returns
returns c =
    let a = c.args in
    frame_call a.self.now a.id a.octets a.arrival.0 c.place_of-at.result c.place_of-of.result c.place_of-at.ensures.place c.place_of-of.ensures.place c.judge_at-judged.result c.judge_at-judged.ensures
