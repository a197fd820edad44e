-- `bridge::Bridge::set_up_stream` meets its contract. Assumes nothing.
use Rattle.bridge.proofs.Tables.{stream_call}
use Rattle.bridge.proofs.Bridge.set_up_stream.Goals as goal

pub returns : goal.returns
returns c =
    let a = c.args in
    stream_call a.self.now a.id a.group a.rate.0 a.burst.0 c.place_of-at.result c.place_of-of.result c.place_of-at.ensures.place c.place_of-of.ensures.place c.place_stream-placed.result c.place_stream-placed.ensures
