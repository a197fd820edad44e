-- `shaper::frame::released` meets its contract. Assumes nothing.
use Rattle.std.proofs.Common.{ap}
use Rattle.shaper.specs.Frame.{released}
use Rattle.records.specs.declared.Answer.TheVariants.{Released}
use Rattle.records.specs.declared.Regulator.{Regulator}
use Rattle.shaper.proofs.frame.released.Goals as goal

pub returns : goal.returns
unfolding released
returns c =
    let a = c.args in
    let g = a.group in
    ap (λ (k : Regulator). record { answer = Released a.t; stream = record { group = a.stream.group; rate = a.stream.rate; regulator = k }; group = record { used = g.used; class = g.class; residence = g.residence; time = a.t; last = a.arrival; discards = g.discards } })
    c.regulator_after.ensures
