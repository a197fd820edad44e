-- `shaper::frame::discarded` meets its contract. Assumes nothing.
use Rattle.std.proofs.Common.{ℕ, ap}
use Rattle.shaper.specs.Frame.{discarded}
use Rattle.records.specs.declared.Answer.TheVariants.{Discarded}
use Rattle.shaper.proofs.frame.discarded.Goals as goal

pub returns : goal.returns
unfolding discarded
returns c =
    let a = c.args in
    let g = a.group in
    ap (λ (n : ℕ). record { answer = Discarded a.t; stream = a.stream; group = record { used = g.used; class = g.class; residence = g.residence; time = g.time; last = a.arrival; discards = n } })
    c.wrapping_add_u32.ensures.value
