-- `shaper::exact::lasting` meets its contract: a quotient and its remainder make the dividend. Assumes nothing.
use Rattle.std.proofs.Common.{mod-lt, div-add-mod', div-le_self}
use Rattle.records.specs.ExactTime.{bit_time}
use Rattle.shaper.specs.Steps.{span_time}
use Rattle.shaper.proofs.exact.lasting.Goals as goal

pub returns : goal.returns
unfolding span_time
returns c =
    let a = c.args in
    let n = bit_time a.bits.0 in
    record {
      exact = div-add-mod' n a.rate.0;
      over = mod-lt n c.requires.1;
      most = div-le_self n a.rate.0;
    }
