-- `listing_text::put_shown` meets its contract. Assumes nothing.
use mathlib.Core.Path.{refl, sym, ap}
use native.Mathlib.Omega.{arith}
use Rattle.std.specs.Prelude.{Option}
use Rattle.listing_text.specs.Lines.{values_of, column}
use Rattle.quantity.specs.declared.Ticks.{Ticks}
use Rattle.listing_text.proofs.Texts.{put_text, put_decimal}
use Rattle.listing_text.proofs.put_shown.Goals as goal

pub returns-in-Some : goal.returns-in-Some
unfolding column values_of
returns-in-Some c =
    let a = c.args in
    put_text (sym (ap (λ (s : Option Ticks). column (values_of s)) c.in-Some.is))
    (put_decimal a.out.now c.put_decimal.new.out a.at c.put_decimal.result c.in-Some.ticks.0 (omega arith) c.put_decimal.ensures)

pub returns-in-None : goal.returns-in-None
unfolding column values_of
returns-in-None c =
    put_text (sym (ap (λ (s : Option Ticks). column (values_of s)) c.in-None.is)) (record { ends = refl; stands = refl })
