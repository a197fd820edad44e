-- `text::put_digits` meets its contract. The loop's invariant: the last j digits stand before the end, and the rest is what is left of the number. Assumes nothing.
use mathlib.Core.Path.{refl, sym}
use native.Mathlib.Nat.{div-one}
use native.Mathlib.Omega.{arith}
use lib.ListN.{length-set}
use Rattle.text.specs.Decimal.{last_digits}
use Rattle.text.proofs.Digits.{next_rest}
use Rattle.text.proofs.Stores.{digit_more}
use Rattle.text.proofs.put_digits.Goals as goal

pub loop-j-init : goal.loop-j-init
unfolding last_digits
loop-j-init c = record { left = sym (div-one c.args.n); written = refl; long = refl }

pub loop-j-preserved : goal.loop-j-preserved
loop-j-preserved c =
    let l = c.loop-j in
    let a = c.args in
    record {
      left = next_rest a.n l.j l.rest l.invariant.left;
      written = digit_more a.out.now l.out a.end l.j a.n l.rest (omega arith) l.invariant.left l.invariant.written;
      long = simp length-set l.invariant.long;
    }
