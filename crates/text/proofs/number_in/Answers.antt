-- `text::number_in` meets its contract. The loop's invariant: the digits that are left, after the number so far, say what all say. Assumes nothing.
use mathlib.Core.Path.{◌∙◌}
use Prim.Native.Nat.{◌<◌}
use native.Mathlib.Omega.{arith}
use lib.ListN.{length}
use Rattle.std.proofs.lemmas.Bool.Decides.{nat_tests}
use Rattle.text.proofs.Numerals.{none_at_all, no_digit_is, digit_is, begins, no_digit, digit_on, all_read}
use Rattle.text.proofs.number_in.Goals as goal

pub returns-then-is_empty : goal.returns-then-is_empty
returns-then-is_empty c = none_at_all c.args.bytes.now (grind (arith, nat_tests))

pub returns-in_err-digit_of : goal.returns-in_err-digit_of
returns-in_err-digit_of c =
    c.from_residual.ensures ∙ no_digit _ _ _ c.loop-byte.invariant c.loop-byte-test.true (no_digit_is _ _ c.in_err-digit_of.ensures)

pub loop-byte-init : goal.loop-byte-init
loop-byte-init c = begins _

pub loop-byte-preserved : goal.loop-byte-preserved
loop-byte-preserved c =
    let d = digit_is _ _ _ c.in_ok-digit_of.ensures in
    digit_on _ _ _ c.loop-byte.invariant c.loop-byte-test.true d.0 _ (rw (← d.1) c.with_digit-n.ensures)

pub returns : goal.returns
returns c =
    let some : 0 < length c.args.bytes.now = grind (arith, nat_tests) in
    all_read _ _ _ c.loop-byte.invariant some (omega arith)
