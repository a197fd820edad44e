-- `listing_text::put_head` meets its contract: the number stands, and the letters behind it. Assumes nothing.
use mathlib.Core.Path.{refl}
use Prim.Native.Nat.{◌+◌, ◌≤◌}
use native.Mathlib.Omega.{arith}
use lib.ListN.{length}
use Rattle.text.specs.Decimal.{decimal}
use Rattle.text.proofs.Stores.{stored}
use Rattle.listing_text.proofs.Texts.{put_then, put_decimal, decimal_room}
use Rattle.listing_text.proofs.put_head.Goals as goal

pub overflow_add-end : goal.overflow_add-end
overflow_add-end c =
    let room : c.put_decimal-after.result + 4 ≤ length c.put_decimal-after.new.out = let a = c.args in decimal_room a.out.now c.put_decimal-after.new.out a.at c.put_decimal-after.result a.number 4 (omega arith) c.put_decimal-after.ensures in
    omega (arith, room)

pub slice_bounds-copy_from_slice-end : goal.slice_bounds-copy_from_slice-end
slice_bounds-copy_from_slice-end c =
    let room : c.put_decimal-after.result + 4 ≤ length c.put_decimal-after.new.out = let a = c.args in decimal_room a.out.now c.put_decimal-after.new.out a.at c.put_decimal-after.result a.number 4 (omega arith) c.put_decimal-after.ensures in
    omega (arith, room)

pub returns : goal.returns
returns c =
    let a = c.args in
    let room : c.put_decimal-after.result + 4 ≤ length c.put_decimal-after.new.out = decimal_room a.out.now c.put_decimal-after.new.out a.at c.put_decimal-after.result a.number 4 (omega arith) c.put_decimal-after.ensures in
    put_then (decimal a.number) _
    (put_decimal a.out.now c.put_decimal-after.new.out a.at c.put_decimal-after.result a.number (omega arith) c.put_decimal-after.ensures)
    (record { ends = refl; stands = stored _ _ _ _ room c.copy_from_slice.ensures.after })
