-- `listing_text::put_count` meets its contract: `end`, a space, the count and the line's end stand one after the other. Assumes nothing.
use mathlib.Core.Path.{refl}
use Prim.Native.Nat.{◌+◌, ◌-◌, ◌≤◌}
use native.Mathlib.Omega.{arith}
use mathlib.Core.List.{[], ◌∷◌, ◌++◌}
use lib.ListN.{length}
use borrow.Rule.Slice.PartMut.{put_mid}
use Rattle.text.specs.Decimal.{decimal}
use Rattle.text.proofs.Stores.{stored}
use Rattle.listing_text.specs.Lines.{newline, end_line}
use Rattle.listing_text.specs.Steps.{Put}
use Rattle.listing_text.proofs.Texts.{put_then, put_length, put_decimal, decimal_room}
use Rattle.listing_text.proofs.put_count.Goals as goal

pub bounds-out-last : goal.bounds-out-last
bounds-out-last c =
    let a = c.args in
    let word : Put a.out.now a.at (101 ∷ 110 ∷ 100 ∷ 32 ∷ []) (a.at + 4) (put_mid a.at (a.at + 4 - a.at) a.out.now c.copy_from_slice.new.self) = record { ends = refl; stands = stored a.out.now _ a.at _ (omega arith) c.copy_from_slice.ensures.after } in
    let long = put_length _ word in
    let room : c.put_decimal-last.result + 1 ≤ length c.put_decimal-last.new.out = decimal_room _ c.put_decimal-last.new.out (a.at + 4) c.put_decimal-last.result a.count 1 (omega (arith, long)) c.put_decimal-last.ensures in
    omega (arith, room)

pub overflow_add-result : goal.overflow_add-result
overflow_add-result c =
    let a = c.args in
    let word : Put a.out.now a.at (101 ∷ 110 ∷ 100 ∷ 32 ∷ []) (a.at + 4) (put_mid a.at (a.at + 4 - a.at) a.out.now c.copy_from_slice.new.self) = record { ends = refl; stands = stored a.out.now _ a.at _ (omega arith) c.copy_from_slice.ensures.after } in
    let long = put_length _ word in
    let count = put_decimal _ c.put_decimal-last.new.out (a.at + 4) c.put_decimal-last.result a.count (omega (arith, long)) c.put_decimal-last.ensures in
    let room : c.put_decimal-last.result + 1 ≤ length c.put_decimal-last.new.out = decimal_room _ c.put_decimal-last.new.out (a.at + 4) c.put_decimal-last.result a.count 1 (omega (arith, long)) c.put_decimal-last.ensures in
    omega (arith, room, put_length _ count, long)

pub returns : goal.returns
unfolding end_line
returns c =
    let a = c.args in
    let word : Put a.out.now a.at (101 ∷ 110 ∷ 100 ∷ 32 ∷ []) (a.at + 4) (put_mid a.at (a.at + 4 - a.at) a.out.now c.copy_from_slice.new.self) = record { ends = refl; stands = stored a.out.now _ a.at _ (omega arith) c.copy_from_slice.ensures.after } in
    put_then (101 ∷ 110 ∷ 100 ∷ 32 ∷ []) (decimal a.count ++ (newline ∷ [])) word
    (put_then (decimal a.count) (newline ∷ [])
    (put_decimal _ c.put_decimal-last.new.out (a.at + 4) c.put_decimal-last.result a.count (omega (arith, put_length _ word)) c.put_decimal-last.ensures)
    (record { ends = refl; stands = refl }))
