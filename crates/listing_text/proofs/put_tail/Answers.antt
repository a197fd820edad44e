-- `listing_text::put_tail` meets its contract: the number, a space, the last column and the line's end stand one after the other. Assumes nothing.
use mathlib.Core.Path.{◌≡◌, refl, ◌∙◌}
use Prim.Native.Nat.{◌+◌, ◌≤◌}
use native.Mathlib.Omega.{arith}
use mathlib.Core.List.{[], ◌∷◌, ◌++◌}
use lib.ListN.{length, length-set}
use Rattle.text.specs.Decimal.{decimal}
use Rattle.listing_text.specs.Lines.{space, newline, values_of, column}
use Rattle.listing_text.proofs.Texts.{put_then, put_length, byte_short, column_short}
use Rattle.listing_text.proofs.put_tail.Goals as goal

pub bounds-out-after : goal.bounds-out-after
bounds-out-after c =
    let room : c.put_number-after.result + 22 ≤ length c.put_number-after.new.out = let p = c.put_number-after.ensures in omega (arith, p.ends, put_length _ p, byte_short c.args.number (omega (arith, c.ranges.number))) in
    omega (arith, room)

pub overflow_add-after : goal.overflow_add-after
overflow_add-after c =
    let room : c.put_number-after.result + 22 ≤ length c.put_number-after.new.out = let p = c.put_number-after.ensures in omega (arith, p.ends, put_length _ p, byte_short c.args.number (omega (arith, c.ranges.number))) in
    omega (arith, room)

pub put_shown-last-requires : goal.put_shown-last-requires
put_shown-last-requires c =
    let room : c.put_number-after.result + 22 ≤ length c.put_number-after.new.out = let p = c.put_number-after.ensures in omega (arith, p.ends, put_length _ p, byte_short c.args.number (omega (arith, c.ranges.number))) in
    simp length-set (omega (arith, room))

pub bounds-out-last : goal.bounds-out-last
bounds-out-last c =
    let room : c.put_number-after.result + 22 ≤ length c.put_number-after.new.out = let p = c.put_number-after.ensures in omega (arith, p.ends, put_length _ p, byte_short c.args.number (omega (arith, c.ranges.number))) in
    let last_room : (c.put_shown-last.result + 1 ≤ length c.put_shown-last.new.out) × (length c.put_shown-last.new.out ≡ length c.args.out.now) = let p = c.put_shown-last.ensures in let long = put_length _ p ∙ length-set c.put_number-after.new.out c.put_number-after.result space in (omega (arith, p.ends, long, room, column_short (values_of c.args.time)), long ∙ put_length _ c.put_number-after.ensures) in
    omega (arith, last_room.0)

pub overflow_add-result : goal.overflow_add-result
overflow_add-result c =
    let room : c.put_number-after.result + 22 ≤ length c.put_number-after.new.out = let p = c.put_number-after.ensures in omega (arith, p.ends, put_length _ p, byte_short c.args.number (omega (arith, c.ranges.number))) in
    let last_room : (c.put_shown-last.result + 1 ≤ length c.put_shown-last.new.out) × (length c.put_shown-last.new.out ≡ length c.args.out.now) = let p = c.put_shown-last.ensures in let long = put_length _ p ∙ length-set c.put_number-after.new.out c.put_number-after.result space in (omega (arith, p.ends, long, room, column_short (values_of c.args.time)), long ∙ put_length _ c.put_number-after.ensures) in
    omega (arith, last_room.0, last_room.1)

pub returns : goal.returns
returns c =
    let a = c.args in
    put_then (decimal a.number) (space ∷ (column (values_of a.time) ++ (newline ∷ []))) c.put_number-after.ensures
    (put_then (space ∷ []) (column (values_of a.time) ++ (newline ∷ [])) (record { ends = refl; stands = refl })
    (put_then (column (values_of a.time)) (newline ∷ []) c.put_shown-last.ensures (record { ends = refl; stands = refl })))
