-- `listing_text::put_line` meets its contract: where it has room, the two halves of a line stand one after the other. Assumes nothing.
use mathlib.Core.Path.{◌≡◌}
use mathlib.Core.List.{[], ◌∷◌, ◌++◌, append_assoc}
use Prim.Native.Nat.{◌+◌, ◌≤◌}
use native.Mathlib.Omega.{arith}
use borrow.Author.Tests.{leb-true, le-leb}
use lib.ListN.{length, get_or}
use Rattle.quantity.proofs.Booleans.{refuted, confirmed}
use Rattle.text.specs.Decimal.{decimal}
use Rattle.listing_text.specs.Lines.{space, newline, values_of, column, line_of}
use Rattle.listing_text.specs.Places.{line_room, line_put}
use Rattle.listing_text.specs.Steps.{head_room}
use Rattle.listing_text.proofs.Texts.{put_then, put_text, head_within}
use Rattle.listing_text.proofs.Placing.{stays, puts}
use Rattle.listing_text.proofs.put_line.Goals as goal

pub returns-then-not-has_room : goal.returns-then-not-has_room
unfolding line_put
returns-then-not-has_room c = let a = c.args in stays a.out.now a.at _ (refuted c.has_room.ensures c.if-not-has_room.true)

pub put_tail-requires : goal.put_tail-requires
put_tail-requires c =
    let roomy : let a = c.args in a.at + line_room ≤ length a.out.now = let a = c.args in leb-true (a.at + line_room) (length a.out.now) (confirmed c.has_room.ensures c.if-not-has_room.false) in
    let head : let a = c.args in (c.put_head-tail.result ≤ a.at + head_room) × (length c.put_head-tail.new.out ≡ length a.out.now) = let a = c.args in head_within a.number space (get_or a.letters 0 0) (get_or a.letters 1 0) space c.put_head-tail.ensures in
    omega (arith, roomy, head.0, head.1)

pub returns : goal.returns
unfolding line_put line_of
returns c =
    let roomy : let a = c.args in a.at + line_room ≤ length a.out.now = let a = c.args in leb-true (a.at + line_room) (length a.out.now) (confirmed c.has_room.ensures c.if-not-has_room.false) in
    let a = c.args in
    puts a.out.now a.at _ (le-leb (a.at + line_room) (length a.out.now) roomy)
    (put_text (append_assoc (decimal a.number) (space ∷ get_or a.letters 0 0 ∷ get_or a.letters 1 0 ∷ space ∷ []) (decimal a.answer.number ++ (space ∷ (column (values_of a.answer.time) ++ (newline ∷ [])))))
    (put_then _ _ c.put_head-tail.ensures c.put_tail.ensures))
