-- `listing_text::put_end` meets its contract: it has room, or has not. Assumes nothing.
use mathlib.Core.Path.{◌≡◌, sym, ap}
use mathlib.Core.List.{List}
use Prim.Native.Nat.{ℕ, ◌+◌, ◌≤◌, ◌<◌}
use native.Mathlib.Omega.{arith}
use borrow.Author.Tests.{leb-true}
use lib.ListN.{length}
use Rattle.quantity.proofs.Booleans.{refuted, confirmed}
use Rattle.tablefile.specs.Answers.{reading_number}
use Rattle.tablefile.specs.declared.Reading.{Reading}
use Rattle.listing_text.specs.Lines.{ending}
use Rattle.listing_text.specs.Places.{line_room, end_room, most_lines, end_put}
use Rattle.listing_text.specs.Steps.{Put}
use Rattle.listing_text.proofs.Texts.{put_text}
use Rattle.listing_text.proofs.Placing.{stays, puts}
use Rattle.listing_text.proofs.Endings.{no_room, no_number, may_be}
use Rattle.listing_text.proofs.put_end.Goals as goal

-- what ends the listing was put
ended : (l : List ℕ) (at count : ℕ) (r x : Reading) {next : ℕ} {o : List ℕ}
    → at + (line_room + end_room) ≤ length l → count < most_lines → r ≡ x → Put l at (ending count (reading_number x)) next o → record { next = next; bytes = o } ≡ end_put l at count r
unfolding end_put
ended l at count r x roomy few e p =
    puts l at _ (may_be count at (length l) roomy few)
    (put_text (ap (λ (y : Reading). ending count (reading_number y)) (sym e)) p)

pub returns-then-not-has_room : goal.returns-then-not-has_room
unfolding end_put
returns-then-not-has_room c = let a = c.args in stays a.out.now a.at _ (no_room a.count a.at _ (refuted c.has_room.ensures c.if-not-has_room.true))

pub returns-then-count-ge-MOST_LINES : goal.returns-then-count-ge-MOST_LINES
unfolding end_put
returns-then-count-ge-MOST_LINES c = let a = c.args in stays a.out.now a.at _ (no_number a.count a.at _ (omega arith))

pub returns-in-Found : goal.returns-in-Found
unfolding ending
returns-in-Found c =
    let a = c.args in
    let roomy = leb-true (a.at + (line_room + end_room)) (length a.out.now) (confirmed c.has_room.ensures c.if-not-has_room.false) in
    ended a.out.now a.at a.count a.reading _ roomy (omega arith) c.in-Found.is c.put_count.ensures

pub returns-in-NothingLeft : goal.returns-in-NothingLeft
unfolding ending
returns-in-NothingLeft c =
    let a = c.args in
    let roomy = leb-true (a.at + (line_room + end_room)) (length a.out.now) (confirmed c.has_room.ensures c.if-not-has_room.false) in
    ended a.out.now a.at a.count a.reading _ roomy (omega arith) c.in-NothingLeft.is c.put_count-in-NothingLeft.ensures

pub returns-in-Refused : goal.returns-in-Refused
returns-in-Refused c =
    let a = c.args in
    let roomy = leb-true (a.at + (line_room + end_room)) (length a.out.now) (confirmed c.has_room.ensures c.if-not-has_room.false) in
    ended a.out.now a.at a.count a.reading _ roomy (omega arith) c.in-Refused.is c.put_refused.ensures
