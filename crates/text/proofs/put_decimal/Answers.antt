-- `text::put_decimal` meets its contract: it fits, or does not. Assumes nothing.
use borrow.Author.Tests.{leb-true}
use Rattle.quantity.proofs.Booleans.{refuted, confirmed}
use Rattle.text.specs.Decimal.{decimal}
use Rattle.text.proofs.Stores.{no_room, decimal_length, decimal_fits}
use Rattle.text.proofs.put_decimal.Goals as goal

pub returns-then-not-has_room : goal.returns-then-not-has_room
returns-then-not-has_room c =
    let a = c.args in
    no_room a.out.now a.at (decimal a.n) (rw (decimal_length a.n, ← c.digit_count-k.ensures.0) (refuted c.has_room.ensures c.if-not-has_room.true))

pub returns : goal.returns
returns c =
    let a = c.args in
    decimal_fits a.out.now _ a.at c.digit_count-k.result a.n c.digit_count-k.ensures.0 (leb-true _ _ (confirmed c.has_room.ensures c.if-not-has_room.false)) c.put_digits.ensures
