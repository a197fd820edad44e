-- `text::number_in` meets its contract. The loop's invariant: the digits that are left, after the number so far, say what all say. Assumes nothing.
use Rattle.text.proofs.Numerals.{Reading}
use Rattle.text.proofs.number_in.Given as goal

abbrev pub invariant-loop-byte : goal.invariant-loop-byte
invariant-loop-byte l = Reading l.bytes l.n l.byte-index
