-- `A stream is made of its lent record as the definition says. Assumes nothing.
use borrow.Author.Rules.{rules}
use mir.Val.{SFits}
use mir.Syntax.{w64}
use mir.Facts.{to_z-of_z}
use Rattle.firmware.specs.Firmware.{stream_of}
use Rattle.firmware.proofs.StreamFromStreamRecord.from.Goals as goal

pub returns-then-lent : goal.returns-then-lent
unfolding stream_of
returns-then-lent c =
    let s = c.args.lent in
    let fit : SFits w64 s.empty = search rules in
    simp (c.if-lent.true, to_z-of_z {w = w64} {z = s.empty} fit)

pub returns-else-lent : goal.returns-else-lent
unfolding stream_of
returns-else-lent c = simp c.if-lent.false
