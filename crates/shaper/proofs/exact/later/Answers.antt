-- `shaper::exact::later` meets its contract: one carry at most, by `after`. Assumes nothing.
use borrow.Author.Rules.{rules}
use mir.Syntax.{w64}
use mir.Val.{SFits}
use Rattle.std.proofs.Common.{◌+◌, arith}
use Rattle.records.proofs.Machine.{handed}
use Rattle.shaper.proofs.Spans.{after}
use Rattle.shaper.proofs.exact.later.Goals as goal

pub returns-then-over-r : goal.returns-then-over-r
returns-then-over-r c =
    let a = c.args in
    let fit : SFits w64 a.m.ticks = search rules in
    after a.rate.0 a.m _ a.span a.span.ticks 0 (omega arith) (omega arith) (omega arith)
    (handed a.m.ticks c.raised.result a.span.ticks fit (record { sfits = c.raised.type_inv }) c.raised.ensures) (omega arith)

pub returns-else-over-r : goal.returns-else-over-r
returns-else-over-r c =
    let a = c.args in
    let fit : SFits w64 a.m.ticks = search rules in
    after a.rate.0 a.m _ a.span (a.span.ticks + 1) 1 (omega arith) (omega arith) (omega arith)
    (handed a.m.ticks c.raised-else-over-r.result (a.span.ticks + 1) fit (record { sfits = c.raised-else-over-r.type_inv }) c.raised-else-over-r.ensures) (omega arith)
