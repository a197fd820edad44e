-- `firmware::stream_record` meets its contract. Assumes nothing.
use borrow.Author.Rules.{rules}
use mir.Val.{SFits}
use mathlib.Core.Path.{sym, ap}
use mir.Syntax.{w64}
use mir.Facts.{to_z-of_z}
use Rattle.records.specs.declared.Regulator.{Regulator}
use Rattle.firmware.specs.Firmware.{stream_record, rewritten}
use Rattle.firmware.proofs.stream_record.Goals as goal

pub returns-in-Unset : goal.returns-in-Unset
unfolding stream_record rewritten
returns-in-Unset c =
    let a = c.args in
    sym (ap (λ (x : Regulator). rewritten a.s a.after.group a.after.rate x) c.in-Unset.is)

pub returns-in-Bucket : goal.returns-in-Bucket
unfolding stream_record rewritten
returns-in-Bucket c =
    let a = c.args in
    let fit : SFits w64 c.in-Bucket.empty.ticks = search rules in
    rw (to_z-of_z {w = w64} fit) (sym (ap (λ (x : Regulator). rewritten a.s a.after.group a.after.rate x) c.in-Bucket.is))
