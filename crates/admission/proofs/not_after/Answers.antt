-- `admission::not_after` meets its contract: before tick 0, at a whole tick, between two. Assumes nothing.
use mathlib.Core.Path.{ap, ◌∙◌}
use Prim.Native.Nat.{ℕ}
use native.Mathlib.Omega.{arith}
use lib.Dec.{leb, ltb}
use mir.Facts.{to_z-of_z}
use mir.Syntax.{w64}
use mir.Val.{SFits}
use borrow.Author.Rules.{rules}
use Rattle.records.proofs.Machine.{clip_is}
use Rattle.admission.proofs.Buckets.{after_negative, after_whole, after_part}
use Rattle.admission.proofs.not_after.Goals as goal

pub returns-then-ticks-lt0 : goal.returns-then-ticks-lt0
returns-then-ticks-lt0 c = λ r h.
    let a = c.args in
    let fit : SFits w64 a.empty.ticks = search rules in
    after_negative r a.empty h a.time.0 (rw (to_z-of_z fit) at c.if-ticks-lt0.true)

pub returns-then-part-eq0 : goal.returns-then-part-eq0
returns-then-part-eq0 c = λ r h.
    let a = c.args in
    let fit : SFits w64 a.empty.ticks = search rules in
    ap (λ (n : ℕ). leb n a.time.0) (clip_is a.empty.ticks fit c.if-ticks-lt0.false)
    ∙ after_whole r a.empty h a.time.0 (rw (to_z-of_z fit) at c.if-ticks-lt0.false) c.if-part-eq0.true

pub returns : goal.returns
returns c = λ r h.
    let a = c.args in
    let fit : SFits w64 a.empty.ticks = search rules in
    ap (λ (n : ℕ). ltb n a.time.0) (clip_is a.empty.ticks fit c.if-ticks-lt0.false)
    ∙ after_part r a.empty h a.time.0 (rw (to_z-of_z fit) at c.if-ticks-lt0.false) (omega arith)
