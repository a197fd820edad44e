-- `shaper::exact::first_tick` meets its contract: below 0, at a whole tick, between two. Assumes nothing.
use borrow.Author.Rules.{rules}
use Rattle.std.proofs.Common.{◌≡◌, ℕ, ◌+◌, false, pos, ap, ◌∙◌, arith, to_z-of_z, w64, SFits}
use lib.Signed.{lt_z}
use Rattle.records.proofs.Machine.{clip_is}
use Rattle.records.proofs.ExactTime.{up_negative, up_whole, up_next}
use Rattle.shaper.proofs.exact.first_tick.Goals as goal

pub returns-then-ticks-lt0 : goal.returns-then-ticks-lt0
returns-then-ticks-lt0 c =
    let ticks_fit : SFits w64 c.args.m.ticks = search rules in
    λ r h. up_negative r c.args.m h (rw (to_z-of_z ticks_fit) at c.if-ticks-lt0.true)

pub returns-then-part-eq0 : goal.returns-then-part-eq0
returns-then-part-eq0 c =
    let ticks_fit : SFits w64 c.args.m.ticks = search rules in
    let from_start : lt_z c.args.m.ticks (pos 0) ≡ false = rw (to_z-of_z ticks_fit) at c.if-ticks-lt0.false in
    λ r h.
    clip_is _ ticks_fit c.if-ticks-lt0.false ∙ up_whole r c.args.m h from_start c.if-part-eq0.true

pub returns : goal.returns
returns c =
    let ticks_fit : SFits w64 c.args.m.ticks = search rules in
    let from_start : lt_z c.args.m.ticks (pos 0) ≡ false = rw (to_z-of_z ticks_fit) at c.if-ticks-lt0.false in
    λ r h.
    ap (λ (n : ℕ). n + 1) (clip_is _ ticks_fit c.if-ticks-lt0.false) ∙ up_next r c.args.m h from_start (omega arith)
