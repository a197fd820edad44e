-- `replay_account::put_part` meets its contract: each turn of the loop puts a line of the definition. Assumes nothing.
use mathlib.Core.Path.{◌≡◌, sym, ap, ◌∙◌}
use mathlib.Core.Bool.{false, ◌&&◌}
use mathlib.Core.List.{List}
use Prim.Native.Nat.{ℕ, ◌-◌}
use native.Mathlib.Omega.{arith}
use lib.Dec.{ltb, leb}
use lib.ListN.{length}
use Rattle.replay_text.specs.Lines.{line_room}
use Rattle.replay_text.specs.declared.Line.{Line}
use Rattle.replay_account.specs.Account.{lines_of, lines_put, part_put}
use Rattle.replay_account.specs.Steps.{next_after}
use Rattle.replay_account.proofs.Runs.{line_held}
use Rattle.replay_account.proofs.Lines.{same_lines, shown_within, lines_many}
use Rattle.replay_account.proofs.Underway.{holds, starts, turns, stops}
use Rattle.replay_account.proofs.put_part.Goals as goal

pub overflow_add-lines : goal.overflow_add-lines
overflow_add-lines c =
    let within = shown_within c.args.account c.shown-told.result _ _ _ c.shown-told.ensures (line_held c.shown-told.result.last search) in
    omega (arith, within.answered, within.handled, c.well_formed.1.1.0.1, c.well_formed.1.1.1.0.1)

pub overflow_add-lines-2 : goal.overflow_add-lines-2
overflow_add-lines-2 c =
    let within = shown_within c.args.account c.shown-told.result _ _ _ c.shown-told.ensures (line_held c.shown-told.result.last search) in
    omega (arith, within.answered, within.handled, c.well_formed.1.1.0.1, c.well_formed.1.1.1.0.1)

pub loop-told-init : goal.loop-told-init
loop-told-init c = starts _ _ _

pub line_at-line-requires : goal.line_at-line-requires
line_at-line-requires c = shown_within c.args.account c.shown-told.result _ _ _ c.shown-told.ensures (line_held c.shown-told.result.last search)

pub overflow_add-k : goal.overflow_add-k
overflow_add-k c =
    let within = shown_within c.args.account c.shown-told.result _ _ _ c.shown-told.ensures (line_held c.shown-told.result.last search) in
    let going = holds c.loop-told.k _ (length c.loop-told.out - c.loop-told.written) (sym c.goes_on.ensures ∙ c.loop-told-test.true) in
    omega (arith, going.0, within.answered, within.handled, c.well_formed.1.1.0.1, c.well_formed.1.1.1.0.1)

pub loop-told-preserved : goal.loop-told-preserved
loop-told-preserved c =
    let within = shown_within c.args.account c.shown-told.result _ _ _ c.shown-told.ensures (line_held c.shown-told.result.last search) in
    let many = lines_many c.shown-told.result c.args.answers.now c.args.picked.now c.args.moments.now within in
    let going = holds c.loop-told.k _ (length c.loop-told.out - c.loop-told.written) (sym c.goes_on.ensures ∙ c.loop-told-test.true) in
    turns _ _ _ _ _ _ c.loop-told.invariant _ c.line_at-line.result (omega (arith, going.0, many)) going.1 c.line_at-line.ensures.is c.line_at-line.ensures.short _ _ c.put_line-written.ensures

pub returns : goal.returns
unfolding part_put
returns c =
    let a = c.args in
    let told = c.shown-told.result in
    let within = shown_within a.account told _ _ _ c.shown-told.ensures (line_held told.last search) in
    let many = lines_many told a.answers.now a.picked.now a.moments.now within in
    let test : ltb c.loop-told.k (length (lines_of told a.answers.now a.picked.now a.moments.now)) && leb line_room (length c.loop-told.out - c.loop-told.written) ≡ false =
    ap (λ (n : ℕ). ltb c.loop-told.k n && leb line_room (length c.loop-told.out - c.loop-told.written)) many ∙ sym c.goes_on.ensures ∙ c.loop-told-test.false
    in
    stops _ _ _ _ _ _ c.loop-told.invariant test _ (c.next_after.ensures ∙ ap (next_after a.from c.loop-told.k) (sym many))
    ∙ ap (λ (ls : List Line). lines_put ls a.from a.out.now) (same_lines a.account told a.answers.now a.picked.now a.moments.now c.shown-told.ensures)
