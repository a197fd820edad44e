-- `firsts::first_least` meets its contract: what is left to look at gives what the whole gives. Assumes nothing.
use mathlib.Core.Path.{sym, ap, ◌∙◌}
use Rattle.std.specs.Prelude.{◌<◌, Some}
use native.Mathlib.Omega.{arith}
use Rattle.firsts.specs.declared.First.{First}
use Rattle.firsts.proofs.Firsts.{next_new, next_old, step_done, no_entry, first_start}
use Rattle.firsts.proofs.first_least.Goals as goal
use Rattle.firsts.proofs.first_least.Goals.{then-time-first, else-time-first}

pub returns-then-n-lt1 : goal.returns-then-n-lt1
returns-then-n-lt1 c = no_entry _ _ _ _ c.count-n.ensures.0 c.if-n-lt1.true

pub loop-place-init : goal.loop-place-init
loop-place-init c =
    (first_start _ _ _ _ c.count-n.ensures.0 (omega arith), (omega arith, omega arith))

pub loop-place-preserved : goal.loop-place-preserved
loop-place-preserved c =
    let v = c.loop-place.invariant in
    let h : c.loop-place.place < c.count-n.result = c.loop-place-test.true in (
      elim c.if-time-first.branch [
        | then-time-first w ↦ ap Some (next_new _ _ _ _ _ _ _ _ h w.if-time-first.true (ap (λ (f : First). f.place) w.first-is) (ap (λ (f : First). f.time.0) w.first-is))
        | else-time-first w ↦ ap Some (next_old _ _ _ _ _ _ _ _ h w.if-time-first.false (ap (λ (f : First). f.place) w.first-is) (ap (λ (f : First). f.time.0) w.first-is))
      ] ∙ v.0,
      (omega arith, omega arith),
    )

pub returns : goal.returns
returns c = ap Some (sym (step_done _ _ _ _ _ _ c.loop-place-test.false)) ∙ c.loop-place.invariant.0
