-- `text::digit_count` meets its contract. The loop's invariant: the bound is the power of ten that k digits hold, and what is left to count from k on is the whole. Assumes nothing.
use mathlib.Core.Path.{◌≡◌, refl, sym, ◌∙◌}
use native.Mathlib.Omega.{arith}
use Rattle.text.proofs.Digits.{found, goes_on, begins, all_twenty, next_power, small_power}
use Rattle.text.proofs.digit_count.Goals as goal

pub loop-k-init : goal.loop-k-init
loop-k-init c = record { power = refl; left = begins c.args.n }

pub returns-then-n-bound : goal.returns-then-n-bound
returns-then-n-bound c =
    let l = c.loop-k in
    (found l.k c.args.n (omega arith) l.invariant.left (omega (arith, l.invariant.power)), omega arith)

pub overflow_mul-bound : goal.overflow_mul-bound
overflow_mul-bound c =
    let l = c.loop-k in
    omega (arith, l.invariant.power, small_power l.k (omega arith))

pub loop-k-preserved : goal.loop-k-preserved
loop-k-preserved c =
    let l = c.loop-k in
    record {
      power = next_power l.k l.bound l.invariant.power;
      left = goes_on l.k c.args.n (omega arith) l.invariant.left (omega (arith, l.invariant.power));
    }

pub returns-then-n-bound-2 : goal.returns-then-n-bound-2
returns-then-n-bound-2 c =
    let l = c.loop-k in
    let e : l.k ≡ 19 = omega arith in
    (sym e ∙ found l.k c.args.n (omega arith) l.invariant.left (omega (arith, l.invariant.power)), omega arith)

pub returns-else-n-bound-2 : goal.returns-else-n-bound-2
returns-else-n-bound-2 c =
    let l = c.loop-k in
    let e : l.k ≡ 19 = omega arith in
    (all_twenty c.args.n (rw e at (goes_on l.k c.args.n (omega arith) l.invariant.left (omega (arith, l.invariant.power)))), omega arith)
