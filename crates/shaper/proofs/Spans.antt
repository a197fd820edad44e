-- A moment and a span after it. Assumes nothing.
use Rattle.std.proofs.Common.{◌≡◌, ℕ, ◌+◌, ◌*◌, ◌<◌, ◌≤◌, pos, ◌+ℤ◌, ap, add-mul, arith}
use Rattle.records.specs.ExactTime.{exactly, or_zero}
use Rattle.records.specs.Steps.{shortfall}
use Rattle.records.specs.declared.Moment.{Moment}
use Rattle.records.proofs.Integers.{sum, sum_most, same}
use Rattle.records.proofs.ExactTime.{exactly_parts}
use Rattle.shaper.specs.Steps.{span_time, Later}
use Rattle.shaper.specs.declared.Span.{Span}

-- ---- a span after a moment: c is the carry
pub after : (r : ℕ) (l m : Moment) (s : Span) (u c : ℕ) → c ≤ 1 → u ≡ s.ticks + c → m.part < r → m.ticks ≡ l.ticks +ℤ pos u → m.part + c * r ≡ l.part + s.part → Later r l (span_time r s) (s.ticks + 1) m
unfolding span_time
after r l m s u c hc hu hp e p =
    let w : ℕ = s.ticks in
    let parts : or_zero m.ticks + shortfall l.ticks ≡ or_zero l.ticks + (w + c) + shortfall m.ticks = rw e (omega (arith, sum l.ticks (pos u))) in
    let scaled : or_zero m.ticks * r + shortfall l.ticks * r ≡ or_zero l.ticks * r + (w * r + c * r) + shortfall m.ticks * r = simp add-mul at (ap (λ (x : ℕ). x * r) parts) in
    let most : or_zero m.ticks ≤ or_zero l.ticks + u = rw e (sum_most l.ticks (pos u)).0 in
    record {
      exact = same _ _ (omega (arith, scaled, exactly_parts r m, exactly_parts r l, sum (exactly r l) (pos (w * r + s.part))));
      over = hp;
      most = omega arith;
    }
