-- Laws of the order of ticks: the later of two is the one of the larger number. Assumes nothing.
use mathlib.Core.Path.{◌≡◌}
use mathlib.Core.Bool.{cond}
use Prim.Native.Nat.{◌<◌}
use native.Mathlib.Omega.{arith}
use Rattle.std.proofs.Common.{max, Ordering, Less, Equal, Greater}
use Rattle.std.specs.Cmp.{ranks}
use Rattle.std.specs.Ordering.{MatchOrdering, nat_cmp, is_lt, ord_max}
use Rattle.quantity.specs.declared.Ticks.{Ticks}

pub later_is : (a b : Ticks) → (ord_max (λ (x y : Ticks). nat_cmp x.0 y.0) a b).0 ≡ max a.0 b.0
later_is a b = go (nat_cmp b.0 a.0) (ranks b.0 a.0)
  where
    go : (o : Ordering) → MatchOrdering o (b.0 < a.0) (b.0 ≡ a.0) (a.0 < b.0) → (cond (is_lt o) a b).0 ≡ max a.0 b.0
    go Less h = omega (arith, h)
    go Equal h = omega (arith, h)
    go Greater h = omega (arith, h)
