-- `firsts::first_least` meets its contract: what is left to look at gives what the whole gives. Assumes nothing.
use mathlib.Core.Path.{◌≡◌}
use Prim.Native.Nat.{◌+◌, ◌-◌, ◌≤◌}
use Rattle.std.specs.Prelude.{Some}
use Rattle.firsts.specs.Firsts.{part, first_from, first_of}
use Rattle.firsts.proofs.first_least.Given as goal

abbrev pub invariant-loop-place : goal.invariant-loop-place
invariant-loop-place l = (Some (first_from l.first.place l.first.time.0 l.place (part l.waiting.times (l.base + l.place) (l.n - l.place))) ≡ first_of l.waiting.times l.waiting.fills l.class) × ((l.n ≤ 32) × (l.base ≤ 224))
