-- How long the line is busy with a frame, at most. Assumes nothing.
use mathlib.Core.Path.{◌≡◌}
use mathlib.Core.Bool.{true}
use Prim.Native.Nat.{ℕ, ◌+◌, ◌-◌, ◌/◌, ◌≤◌, ◌<◌}
use native.Mathlib.Nat.{div-lt_iff_lt-mul}
use native.Mathlib.Omega.{arith}
use Rattle.quantity.specs.Ranges.{in_range, most_of}
use Rattle.quantity.specs.declared.Item.TheVariants.{LineRate, Charge}
use Rattle.quantity.proofs.Ranges.{at_least}
use Rattle.records.specs.ExactTime.{bit_time}

pub sending_most : (b r : ℕ) → in_range LineRate r ≡ true → b ≤ most_of Charge → (bit_time b + (r - 1)) / r ≤ bit_time (most_of Charge)
sending_most b r h k =
    let l = at_least LineRate r h in
    let x : (bit_time b + (r - 1)) / r < bit_time (most_of Charge) + 1 = (div-lt_iff_lt-mul {k = r} (omega arith)).1 (omega arith) in
    omega arith
