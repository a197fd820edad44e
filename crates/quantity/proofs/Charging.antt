-- Laws of the charge: it grows with the octets, and a frame in range is charged bits in range. Assumes nothing.
use mathlib.Core.Path.{◌≡◌, refl}
use mathlib.Core.Bool.{true}
use Prim.Native.Nat.{ℕ, ◌≤◌}
use native.Mathlib.Omega.{arith}
use Rattle.quantity.specs.Ranges.{in_range, least_of, most_of}
use Rattle.quantity.specs.declared.Item.TheVariants.{Octets, Charge}
use Rattle.quantity.proofs.Ranges.{within, at_least, at_most}
use Rattle.quantity.specs.Charge.{ordinary_overhead, charged_bits, charged}

pub charge_grows : (overhead m n : ℕ) → m ≤ n → charged_bits overhead m ≤ charged_bits overhead n
unfolding charged_bits
charge_grows overhead m n h = omega arith

-- the shortest and the longest frame are charged the ends of the range
pub charge_least : charged (least_of Octets) ≡ least_of Charge
unfolding charged_bits
charge_least = refl

pub charge_most : charged (most_of Octets) ≡ most_of Charge
unfolding charged_bits
charge_most = refl

pub charge_in_range : (n : ℕ) → in_range Octets n ≡ true → in_range Charge (charged n) ≡ true
charge_in_range n h =
    within Charge (charged n)
    (omega (arith, charge_least, charge_grows ordinary_overhead (least_of Octets) n (at_least Octets n h)))
    (omega (arith, charge_most, charge_grows ordinary_overhead n (most_of Octets) (at_most Octets n h)))
