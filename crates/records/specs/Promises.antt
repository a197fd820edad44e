-- Document 01, 'One frame through a scheduler': E is exact, and rounding up around zero is. What is promised of exact time.
-- r is a rate, z a number of r-ths of a tick, t a whole tick, both of either sign. Each statement has a name here, and its proof under the same name in the file Promises of proofs/.
use Rattle.std.specs.Prelude.{ℕ, ◌<◌, ◌≡◌, true, ℤ, pos, ◌*ℤ◌}
use Rattle.std.specs.Int.Signed.{le_z}
use Rattle.records.specs.ExactTime.{exactly, moment_of, rounded_up}
use Rattle.records.specs.declared.Moment.{Moment}

-- whole ticks, rounded towards minus infinity, and a remainder below r lose nothing: a moment is that of its number
abbrev pub MomentIs : Type 0
MomentIs = (r : ℕ) (m : Moment) → m.part < r → moment_of r (exactly r m) ≡ m

-- and a number is that of its moment
abbrev pub ExactlyOf : Type 0
ExactlyOf = (r : ℕ) → 0 < r → (z : ℤ) → exactly r (moment_of r z) ≡ z

-- S rounded up is a whole tick that is not below S
abbrev pub RoundedUpReaches : Type 0
RoundedUpReaches = (r : ℕ) → 0 < r → (z : ℤ) → le_z z (rounded_up r z *ℤ pos r) ≡ true

-- and no smaller one is not
abbrev pub RoundedUpLeast : Type 0
RoundedUpLeast = (r : ℕ) → 0 < r → (z t : ℤ) → le_z z (t *ℤ pos r) ≡ true → le_z (rounded_up r z) t ≡ true
