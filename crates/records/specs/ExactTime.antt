-- Document 01, 'One frame through a scheduler': E is exact, a whole number of ticks rounded towards minus infinity and a remainder below r.
-- r is a stream's rate. In r-ths of a tick every time of a frame is a whole number z of either sign, and the definitions compute with that number.
use Rattle.std.specs.Prelude.{ℕ, suc, ◌+◌, ◌*◌, ◌-◌, ◌/◌, ◌%◌, ℤ, pos, negsuc, neg_ℤ, ◌+ℤ◌, ◌*ℤ◌}
use Rattle.quantity.specs.Kinds.{ticks_per_second}
use Rattle.records.specs.declared.Moment.{Moment}

-- L bits last L·10⁹/r ticks, which is L·10⁹ r-ths of a tick
abbrev pub bit_time : ℕ → ℕ
bit_time L = L * ticks_per_second

-- the bucket empty time of a burst b is first −b·10⁹/r
unfoldable pub E_first : ℕ → ℤ
E_first b = neg_ℤ (pos (bit_time b))

-- t ticks, in r-ths of a tick
abbrev pub tick_time : ℕ → ℕ → ℤ
tick_time r t = pos (t * r)

-- a moment, in r-ths of a tick
unfoldable pub exactly : ℕ → Moment → ℤ
exactly r m = m.ticks *ℤ pos r +ℤ pos m.part

-- z r-ths of a tick as a moment: whole ticks, rounded towards minus infinity, and the remainder, which is below r
unfoldable pub moment_of : ℕ → ℤ → Moment
moment_of r (pos n) = record { ticks = pos (n / r); part = n % r }
moment_of r (negsuc n) = record { ticks = negsuc (n / r); part = r - suc (n % r) }

-- the smallest whole tick not below z r-ths of a tick
unfoldable pub rounded_up : ℕ → ℤ → ℤ
rounded_up r (pos n) = pos ((n + (r - 1)) / r)
rounded_up r (negsuc n) = neg_ℤ (pos (suc n / r))

-- a whole tick, or tick 0 where it is before that
abbrev pub or_zero : ℤ → ℕ
or_zero (pos n) = n
or_zero (negsuc n) = 0
