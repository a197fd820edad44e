-- Document 01, 'Quantities': ticks and bits are distinct kinds of quantity at every interface, and so are rates.
-- n is a number.
use Rattle.std.specs.Prelude.{ℕ}
use Rattle.quantity.specs.declared.Ticks.{Ticks}
use Rattle.quantity.specs.declared.Bits.{Bits}
use Rattle.quantity.specs.declared.Rate.{Rate}

-- time is whole nanoseconds, and a rate is bits per second: so many ticks in a second
abbrev pub ticks_per_second : ℕ
ticks_per_second = 1_000_000_000

-- so many ticks
abbrev pub ticks : ℕ → Ticks
ticks n = record { 0 = n }

-- so many bits
abbrev pub bits : ℕ → Bits
bits n = record { 0 = n }

-- so many bits per second
abbrev pub per_second : ℕ → Rate
per_second n = record { 0 = n }
