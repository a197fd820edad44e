-- What the steps of the code's exact time give, as facts that its callers use. No sentence of document 01 stands here.
-- r is a stream's rate; a span is a length of time as the code holds it.
use Rattle.std.specs.Prelude.{◌≡◌, ℕ, ◌+◌, ◌*◌, ◌<◌, ◌≤◌, pos, ◌+ℤ◌}
use Rattle.quantity.specs.Ranges.{most_of}
use Rattle.quantity.specs.declared.Item.TheVariants.{StreamRate, Burst, Residence, Arrival}
use Rattle.records.specs.ExactTime.{bit_time, exactly, or_zero}
use Rattle.records.specs.Steps.{shortfall}
use Rattle.records.specs.declared.Moment.{Moment}
use Rattle.records.specs.declared.Regulator.{Regulator}
use Rattle.records.specs.declared.Regulator.TheVariants.{Unset, Bucket}
use Rattle.shaper.specs.Frame.{F}
use Rattle.shaper.specs.declared.Span.{Span}

-- a span, in r-ths of a tick
unfoldable pub span_time : ℕ → Span → ℕ
span_time r s = s.ticks * r + s.part

-- the span s is how long L bits last
pub record Lasts (r L : ℕ) (s : Span) : Type 0 where
  pub exact : span_time r s ≡ bit_time L
  pub over : s.part < r
  pub most : s.ticks ≤ bit_time L

-- m is n r-ths of a tick after l, and its whole ticks are at most t more than l's
pub record Later (r : ℕ) (l : Moment) (n t : ℕ) (m : Moment) : Type 0 where
  pub exact : exactly r m ≡ exactly r l +ℤ pos n
  pub over : m.part < r
  pub most : or_zero m.ticks ≤ or_zero l.ticks + t

-- the span s is how long it is from m to the tick t
pub record Fills (r : ℕ) (m : Moment) (t : ℕ) (s : Span) : Type 0 where
  pub exact : or_zero (exactly r m) + span_time r s ≡ t * r
  pub over : s.part < r
  pub most : s.ticks ≤ t

-- no frame is released after this tick
abbrev pub latest_release : ℕ
latest_release = most_of Arrival + most_of Residence

-- from the bucket empty time e, L bits can be added without overflow
pub record StartsAt (r : ℕ) (e : Moment) (L : ℕ) : Type 0 where
  pub some : 0 < r
  pub fast : r ≤ most_of StreamRate
  pub part : e.part < r
  pub early : or_zero e.ticks ≤ latest_release
  pub frame : L ≤ most_of Burst

-- m is L bits after the bucket empty time e
pub record ChargedTo (r : ℕ) (e : Moment) (L : ℕ) (m : Moment) : Type 0 where
  pub exact : exactly r m ≡ exactly r e +ℤ pos (bit_time L)
  pub over : m.part < r
  pub most : or_zero m.ticks ≤ or_zero e.ticks + (bit_time L + 1)

-- a bucket of burst b and empty time e that a frame of L bits can be reckoned by
pub record BucketWorks (r b : ℕ) (e : Moment) (L : ℕ) : Type 0 where
  pub starts : StartsAt r e L
  pub burst : b ≤ most_of Burst
  pub full : shortfall (F (exactly r e) b) ≡ 0

-- a regulator that a frame of L bits can be reckoned by
unfoldable pub Works : ℕ → Regulator → ℕ → Type 0
Works r Unset L = Unit {0}
Works r (Bucket b e) L = BucketWorks r b.0 e L
