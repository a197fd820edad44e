-- Document 01, 'Numbers returned': a frame's refusals in their order, 10, 9, 11, 12, 13, 14.
-- n is the frame's octets, A its arrival, L its charged bits.
use Rattle.std.specs.Prelude.{ℕ, Bool, false, not, cond, ltb, Ok, Err}
use Rattle.quantity.specs.Kinds.{bits}
use Rattle.quantity.specs.Charge.{charged}
use Rattle.quantity.specs.Ranges.{in_range}
use Rattle.quantity.specs.declared.Item.TheVariants.{Octets, Arrival}
use Rattle.quantity.specs.declared.Refusal.TheVariants.{Unsound, NoStream, LengthRange, AboveBurst, TooLate, BeforeLast}
use Rattle.records.specs.Numbers.{is_set_up}
use Rattle.records.specs.Sound.{sound}
use Rattle.records.specs.declared.Group.{Group}
use Rattle.records.specs.declared.Stream.{Stream}
use Rattle.records.specs.declared.Regulator.{Regulator}
use Rattle.records.specs.declared.Regulator.TheVariants.{Unset, Bucket}
use Rattle.std.specs.declared.result.Result.{Result}
use Rattle.quantity.specs.declared.Bits.{Bits}
use Rattle.quantity.specs.declared.Refusal.{Refusal}

-- the charged bits are above the burst
unfoldable pub above_burst : Regulator → ℕ → Bool
above_burst Unset L = false
above_burst (Bucket b e) L = ltb b.0 L

-- a frame of n octets arriving at A: the first refusal that applies, or its charged bits
unfoldable pub tested : Stream → Group → ℕ → ℕ → Result Bits Refusal
tested s g n A =
    cond (not (is_set_up s.regulator)) (Err NoStream)
    (cond (not (sound s g)) (Err Unsound)
    (cond (not (in_range Octets n)) (Err LengthRange)
    (cond (above_burst s.regulator (charged n)) (Err AboveBurst)
    (cond (not (in_range Arrival A)) (Err TooLate)
    (cond (ltb A g.last.0) (Err BeforeLast)
    (Ok (bits (charged n))))))))
