-- Document 01, 'How tight each guarantee is': bits within a span, and what is within burst and rate.
-- b is a bridge, i a stream, u its burst, r its rate; a span is from lo to hi, or from lo on for d ticks, both its end ticks in it.
use Rattle.std.specs.Prelude.{ℕ, ◌+◌, ◌*◌, ◌≤◌, cond, ◌&&◌, List, [], ◌∷◌, leb, eqb}
use Rattle.quantity.specs.Kinds.{ticks_per_second}
use Rattle.shaper.specs.Frame.{burst_of}
use Rattle.bridge.specs.Tables.{stream_at}
use Rattle.bridge.specs.declared.Bridge.{Bridge}
use Rattle.bridge.specs.History.{Outcome, released, discarded, frame_of}

-- ---- a stream's burst and rate, as its record has them; set-up gave them, and no call changes them

abbrev pub burst_at : Bridge → ℕ → ℕ
burst_at b i = burst_of (stream_at b i).regulator

abbrev pub rate_at : Bridge → ℕ → ℕ
rate_at b i = (stream_at b i).rate.0

-- ---- bits within a span

-- so many bits of a stream at a tick
pub record Sent : Type 0 where
  pub stream : ℕ
  pub bits : ℕ
  pub tick : ℕ

-- the charged bits that become eligible, each at its eligibility time: those of released frames
unfoldable pub eligible : List Outcome → List Sent
eligible [] = []
eligible (released f ∷ os) = record { stream = f.stream; bits = f.bits; tick = f.time } ∷ eligible os
eligible (discarded f ∷ os) = eligible os

-- the charged bits of the judged frames, each at its arrival
unfoldable pub arriving : List Outcome → List Sent
arriving [] = []
arriving (o ∷ os) = record { stream = (frame_of o).stream; bits = (frame_of o).bits; tick = (frame_of o).arrival } ∷ arriving os

-- the bits of stream i in the span from lo to hi, both end ticks in it
unfoldable pub bits_in : ℕ → ℕ → ℕ → List Sent → ℕ
bits_in i lo hi [] = 0
bits_in i lo hi (e ∷ es) = cond (eqb e.stream i && leb lo e.tick && leb e.tick hi) e.bits 0 + bits_in i lo hi es

-- in every span the bits of stream i, times 10⁹, are at most u·10⁹ plus r times the span's ticks
unfoldable pub WithinBurstAndRate : ℕ → ℕ → ℕ → List Sent → Type 0
WithinBurstAndRate u r i es = (lo d : ℕ) → bits_in i lo (lo + d) es * ticks_per_second ≤ u * ticks_per_second + r * d
