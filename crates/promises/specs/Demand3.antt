-- Demand 3, over the history of calls from a fresh start, in charged bits; a span has both its end ticks in it.
-- xs is a list of calls, i a stream, g a group.
use Rattle.std.specs.Prelude.{ℕ, ◌≡◌, true, List, [], ◌∷◌}
use Rattle.records.specs.Numbers.{is_set_up}
use Rattle.bridge.specs.Tables.{stream_at}
use Rattle.bridge.specs.History.{Call, history, bridge_after, Outcome, released, discarded, frame_of}
use Rattle.bridge.specs.Spans.{burst_at, rate_at, eligible, arriving, WithinBurstAndRate}

-- first half: whatever arrives, the bits of one stream that become eligible within any span never exceed its burst plus its rate times the span
unfoldable pub SpanLimit : Type 0
SpanLimit = (xs : List Call) (i : ℕ) → WithinBurstAndRate (burst_at (bridge_after xs) i) (rate_at (bridge_after xs) i) i (eligible (history xs))

-- every judged frame of group g arrives within its stream's burst and rate: said of arrivals alone
unfoldable pub Conforms : List Call → ℕ → Type 0
Conforms xs g = (i : ℕ) → is_set_up (stream_at (bridge_after xs) i).regulator ≡ true → (stream_at (bridge_after xs) i).group ≡ g → WithinBurstAndRate (burst_at (bridge_after xs) i) (rate_at (bridge_after xs) i) i (arriving (history xs))

-- a judged frame is eligible at the moment it arrives, and so is not discarded
unfoldable pub EligibleOnArrival : Outcome → Type 0
EligibleOnArrival (released f) = f.time ≡ f.arrival
EligibleOnArrival (discarded f) = ⊥

-- so it is of every judged frame of group g
unfoldable pub EachOf : ℕ → (Outcome → Type 0) → List Outcome → Type 0
EachOf g P [] = Unit {0}
EachOf g P (o ∷ os) = ((frame_of o).group ≡ g → P o) × EachOf g P os

-- second half: where every frame that a group judges arrives within its stream's burst and rate, each is eligible at the moment it arrives and none is discarded, whatever the other groups send
unfoldable pub ConformingArrivals : Type 0
ConformingArrivals = (xs : List Call) (g : ℕ) → Conforms xs g → EachOf g EligibleOnArrival (history xs)
