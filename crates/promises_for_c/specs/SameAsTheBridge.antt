-- Document 01, 'The interrupt side' and 'Numbers returned': a call from C is the call of the bridge that C's memory holds.
-- The letters are those of Lent.
use Rattle.std.specs.Prelude.{ℕ, ◌≤◌, true, false, ◌≡◌, length}
use Rattle.quantity.specs.Numbers.{number_of, least_refusal}
use Rattle.quantity.specs.declared.Refusal.TheVariants.{Unsound}
use Rattle.bridge.specs.Tables.{fresh_bridge}
use Rattle.bridge.specs.History.{reply, after_call, outcome}
use Rattle.lent.specs.InPlace.{run_places}
use Rattle.promises_for_c.specs.Lent.{Memory, zeroed, bridge_of, frame_given, CCall, receive, number, after_c, reply_to_c, judged_in_c, mislent, on_bridge}

-- zeroed memory is a bridge on which nothing is set up
abbrev pub ZeroedIsFresh : Type 0
ZeroedIsFresh = bridge_of zeroed ≡ fresh_bridge

-- the memory has its 16 group records and its 64 stream records
pub record Shaped (m : Memory) : Type 0 where
  pub groups : length m.groups ≡ 16
  pub streams : length m.streams ≡ run_places

-- it starts so, and every call leaves it so
abbrev pub ZeroedIsShaped : Type 0
ZeroedIsShaped = Shaped zeroed

abbrev pub ShapeStays : Type 0
ShapeStays = (m : Memory) (x : CCall) → Shaped m → Shaped (after_c m x)

-- what C reads, the frame that is judged and the memory after the call are those of the bridge's call
pub record Same (m : Memory) (x : CCall) : Type 0 where
  pub reply : reply_to_c m x ≡ reply (bridge_of m) (on_bridge x)
  pub judged : judged_in_c m x ≡ outcome (bridge_of m) (on_bridge x)
  pub memory : bridge_of (after_c m x) ≡ after_call (bridge_of m) (on_bridge x)

-- so it is of every call, where a frame comes with its stream's group
abbrev pub SameAsTheBridge : Type 0
SameAsTheBridge = (m : Memory) (x : CCall) → Shaped m → mislent m x ≡ false → Same m x

-- a frame that comes with another group gets 9, and all of the memory and the caller's time stay
abbrev pub AnotherGroupGetsNine : Type 0
AnotherGroupGetsNine =
    (m : Memory) (i k n A t : ℕ) → Shaped m → mislent m (receive i k n A t) ≡ true
    → (number m (receive i k n A t) ≡ number_of Unsound) × ((frame_given m i k n A t).time ≡ t) × (after_c m (receive i k n A t) ≡ m)

-- a number from 9 up leaves all of the memory as it stood, whatever the memory holds; a frame's leaves the caller's time too
abbrev pub RefusedChangesNothing : Type 0
RefusedChangesNothing = (m : Memory) (x : CCall) → least_refusal ≤ number m x → after_c m x ≡ m

abbrev pub RefusedLeavesTime : Type 0
RefusedLeavesTime = (m : Memory) (i k n A t : ℕ) → least_refusal ≤ number m (receive i k n A t) → (frame_given m i k n A t).time ≡ t
