-- Demand 1: every public call takes any arguments, gives one fixed answer and finishes; a refused call leaves all as it stood.
-- b is a bridge, x a call on it, xs a list of calls from a fresh start. A proved function finishes for every argument; that is the prover's part.
use Rattle.std.specs.Prelude.{ℕ, ◌≤◌, ◌≡◌, true, List, [], ◌∷◌}
use Rattle.quantity.specs.Numbers.{number_of, least_refusal}
use Rattle.quantity.specs.declared.Refusal.TheVariants.{Unsound}
use Rattle.records.specs.Sound.{sound, sound_group}
use Rattle.records.specs.Numbers.{is_set_up}
use Rattle.bridge.specs.Tables.{fresh_bridge, group_at, stream_at}
use Rattle.bridge.specs.History.{Call, Reply, reply, replies, after_call, bridge_after}
use Rattle.bridge.specs.declared.Bridge.{Bridge}

-- a guarantee that equates what a call gives with a definition allows one result: two that it allows coincide
unfoldable pub OneFixedAnswer : Type 1
OneFixedAnswer = (A : Type 0) (defined given other : A) → given ≡ defined → other ≡ defined → given ≡ other

-- a number from 9 up comes with no value, and every record stays
unfoldable pub RefusedChangesNothing : Type 0
RefusedChangesNothing = (b : Bridge) (x : Call) → least_refusal ≤ (reply b x).number → (after_call b x ≡ b) × ((reply b x).values ≡ [])

-- every record of the tables is sound: each group that is set up, and each stream that is, with its group
pub record SoundRecords (b : Bridge) : Type 0 where
  pub groups : (i : ℕ) → (group_at b i).used ≡ true → sound_group (group_at b i) ≡ true
  pub streams : (i : ℕ) → is_set_up (stream_at b i).regulator ≡ true → sound (stream_at b i) (group_at b (stream_at b i).group) ≡ true

-- from a fresh start every record stays sound
unfoldable pub RecordsStaySound : Type 0
RecordsStaySound = (xs : List Call) → SoundRecords (bridge_after xs)

-- none of the answers is 9
unfoldable pub NoneUnsound : List Reply → Type 0
NoneUnsound [] = Unit {0}
NoneUnsound (r ∷ rs) = (r.number ≡ number_of Unsound → ⊥) × NoneUnsound rs

-- from a fresh start no call ever answers 9
unfoldable pub NeverUnsound : Type 0
NeverUnsound = (xs : List Call) → NoneUnsound (replies fresh_bridge xs)
