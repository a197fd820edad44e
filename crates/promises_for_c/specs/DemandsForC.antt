-- Demands 1 to 3 for C: what is promised of a bridge, of memory that starts zeroed and that the three calls alone write.
-- xs is a list of calls from C, x one more, i a stream, g a group; the other letters are those of Lent.
use Rattle.std.specs.Prelude.{ℕ, ◌%◌, ◌^◌, true, false, ◌≡◌, List}
use Rattle.quantity.specs.Numbers.{number_of}
use Rattle.quantity.specs.declared.Refusal.TheVariants.{Unsound}
use Rattle.records.specs.Numbers.{answer_number, answer_values}
use Rattle.bridge.specs.Tables.{fresh_bridge}
use Rattle.bridge.specs.History.{replies, history, bridge_after}
use Rattle.bridge.specs.Spans.{eligible, arriving, WithinBurstAndRate}
use Rattle.bridge.specs.Calls.{Framed}
use Rattle.promises.specs.Demand1.{SoundRecords}
use Rattle.promises.specs.Demand2.{frame_tested, by_tests}
use Rattle.promises.specs.Demand3.{EligibleOnArrival, EachOf}
use Rattle.promises.specs.Independence.{without_others, SameFor}
use Rattle.promises.specs.Discards.{discards_of}
use Rattle.promises_for_c.specs.Lent.{Memory, zeroed, bridge_of, group_record_at, stream_record_at, CCall, receive, number, after_c, reply_to_c, mislent, replies_of, memory_after, calls_in, history_in_c}

-- ---- the bridge's history

-- the memory after any calls holds the bridge after the calls that they stand for; C reads the bridge's replies, and sees the bridge's judged frames
pub record OneHistory (xs : List CCall) : Type 0 where
  pub memory : bridge_of (memory_after xs) ≡ bridge_after (calls_in xs)
  pub replies : replies_of zeroed xs ≡ replies fresh_bridge (calls_in xs)
  pub judged : history_in_c xs ≡ history (calls_in xs)

abbrev pub HistoryOfTheBridge : Type 0
HistoryOfTheBridge = (xs : List CCall) → OneHistory xs

-- ---- demand 1

-- every record stays sound
abbrev pub RecordsStaySound : Type 0
RecordsStaySound = (xs : List CCall) → SoundRecords (bridge_of (memory_after xs))

-- no call answers 9, but a frame that comes with another group than its stream's
abbrev pub NineForAnotherGroupAlone : Type 0
NineForAnotherGroupAlone = (xs : List CCall) (x : CCall) → number (memory_after xs) x ≡ number_of Unsound → mislent (memory_after xs) x ≡ true

-- ---- demand 2

-- what C reads, and the bridge that the memory then holds, are a frame's answer and the bridge after it
pub record Gives (m : Memory) (x : CCall) (f : Framed) : Type 0 where
  pub reply : reply_to_c m x ≡ record { number = answer_number f.answer; values = answer_values f.answer }
  pub memory : bridge_of (after_c m x) ≡ f.bridge

-- what the tests and ProcessFrame give of the records that stand there
unfoldable pub ByProcessFrame : Memory → ℕ → ℕ → ℕ → ℕ → ℕ → Type 0
ByProcessFrame m i k n A t = Gives m (receive i k n A t) (by_tests (bridge_of m) k A (frame_tested (bridge_of m) k n A))

-- so it is of every frame that comes with its stream's group
abbrev pub ProcessFrameThroughout : Type 0
ProcessFrameThroughout = (xs : List CCall) (i k n A t : ℕ) → mislent (memory_after xs) (receive i k n A t) ≡ false → ByProcessFrame (memory_after xs) i k n A t

-- ---- demand 3

-- first half: whatever arrives, the bits of one stream that become eligible within any span never exceed the burst of its record plus the record's rate times the span
abbrev pub SpanLimit : Type 0
SpanLimit = (xs : List CCall) (i : ℕ) → let s = stream_record_at (memory_after xs) i in WithinBurstAndRate s.burst s.rate i (eligible (history_in_c xs))

-- every judged frame of group g arrives within its stream's burst and rate: said of arrivals alone
abbrev pub Conforming : List CCall → ℕ → Type 0
Conforming xs g = (i : ℕ) → let s = stream_record_at (memory_after xs) i in s.used ≡ true → s.group ≡ g → WithinBurstAndRate s.burst s.rate i (arriving (history_in_c xs))

-- second half: where every frame that a group judges arrives within its stream's burst and rate, each is eligible at the moment it arrives and none is discarded, whatever the other groups send
abbrev pub ConformingArrivals : Type 0
ConformingArrivals = (xs : List CCall) (g : ℕ) → Conforming xs g → EachOf g EligibleOnArrival (history_in_c xs)

-- ---- what a group sees, and its count

-- a group's answers and records are those of the history with every other group's frames left out
abbrev pub Independence : Type 0
Independence = (xs : List CCall) (g : ℕ) → SameFor (bridge_of (memory_after xs)) g (calls_in xs) (without_others (bridge_of (memory_after xs)) g (calls_in xs))

-- the discard count in a group's record is that of the frames that C saw discarded; 4,294,967,295 is followed by 0
abbrev pub DiscardCount : Type 0
DiscardCount = (xs : List CCall) (g : ℕ) → (group_record_at (memory_after xs) g).discards ≡ discards_of g (history_in_c xs) % 2 ^ 32
