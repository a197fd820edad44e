-- Demand 2: every eligibility time and discard is what the standard's ProcessFrame gives with exact fractions, from buckets that start full.
-- b is a bridge, i a stream, n a frame's octets, A its arrival. The P rows are shaper's `figures`.
use Rattle.std.specs.Prelude.{ℕ, ◌≡◌, List, [], ◌∷◌, cond, not, Ok, Err}
use Rattle.quantity.specs.Ranges.{in_range}
use Rattle.quantity.specs.declared.Item.TheVariants.{StreamId}
use Rattle.quantity.specs.declared.Refusal.TheVariants.{NoStream}
use Rattle.admission.specs.Tests.{tested}
use Rattle.shaper.specs.Frame.{process_frame}
use Rattle.records.specs.declared.Answer.{Answer}
use Rattle.bridge.specs.Tables.{fresh_bridge, group_at, stream_at}
use Rattle.bridge.specs.Calls.{frame_stored, frame_called}
use Rattle.bridge.specs.History.{Call, group, stream, frame, after_call}
use Rattle.bridge.specs.declared.Bridge.{Bridge}
use Rattle.bridge.specs.Calls.{Framed}
use Rattle.reader.specs.RoundTrip.{ReadsBack, WritesBack, FileReadsBack, FileWritesBack}
use Rattle.std.specs.declared.result.Result.{Result}
use Rattle.quantity.specs.declared.Bits.{Bits}
use Rattle.quantity.specs.declared.Refusal.{Refusal}

-- the tests of a frame of stream i, in their order: 10 where there is no such stream; else those of the stream's record with its group's
unfoldable pub frame_tested : Bridge → ℕ → ℕ → ℕ → Result Bits Refusal
frame_tested b i n A = cond (not (in_range StreamId i)) (Err NoStream) (tested (stream_at b i) (group_at b (stream_at b i).group) n A)

-- by what they give: the first refusal that applies, and all records stay; or the answer and the two records are ProcessFrame's, with the frame's charged bits
unfoldable pub by_tests : Bridge → ℕ → ℕ → Result Bits Refusal → Framed
by_tests b i A (Err why) = record { answer = Answer.Refused why; bridge = b }
by_tests b i A (Ok L) = frame_stored b i (stream_at b i).group (process_frame (stream_at b i) (group_at b (stream_at b i).group) L.0 A)

unfoldable pub ByProcessFrame : Bridge → ℕ → ℕ → ℕ → Type 0
ByProcessFrame b i n A = frame_called b i n A ≡ by_tests b i A (frame_tested b i n A)

-- so it is of each frame of a list of calls, on the records that the calls before it left
unfoldable pub EachByProcessFrame : Bridge → List Call → Type 0
EachByProcessFrame b [] = Unit {0}
EachByProcessFrame b (group i c M ∷ xs) = EachByProcessFrame (after_call b (group i c M)) xs
EachByProcessFrame b (stream i k r u ∷ xs) = EachByProcessFrame (after_call b (stream i k r u)) xs
EachByProcessFrame b (frame i n A ∷ xs) = ByProcessFrame b i n A × EachByProcessFrame (after_call b (frame i n A)) xs

-- of every history
unfoldable pub ProcessFrameThroughout : Type 0
ProcessFrameThroughout = (xs : List Call) → EachByProcessFrame fresh_bridge xs

-- records read from the table file are those written to it, and writing what was read gives the same bytes: for one record wherever it stands, and for a whole file
pub record RoundTrips : Type 0 where
  pub record_written_is_read : ReadsBack
  pub record_read_is_written : WritesBack
  pub file_written_is_read : FileReadsBack
  pub file_read_is_written : FileWritesBack
