-- Demand 2, proved. Assumes nothing.
use mathlib.Core.List.{List, [], ◌∷◌}
use mathlib.Core.Path.{◌≡◌, refl, ap, ◌∙◌}
use mathlib.Core.Bool.{Bool, true, false, cond, not}
use Prim.Native.Nat.{ℕ}
use Rattle.bridge.specs.Tables.{fresh_bridge}
use Rattle.bridge.specs.History.{Call, group, stream, frame, after_call}
use Rattle.bridge.specs.declared.Bridge.{Bridge}
use Rattle.quantity.specs.Ranges.{in_range}
use Rattle.quantity.specs.declared.Item.TheVariants.{StreamId}
use Rattle.quantity.specs.declared.Refusal.{Refusal}
use Rattle.quantity.specs.declared.Refusal.TheVariants.{NoStream}
use Rattle.records.specs.declared.Answer.{Answer}
use Rattle.admission.specs.Tests.{tested}
use Rattle.shaper.specs.Numbers.{refused, after_tests, judged}
use Rattle.calls.specs.Calls.{judged_at}
use Rattle.bridge.specs.Calls.{frame_stored, frame_called}
use Rattle.bridge.specs.Tables.{group_at, stream_at, with_group}
use Rattle.bridge.proofs.Tables.{same_group, same_stream}
use Rattle.reader.proofs.RoundTrip.{reads_back, writes_back, file_reads_back, file_writes_back}
use Rattle.promises.specs.Demand2.{frame_tested, by_tests, ByProcessFrame, EachByProcessFrame, ProcessFrameThroughout, RoundTrips}
use Rattle.std.proofs.Common.{Result, Ok, Err}
use Rattle.quantity.specs.declared.Bits.{Bits}

-- what was there is stored back: the tables stay
stored_back : (b : Bridge) (i : ℕ) (why : Refusal) → let k = (stream_at b i).group in frame_stored b i k (refused (stream_at b i) (group_at b k) why) ≡ record { answer = Answer.Refused why; bridge = b }
unfolding frame_stored
stored_back b i why =
    let k = (stream_at b i).group in
    ap (λ (x : Bridge). record { answer = Answer.Refused why; bridge = x })
    (ap (λ (x : Bridge). with_group x k (group_at b k)) (same_stream b i) ∙ same_group b k)

module _ (b : Bridge) (i n A : ℕ) where
  k : ℕ
  k = (stream_at b i).group

  -- by what the tests of the records give
  after_tests_law : (x : Result Bits Refusal) → frame_stored b i k (after_tests (stream_at b i) (group_at b k) A x) ≡ by_tests b i A x
  unfolding after_tests by_tests k
  after_tests_law (Err why) = stored_back b i why
  after_tests_law (Ok L) = refl

  by_process_frame : ByProcessFrame b i n A
  unfolding ByProcessFrame frame_called frame_tested judged_at judged by_tests k
  by_process_frame = go (in_range StreamId i)
    where
      go : (t : Bool)
          → frame_stored b i (stream_at b i).group
          (cond (not t) (refused (stream_at b i) (group_at b (stream_at b i).group) NoStream) (judged (stream_at b i) (group_at b (stream_at b i).group) n A))
          ≡ by_tests b i A (cond (not t) (Err NoStream) (tested (stream_at b i) (group_at b (stream_at b i).group) n A))
      go true = after_tests_law (tested (stream_at b i) (group_at b (stream_at b i).group) n A)
      go false = stored_back b i NoStream

each_from : (b : Bridge) (xs : List Call) → EachByProcessFrame b xs
unfolding EachByProcessFrame
each_from b [] = tt
each_from b (group i c M ∷ xs) = each_from (after_call b (group i c M)) xs
each_from b (stream i k r u ∷ xs) = each_from (after_call b (stream i k r u)) xs
each_from b (frame i n A ∷ xs) = (by_process_frame b i n A, each_from (after_call b (frame i n A)) xs)

pub process_frame_throughout : ProcessFrameThroughout
unfolding ProcessFrameThroughout
process_frame_throughout xs = each_from fresh_bridge xs

pub round_trips : RoundTrips
round_trips = record {
  record_written_is_read = reads_back;
  record_read_is_written = writes_back;
  file_written_is_read = file_reads_back;
  file_read_is_written = file_writes_back;
}
