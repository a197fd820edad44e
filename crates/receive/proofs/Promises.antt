-- The promises of specs/Promises, proved. Assumes nothing.
use mathlib.Core.Path.{◌≡◌, refl, sym, ap, ◌∙◌}
use mathlib.Core.Bool.{Bool, true, false}
use mathlib.Core.Logic.{inl, inr}
use Prim.Native.Nat.{ℕ}
use native.Mathlib.Omega.{arith}
use lib.Dec.{eqb}
use lib.ListN.{length, get_or, set, length-set}
use lib.Seq.{get_or-set_other, set-get_or}
use borrow.Author.Tests.{eq-eqb}
use Rattle.quantity.specs.Ranges.{in_range}
use Rattle.quantity.specs.declared.Item.TheVariants.{StreamId}
use Rattle.quantity.specs.declared.Refusal.{Refusal}
use Rattle.quantity.specs.declared.Refusal.TheVariants.{NoStream}
use Rattle.records.specs.Numbers.{is_set_up}
use Rattle.shaper.specs.Numbers.{judged, refused}
use Rattle.records.specs.declared.Answer.TheVariants.{Refused}
use Rattle.records.specs.declared.Stream.{Stream}
use Rattle.records.specs.Judged.{Judged}
use Rattle.shaper.proofs.Judging.{not_set_up}
use Rattle.bridge.specs.Tables.{no_group, no_stream, group_at, stream_at, with_group, with_stream}
use Rattle.calls.specs.Calls.{judged_at}
use Rattle.bridge.specs.Calls.{frame_stored, frame_called}
use Rattle.bridge.specs.declared.Bridge.{Bridge}
use Rattle.bridge.specs.Calls.{Framed}
use Rattle.bridge.proofs.Tables.{same_group as same_groups, same_stream as same_table}
use Rattle.calls.proofs.Returns.{frame_id_out, frame_id_in}
use Rattle.lent.specs.InPlace.{run_places, judged_in, stays, stored, received, Received}
use Rattle.lent.specs.Steps.{ready}
use Rattle.receive.specs.Promises.{put_back, SameAsFrameCall, OthersStay, RunKeepsItsLength, RefusedStays}
use Rattle.lent.proofs.InPlaceLaws.{put_back_law, Ended, ended, then_stream, is_stored, is_unready, unset, at_home}

pub refused_stays : RefusedStays
unfolding RefusedStays
refused_stays i g ss k n A low = go (ended i g ss k n A)
  where
    go : Ended (received i g ss k n A) g ss → ((received i g ss k n A).group ≡ g) × ((received i g ss k n A).streams ≡ ss)
    go (inl w) = (ap (λ (r : Received). r.group) w.1, ap (λ (r : Received). r.streams) w.1)
    go (inr h) = absurd (omega (arith, h, low))

-- ---- of the run only the frame's own record changes
pub others_stay : OthersStay
unfolding OthersStay
others_stay i g ss k n A j apart = go (ready (length ss) k) refl
  where
    go : (t : Bool) → ready (length ss) k ≡ t → get_or (received i g ss k n A).streams j no_stream ≡ get_or ss j no_stream
    go true e = rw (is_stored i g ss k n A e) (get_or-set_other ss k j (judged_in i (get_or ss k no_stream) g n A).stream no_stream apart)
    go false e = rw (is_unready i g ss k n A e)

pub run_keeps_its_length : RunKeepsItsLength
unfolding RunKeepsItsLength
run_keeps_its_length i g ss k n A = go (ready (length ss) k) refl
  where
    go : (t : Bool) → ready (length ss) k ≡ t → length (received i g ss k n A).streams ≡ length ss
    go true e = rw (is_stored i g ss k n A e) (length-set ss k (judged_in i (get_or ss k no_stream) g n A).stream)
    go false e = rw (is_unready i g ss k n A e)

-- ---- the frame call of the bridge
module _ (b : Bridge) (i k n A : ℕ) (long : length b.streams ≡ run_places) where
  -- what is refused on both sides leaves the tables
  put_stays : (why : Refusal) (r : Received) → r ≡ stays (group_at b i) b.streams why → put_back b i r ≡ record { answer = Refused why; bridge = b }
  unfolding put_back group_at
  put_stays why r e = ap (put_back b i) e ∙ ap (λ gs. record { answer = Refused why; bridge = record { groups = gs; streams = b.streams } }) (set-get_or b.groups i no_group)

  call_stays : (why : Refusal) → judged_at k (stream_at b k) (group_at b (stream_at b k).group) n A ≡ refused (stream_at b k) (group_at b (stream_at b k).group) why → frame_called b k n A ≡ record { answer = Refused why; bridge = b }
  unfolding frame_called frame_stored
  call_stays why e =
      ap (frame_stored b k (stream_at b k).group) e
      ∙ ap (λ (x : Bridge). record { answer = Refused why; bridge = with_group x (stream_at b k).group (group_at b (stream_at b k).group) }) (same_table b k)
      ∙ ap (λ (x : Bridge). record { answer = Refused why; bridge = x }) (same_groups b (stream_at b k).group)

  -- the frame call's tables, where the record of group l takes the place of the group
  judged_there : ℕ → Judged → Framed
  judged_there l j = record { answer = j.answer; bridge = record { groups = set b.groups l j.group; streams = set b.streams k j.stream } }

  same : (is_set_up (stream_at b k).regulator ≡ true → (stream_at b k).group ≡ i) → put_back b i (received i (group_at b i) b.streams k n A) ≡ frame_called b k n A
  unfolding stream_at ready put_back frame_called frame_stored with_group with_stream judged_there
  same of_group = go (in_range StreamId k) refl
    where
      s : Stream
      s = get_or b.streams k no_stream

      its_length : eqb (length b.streams) run_places ≡ true
      its_length = eq-eqb (length b.streams) run_places long

      -- a stream that has a place: its record is stored, on both sides
      placed : in_range StreamId k ≡ true → received i (group_at b i) b.streams k n A ≡ stored b.streams k (judged_in i s (group_at b i) n A)
      placed h = is_stored i (group_at b i) b.streams k n A (rw (its_length, h))

      in_group : in_range StreamId k ≡ true → (t : Bool) → is_set_up s.regulator ≡ t → put_back b i (received i (group_at b i) b.streams k n A) ≡ frame_called b k n A
      in_group h false u =
          put_stays NoStream _ (placed h ∙ put_back_law i (group_at b i) b.streams k n A NoStream _ (unset i s (group_at b i) n A u))
          ∙ sym (call_stays NoStream (frame_id_in k s (group_at b s.group) n A h ∙ not_set_up s (group_at b s.group) n A u))
      in_group h true u =
          ap (put_back b i) (placed h ∙ ap (stored b.streams k) (at_home i s (group_at b i) n A u (eq-eqb s.group i (of_group u))))
          ∙ ap (λ (l : ℕ). judged_there l (judged s (group_at b l) n A)) (sym (of_group u))
          ∙ sym (ap (judged_there s.group) (frame_id_in k s (group_at b s.group) n A h))

      go : (t : Bool) → in_range StreamId k ≡ t → put_back b i (received i (group_at b i) b.streams k n A) ≡ frame_called b k n A
      go true h = in_group h (is_set_up s.regulator) refl
      go false h =
          put_stays NoStream _ (is_unready i (group_at b i) b.streams k n A (rw (its_length, h)) ∙ ap (stays (group_at b i) b.streams) (then_stream (length b.streams) its_length))
          ∙ sym (call_stays NoStream (frame_id_out k s (group_at b s.group) n A h))

pub same_as_frame_call : SameAsFrameCall
unfolding SameAsFrameCall
same_as_frame_call b i k n A long of_group = same b i k n A long of_group
