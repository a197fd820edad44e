-- A frame in a bridge's records, where the record of the lent group stands at its id's place, or at place 0 for an id out of range. Assumes nothing.
use mathlib.Core.Path.{◌≡◌, refl, sym, ap, ◌∙◌}
use mathlib.Core.Bool.{Bool, true, false}
use mathlib.Core.List.{List, []}
use Prim.Native.Nat.{ℕ, suc, zero, ◌≤◌}
use native.Mathlib.Omega.{arith}
use lib.Dec.{eqb}
use lib.ListN.{length, get_or}
use lib.Seq.{set-get_or}
use borrow.Author.Tests.{eqb-true, le-ltb}
use Rattle.quantity.specs.Numbers.{least_refusal, number_of}
use Rattle.quantity.specs.Ranges.{in_range, place_of}
use Rattle.quantity.specs.declared.Item.TheVariants.{GroupId}
use Rattle.quantity.specs.declared.Refusal.{Refusal}
use Rattle.quantity.specs.declared.Refusal.TheVariants.{Unsound, NoStream}
use Rattle.quantity.proofs.Booleans.{and_false}
use Rattle.quantity.proofs.Ranges.{place_in}
use Rattle.quantity.proofs.Refusals.{refusal_number}
use Rattle.records.specs.Sound.{sound, sound_group}
use Rattle.records.specs.Numbers.{is_set_up, answer_number, answer_values}
use Rattle.records.specs.declared.Answer.{Answer}
use Rattle.records.specs.declared.Answer.TheVariants.{Released, Discarded, Refused}
use Rattle.records.specs.declared.Group.{Group}
use Rattle.records.specs.declared.Stream.{Stream}
use Rattle.shaper.proofs.Judging.{unsound}
use Rattle.bridge.specs.Tables.{no_group, no_stream, group_at, stream_at}
use Rattle.bridge.specs.Calls.{frame_called}
use Rattle.bridge.specs.History.{outcome_of}
use Rattle.bridge.specs.declared.Bridge.{Bridge}
use Rattle.lent.specs.InPlace.{run_places, stays, received, Received}
use Rattle.lent.specs.Steps.{ready, unreadiness}
use Rattle.lent.proofs.InPlaceLaws.{is_stored, is_unready, unset, elsewhere, at_home, put_back_law}
use Rattle.receive.specs.Promises.{put_back, SameAsFrameCall}
use Rattle.receive.proofs.Promises.{same_as_frame_call}
use Rattle.firmware.specs.Firmware.{time_after, FrameReceived}
use Rattle.promises_for_c.specs.Lent.{read, judged_by}

-- ---- an answer, as C reads it
pub read_answer : (f : FrameReceived) (a : Answer) (t : ℕ) → f.number ≡ answer_number a → f.time ≡ time_after a t → read f ≡ record { number = answer_number a; values = answer_values a }
unfolding read answer_number answer_values time_after
read_answer f (Released T) t p q = rw (p, q)
read_answer f (Discarded T) t p q = rw (p, q)
read_answer f (Refused why) t p q = rw p (rw (le-ltb (number_of why) least_refusal (refusal_number why).0) refl)

-- a refused frame is not judged
none_judged : (N k i L A T : ℕ) → least_refusal ≤ N → judged_by N (record { stream = k; group = i; bits = L; arrival = A; time = T }) ≡ []
unfolding judged_by
none_judged zero k i L A T h = absurd (omega arith)
none_judged (suc zero) k i L A T h = absurd (omega arith)
none_judged (suc (suc N)) k i L A T h = refl

pub judged_answer : (a : Answer) (k i L A t : ℕ) → judged_by (answer_number a) (record { stream = k; group = i; bits = L; arrival = A; time = time_after a t }) ≡ outcome_of k i L A a
unfolding answer_number time_after judged_by outcome_of
judged_answer (Released T) k i L A t = refl
judged_answer (Discarded T) k i L A t = refl
judged_answer (Refused why) k i L A t = none_judged (number_of why) k i L A t (refusal_number why).0

-- ---- a stream whose group is out of range is unsound
id_out : (s : Stream) (g : Group) → in_range GroupId s.group ≡ false → sound s g ≡ false
unfolding sound
id_out s g e = rw (e, and_false (sound_group g))

module _ (i : ℕ) (ss : List Stream) (k n A : ℕ) where
  -- refused for the same reason, whatever group's record is lent
  abbrev Refuses : Type 0
  Refuses = (why : Refusal) × ((g : Group) → received i g ss k n A ≡ stays g ss why)

  abbrev s : Stream
  s = get_or ss k no_stream

  -- a stream that is not set up gets 10, one of another group 9
  unset_refuses : ready (length ss) k ≡ true → is_set_up s.regulator ≡ false → (g : Group) → received i g ss k n A ≡ stays g ss NoStream
  unset_refuses h u g = is_stored i g ss k n A h ∙ put_back_law i g ss k n A NoStream _ (unset i s g n A u)

  pub elsewhere_refuses : ready (length ss) k ≡ true → is_set_up s.regulator ≡ true → eqb s.group i ≡ false → (g : Group) → received i g ss k n A ≡ stays g ss Unsound
  elsewhere_refuses h u e g = is_stored i g ss k n A h ∙ put_back_law i g ss k n A Unsound _ (elsewhere i s g n A u e)

  -- a lent id that is no group's
  out_of_range : in_range GroupId i ≡ false → Refuses
  out_of_range o = go (ready (length ss) k) refl
    where
      home : ready (length ss) k ≡ true → is_set_up s.regulator ≡ true → (t : Bool) → eqb s.group i ≡ t → Refuses
      home h u false e = (Unsound, elsewhere_refuses h u e)
      home h u true e = (Unsound, λ g. is_stored i g ss k n A h ∙ put_back_law i g ss k n A Unsound _ (at_home i s g n A u e ∙ unsound s g n A u (id_out s g (rw (eqb-true s.group i e) o))))

      set_up : ready (length ss) k ≡ true → (t : Bool) → is_set_up s.regulator ≡ t → Refuses
      set_up h false u = (NoStream, unset_refuses h u)
      set_up h true u = home h u (eqb s.group i) refl

      go : (t : Bool) → ready (length ss) k ≡ t → Refuses
      go false h = (unreadiness (length ss), λ g. is_unready i g ss k n A h)
      go true h = set_up h (is_set_up s.regulator) refl

  -- so a stream that is not set up is refused
  pub unset_is_refused : (g : Group) → is_set_up s.regulator ≡ false → (why : Refusal) × ((received i g ss k n A).answer ≡ Refused why)
  unset_is_refused g u = go (ready (length ss) k) refl
    where
      go : (t : Bool) → ready (length ss) k ≡ t → (why : Refusal) × ((received i g ss k n A).answer ≡ Refused why)
      go false h = (unreadiness (length ss), ap (λ (r : Received). r.answer) (is_unready i g ss k n A h))
      go true h = (NoStream, ap (λ (r : Received). r.answer) (unset_refuses h u g))

-- ---- the frame call of the bridge
module _ (b : Bridge) (i k n A : ℕ) where
  put_stays : (p : ℕ) (why : Refusal) → put_back b p (stays (group_at b p) b.streams why) ≡ record { answer = Refused why; bridge = b }
  unfolding put_back group_at
  put_stays p why = ap (λ gs. record { answer = Refused why; bridge = record { groups = gs; streams = b.streams } }) (set-get_or b.groups p no_group)

  pub frame_at_place : length b.streams ≡ run_places → (is_set_up (stream_at b k).regulator ≡ true → (stream_at b k).group ≡ i) → put_back b (place_of GroupId i) (received i (group_at b (place_of GroupId i)) b.streams k n A) ≡ frame_called b k n A
  unfolding SameAsFrameCall
  frame_at_place long of_group = go (in_range GroupId i) refl
    where
      go : (t : Bool) → in_range GroupId i ≡ t → put_back b (place_of GroupId i) (received i (group_at b (place_of GroupId i)) b.streams k n A) ≡ frame_called b k n A
      go true h = rw (place_in GroupId i h) (same_as_frame_call b i k n A long of_group)
      go false h =
          let w = out_of_range i b.streams k n A h in
          ap (put_back b (place_of GroupId i)) (w.1 (group_at b (place_of GroupId i))) ∙ put_stays (place_of GroupId i) w.0
          ∙ sym (ap (put_back b i) (w.1 (group_at b i)) ∙ put_stays i w.0)
          ∙ same_as_frame_call b i k n A long of_group
