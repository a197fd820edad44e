-- The statements of specs/SameAsTheBridge.antt, each proved under its name. Assumes nothing.
use Prim.Native.Nat.{ℕ, ◌≤◌}
use mathlib.Core.Bool.{Bool, true, false, not, ◌&&◌}
use mathlib.Core.Path.{◌≡◌, refl, sym, ap, ◌∙◌}
use mathlib.Core.List.{List, [], map}
use native.Mathlib.Omega.{arith}
use lib.Dec.{eqb, ltb}
use lib.ListN.{length, get_or, set, length-set, length-map, length-replicate, get_or-map, get_or-eq_default}
use lib.Seq.{set-get_or}
use borrow.Author.Tests.{ltb-true, ltb-false, eqb-true, eq-eqb, not-true, not-false}
use Rattle.quantity.specs.Charge.{charged}
use Rattle.quantity.specs.Numbers.{least_refusal, number_of}
use Rattle.quantity.specs.Ranges.{in_range, place_of}
use Rattle.quantity.specs.declared.Item.TheVariants.{GroupId, StreamId}
use Rattle.quantity.specs.declared.Refusal.TheVariants.{Unsound}
use Rattle.quantity.proofs.Booleans.{both}
use Rattle.quantity.proofs.Ranges.{within}
use Rattle.records.specs.Numbers.{is_set_up, answer_number, answer_values}
use Rattle.records.specs.declared.Answer.{Answer}
use Rattle.records.specs.declared.Group.{Group}
use Rattle.records.specs.declared.Stream.{Stream}
use Rattle.calls.specs.Calls.{group_placed, stream_placed}
use Rattle.calls.specs.Numbers.{set_up_number}
use Rattle.bridge.specs.Tables.{no_stream, fresh_bridge, group_at, stream_at}
use Rattle.bridge.specs.Calls.{group_called, stream_called, frame_called}
use Rattle.bridge.specs.History.{reply, after_call, outcome, outcome_of, frame}
use Rattle.bridge.specs.Calls.{BridgeSetUp}
use Rattle.bridge.specs.Calls.{Framed}
use Rattle.bridge.proofs.Tables.{group_call, stream_call}
use Rattle.lent.specs.InPlace.{run_places, received, Received}
use Rattle.lent.specs.Steps.{ready}
use Rattle.receive.specs.Promises.{put_back}
use Rattle.firmware.specs.Firmware.{group_of, group_record, stream_of, stream_record, stream_records, group_told, stream_told, lent_after, frame_received}
use Rattle.firmware.specs.Promises.{RefusedStaysForC, RefusedGroupStays, RefusedStreamStays}
use Rattle.firmware.specs.declared.StreamRecord.{StreamRecord}
use Rattle.firmware.proofs.Promises.{refused_stays_for_c, refused_group_stays, refused_stream_stays}
use Rattle.promises_for_c.specs.Lent.{Memory, zeroed_group, zeroed_stream, zeroed, bridge_of, group_record_at, stream_record_at, group_lent, stream_lent, group_written, stream_written, group_given, stream_given, frame_given, set_up_group, set_up_stream, receive, number, after_c, reply_to_c, judged_in_c, mislent, on_bridge}
use Rattle.promises_for_c.specs.SameAsTheBridge.{ZeroedIsFresh, Shaped, ZeroedIsShaped, ShapeStays, Same, SameAsTheBridge, AnotherGroupGetsNine, RefusedChangesNothing, RefusedLeavesTime}
use Rattle.promises_for_c.proofs.Records.{map_set, group_held, used_is_set_up, placed_held, length_kept, received_held}
use Rattle.promises_for_c.proofs.Receiving.{read_answer, judged_answer, elsewhere_refuses, unset_is_refused, frame_at_place}

pub zeroed_is_fresh : ZeroedIsFresh
unfolding zeroed bridge_of fresh_bridge group_of stream_of
zeroed_is_fresh = refl

pub zeroed_is_shaped : ZeroedIsShaped
unfolding zeroed
zeroed_is_shaped = record { groups = length-replicate 16 zeroed_group; streams = length-replicate run_places zeroed_stream }

-- ---- a refused call

-- what is written where it stood changes nothing
group_stays : (m : Memory) (i : ℕ) → group_written m i (group_lent m i) ≡ m
unfolding group_written group_lent group_record_at
group_stays m i = ap (λ gs. record { groups = gs; streams = m.streams }) (set-get_or m.groups (place_of GroupId i) zeroed_group)

stream_stays : (m : Memory) (i : ℕ) → stream_written m i (stream_lent m i) ≡ m
unfolding stream_written stream_lent stream_record_at
stream_stays m i = ap (λ ss. record { groups = m.groups; streams = ss }) (set-get_or m.streams (place_of StreamId i) zeroed_stream)

pub refused_changes_nothing : RefusedChangesNothing
unfolding number after_c group_given stream_given frame_given RefusedStaysForC RefusedGroupStays RefusedStreamStays
refused_changes_nothing m (set_up_group i c M) low = ap (group_written m i) (refused_group_stays i (group_lent m i) c M low) ∙ group_stays m i
refused_changes_nothing m (set_up_stream i k r u) low = ap (stream_written m i) (refused_stream_stays i (stream_lent m i) k (group_lent m k) r u low) ∙ stream_stays m i
refused_changes_nothing m (receive i k n A t) low =
    let z = refused_stays_for_c i (group_lent m i) m.streams k n A t low in
    ap (λ (ss : List StreamRecord). group_written (record { groups = m.groups; streams = ss }) i (frame_received i (group_lent m i) m.streams k n A t).group) z.2
    ∙ ap (group_written m i) z.1
    ∙ group_stays m i

pub refused_leaves_time : RefusedLeavesTime
unfolding number frame_given RefusedStaysForC
refused_leaves_time m i k n A t low = (refused_stays_for_c i (group_lent m i) m.streams k n A t low).0

-- ---- the bridge's records
module _ (m : Memory) where
  pub group_at_law : (i : ℕ) → group_at (bridge_of m) i ≡ group_of (group_record_at m i)
  unfolding group_at bridge_of group_record_at group_of
  group_at_law i = get_or-map group_of m.groups i zeroed_group

  pub stream_at_law : (i : ℕ) → stream_at (bridge_of m) i ≡ stream_of (stream_record_at m i)
  unfolding stream_at bridge_of stream_record_at stream_of
  stream_at_law i = get_or-map stream_of m.streams i zeroed_stream

  -- ---- set-ups
  module _ (i c M : ℕ) where
    same_group_call : record { answer = (group_placed i (group_of (group_lent m i)) c M).answer; bridge = bridge_of (after_c m (set_up_group i c M)) } ≡ group_called (bridge_of m) i c M
    unfolding after_c bridge_of group_written group_given group_told group_lent group_at
    same_group_call =
        let p = place_of GroupId i in
        let P = group_placed i (group_of (group_record_at m p)) c M in
        ap (λ gs. record { answer = P.answer; bridge = record { groups = gs; streams = map stream_of m.streams } }) (map_set group_of m.groups p (group_record P.after) ∙ ap (set (map group_of m.groups) p) (group_held P.after))
        ∙ group_call (bridge_of m) i c M p refl P (ap (λ (g : Group). group_placed i g c M) (sym (group_at_law p)))

  module _ (i k r u : ℕ) where
    same_stream_call : record { answer = (stream_placed i (stream_of (stream_lent m i)) k (group_of (group_lent m k)) r u).answer; bridge = bridge_of (after_c m (set_up_stream i k r u)) } ≡ stream_called (bridge_of m) i k r u
    unfolding after_c bridge_of stream_written stream_given stream_told stream_lent group_lent group_at stream_at
    same_stream_call =
        let p = place_of StreamId i in
        let q = place_of GroupId k in
        let s = stream_record_at m p in
        let g = group_of (group_record_at m q) in
        let P = stream_placed i (stream_of s) k g r u in
        ap (λ ss. record { answer = P.answer; bridge = record { groups = map group_of m.groups; streams = ss } }) (map_set stream_of m.streams p (stream_record s P.after) ∙ ap (set (map stream_of m.streams) p) (placed_held s i k g r u))
        ∙ stream_call (bridge_of m) i k r u p q refl refl P (ap (λ (x : Stream). stream_placed i x k g r u) (sym (stream_at_law p)) ∙ ap (λ (x : Group). stream_placed i (get_or (bridge_of m).streams p no_stream) k x r u) (sym (group_at_law q)))

  -- ---- a frame
  module _ (i k n A t : ℕ) where
    -- what the lent records hold, as the frame in place gives it
    given : Received
    given = received i (group_of (group_lent m i)) (map stream_of m.streams) k n A

    frame_put : bridge_of (after_c m (receive i k n A t)) ≡ (put_back (bridge_of m) (place_of GroupId i) given).bridge
    unfolding after_c bridge_of group_written frame_given frame_received lent_after put_back given
    frame_put =
        let p = place_of GroupId i in
        ap (λ gs. record { groups = gs; streams = map stream_of (stream_records m.streams given.streams) }) (map_set group_of m.groups p (group_record given.group) ∙ ap (set (map group_of m.groups) p) (group_held given.group))
        ∙ ap (λ ss. record { groups = set (map group_of m.groups) p given.group; streams = ss }) (received_held i (group_of (group_lent m i)) m.streams k n A)

    -- a frame that comes with its stream's group
    of_its_group : mislent m (receive i k n A t) ≡ false → is_set_up (stream_at (bridge_of m) k).regulator ≡ true → (stream_at (bridge_of m) k).group ≡ i
    unfolding mislent stream_of
    of_its_group e u =
        let s = stream_record_at m k in
        let w : s.used ≡ true = sym (used_is_set_up s) ∙ rw (stream_at_law k) at u in
        let v : not (eqb s.group i) ≡ false = rw w at e in
        ap (λ (x : Stream). x.group) (stream_at_law k) ∙ eqb-true s.group i (not-false (eqb s.group i) v)

    module _ (z : Shaped m) (e : mislent m (receive i k n A t) ≡ false) where
      same_frame_call : put_back (bridge_of m) (place_of GroupId i) given ≡ frame_called (bridge_of m) k n A
      unfolding given group_lent bridge_of
      same_frame_call =
          ap (λ (g : Group). put_back (bridge_of m) (place_of GroupId i) (received i g (map stream_of m.streams) k n A)) (sym (group_at_law (place_of GroupId i)))
          ∙ frame_at_place (bridge_of m) i k n A (length-map m.streams stream_of ∙ z.streams) (of_its_group e)

      same_answer : given.answer ≡ (frame_called (bridge_of m) k n A).answer
      unfolding put_back
      same_answer = ap (λ (f : Framed). f.answer) same_frame_call

      same_judged : judged_in_c m (receive i k n A t) ≡ outcome (bridge_of m) (frame k n A)
      unfolding judged_in_c number frame_given frame_received lent_after given outcome outcome_of stream_at bridge_of
      same_judged = judged_answer given.answer k i (charged n) A t ∙ go (is_set_up (stream_at (bridge_of m) k).regulator) refl ∙ ap (outcome_of k (stream_at (bridge_of m) k).group (charged n) A) same_answer
        where
          go : (x : Bool) → is_set_up (stream_at (bridge_of m) k).regulator ≡ x → outcome_of k i (charged n) A given.answer ≡ outcome_of k (stream_at (bridge_of m) k).group (charged n) A given.answer
          go true u = ap (λ (l : ℕ). outcome_of k l (charged n) A given.answer) (sym (of_its_group e u))
          go false u =
              let w = unset_is_refused i (map stream_of m.streams) k n A (group_of (group_lent m i)) u in
              ap (outcome_of k i (charged n) A) w.1 ∙ sym (ap (outcome_of k (stream_at (bridge_of m) k).group (charged n) A) w.1)

      same_frame : Same m (receive i k n A t)
      unfolding reply_to_c frame_given frame_received lent_after given on_bridge reply after_call
      same_frame = record {
        reply = read_answer (frame_given m i k n A t) given.answer t refl refl ∙ ap (λ (a : Answer). record { number = answer_number a; values = answer_values a }) same_answer;
        judged = same_judged;
        memory = frame_put ∙ ap (λ (f : Framed). f.bridge) same_frame_call;
      }

-- ---- every call, where a frame comes with its stream's group
pub same_as_the_bridge : SameAsTheBridge
unfolding reply_to_c number group_given group_told stream_given stream_told on_bridge reply after_call judged_in_c outcome
same_as_the_bridge m (set_up_group i c M) z e = record {
  reply = ap (λ (r : BridgeSetUp). record { number = set_up_number r.answer; values = [] }) (same_group_call m i c M);
  judged = refl;
  memory = ap (λ (r : BridgeSetUp). r.bridge) (same_group_call m i c M);
}
same_as_the_bridge m (set_up_stream i k r u) z e = record {
  reply = ap (λ (x : BridgeSetUp). record { number = set_up_number x.answer; values = [] }) (same_stream_call m i k r u);
  judged = refl;
  memory = ap (λ (x : BridgeSetUp). x.bridge) (same_stream_call m i k r u);
}
same_as_the_bridge m (receive i k n A t) z e = same_frame m i k n A t z e

-- ---- a frame that comes with another group
module _ (m : Memory) (i k n A t : ℕ) (z : Shaped m) (e : mislent m (receive i k n A t) ≡ true) where
  -- its stream has a place
  in_place : (stream_record_at m k).used ≡ true → ready (length (map stream_of m.streams)) k ≡ true
  unfolding stream_record_at ready
  in_place u = go (ltb k run_places) refl
    where
      go : (x : Bool) → ltb k run_places ≡ x → eqb (length (map stream_of m.streams)) run_places && in_range StreamId k ≡ true
      go true h = rw (eq-eqb (length (map stream_of m.streams)) run_places (length-map m.streams stream_of ∙ z.streams), within StreamId k (omega arith) (omega (arith, ltb-true k run_places h)))
      go false h =
          let d : get_or m.streams k zeroed_stream ≡ zeroed_stream = get_or-eq_default m.streams zeroed_stream (omega (arith, z.streams, ltb-false k run_places h)) in
          let f : true ≡ false = sym u ∙ ap (λ (s : StreamRecord). s.used) d in
          let o : ◌≡◌ {A = ℕ} 0 1 = cc in absurd (omega arith)

  gets_nine : number m (receive i k n A t) ≡ number_of Unsound
  unfolding number frame_given frame_received lent_after answer_number mislent stream_of stream_at bridge_of
  gets_nine =
      let s = stream_record_at m k in
      let w = both s.used (not (eqb s.group i)) e in
      let u : is_set_up (stream_at (bridge_of m) k).regulator ≡ true = rw (stream_at_law m k) (used_is_set_up s ∙ w.0) in
      let d : eqb (stream_at (bridge_of m) k).group i ≡ false = rw (stream_at_law m k) (not-true (eqb s.group i) w.1) in
      ap (λ (r : Received). answer_number r.answer) (elsewhere_refuses i (map stream_of m.streams) k n A (in_place w.0) u d (group_of (group_lent m i)))

pub another_group_gets_nine : AnotherGroupGetsNine
another_group_gets_nine m i k n A t z e =
    let h = gets_nine m i k n A t z e in
    let l : least_refusal ≤ number m (receive i k n A t) = omega arith in
    (h, refused_leaves_time m i k n A t l, refused_changes_nothing m (receive i k n A t) l)

-- ---- the memory keeps its shape
pub shape_stays : ShapeStays
unfolding after_c group_written stream_written frame_given frame_received lent_after
shape_stays m (set_up_group i c M) z = record { groups = simp length-set z.groups; streams = z.streams }
shape_stays m (set_up_stream i k r u) z = record { groups = z.groups; streams = simp length-set z.streams }
shape_stays m (receive i k n A t) z = record { groups = simp length-set z.groups; streams = length_kept m.streams _ ∙ z.streams }
