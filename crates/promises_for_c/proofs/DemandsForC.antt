-- The statements of specs/DemandsForC.antt, each proved under its name: what is promised of a bridge, said of the memory that holds it. Assumes nothing.
use Prim.Native.Nat.{ℕ, ◌%◌, ◌^◌, ◌≤◌}
use mathlib.Core.Bool.{Bool, true, false}
use mathlib.Core.Path.{◌≡◌, refl, sym, ap, subst, ◌∙◌}
use mathlib.Core.List.{List, [], ◌∷◌, ◌++◌}
use native.Mathlib.Omega.{arith}
use Rattle.records.specs.Numbers.{is_set_up, answer_number, answer_values}
use Rattle.records.specs.declared.Group.{Group}
use Rattle.records.specs.declared.Stream.{Stream}
use Rattle.shaper.specs.Frame.{burst_of}
use Rattle.bridge.specs.Tables.{fresh_bridge, group_at, stream_at}
use Rattle.bridge.specs.History.{Call, group, stream, frame, Reply, reply, replies, after_call, after, Outcome, outcome, outcomes, history, bridge_after}
use Rattle.bridge.specs.Spans.{Sent, burst_at, rate_at, eligible, arriving, WithinBurstAndRate}
use Rattle.bridge.specs.declared.Bridge.{Bridge}
use Rattle.bridge.specs.Calls.{Framed}
use Rattle.firmware.specs.Firmware.{group_of, stream_of}
use Rattle.firmware.specs.declared.StreamRecord.{StreamRecord}
use Rattle.promises.specs.Demand1 as demand1
use Rattle.promises.specs.Demand2 as demand2
use Rattle.promises.specs.Demand3 as demand3
use Rattle.promises.specs.Independence as alone
use Rattle.promises.specs.Discards as count
use Rattle.promises.proofs.Demand1 as of_calls
use Rattle.promises.proofs.Demand2.{process_frame_throughout as of_every_call}
use Rattle.promises.proofs.Demand3 as of-history
use Rattle.promises.proofs.Independence as of-groups
use Rattle.promises.proofs.Discards as of-counts
use Rattle.promises.proofs.SoundBridges.{SoundBridge, sound_fresh, sound_after, sound_reply}
use Rattle.promises_for_c.specs.Lent.{Memory, zeroed, bridge_of, stream_record_at, CCall, set_up_group, set_up_stream, receive, number, after_c, read, reply_to_c, judged_by, judged_in_c, mislent, on_bridge, after_all, calls_of, replies_of, judged_of, memory_after, calls_in, history_in_c}
use Rattle.promises_for_c.specs.SameAsTheBridge.{Shaped}
use Rattle.promises_for_c.specs.DemandsForC.{HistoryOfTheBridge, RecordsStaySound, NineForAnotherGroupAlone, ByProcessFrame, ProcessFrameThroughout, SpanLimit, ConformingArrivals, Independence, DiscardCount}
use Rattle.promises_for_c.proofs.Records.{used_is_set_up, burst_read, burst_below}
use Rattle.promises_for_c.proofs.SameAsTheBridge.{zeroed_is_fresh, zeroed_is_shaped, shape_stays, same_as_the_bridge, another_group_gets_nine, group_at_law, stream_at_law}

-- ---- the bridge's history

never : {A : Type 0} → false ≡ true → A
never e = let n : ◌≡◌ {A = ℕ} 0 1 = cc in absurd (omega arith)

-- a frame that comes with another group is not judged, and leaves the memory
left_out : (m : Memory) (x : CCall) → Shaped m → mislent m x ≡ true → (after_c m x ≡ m) × (judged_in_c m x ≡ [])
unfolding mislent judged_in_c judged_by
left_out m (set_up_group i c M) z e = never e
left_out m (set_up_stream i k r u) z e = never e
left_out m (receive i k n A t) z e =
    let w = another_group_gets_nine m i k n A t z e in
    (w.2, rw w.0)

-- from memory that holds the bridge b on
record Along (b : Bridge) (m : Memory) (xs : List CCall) : Type 0 where
  memory : bridge_of (after_all m xs) ≡ after b (calls_of m xs)
  replied : replies_of m xs ≡ replies b (calls_of m xs)
  judged : judged_of m xs ≡ outcomes b (calls_of m xs)

module _ (b : Bridge) (m : Memory) (z : Shaped m) (e : bridge_of m ≡ b) (x : CCall) (xs : List CCall) (ih : (c : Bridge) (l : Memory) → Shaped l → bridge_of l ≡ c → Along c l xs) where
  one_more : (t : Bool) → mislent m x ≡ t → Along b m (x ∷ xs)
  unfolding after_all calls_of replies_of judged_of after replies outcomes
  one_more true h =
      let w = left_out m x z h in
      let k = ih b (after_c m x) (shape_stays m x z) (ap bridge_of w.0 ∙ e) in
      record { memory = rw h k.memory; replied = rw h k.replied; judged = rw (h, w.1) k.judged }
  one_more false h =
      let s = same_as_the_bridge m x z h in
      let k = ih (after_call b (on_bridge x)) (after_c m x) (shape_stays m x z) (s.memory ∙ ap (λ (c : Bridge). after_call c (on_bridge x)) e) in
      record {
        memory = rw h k.memory;
        replied = rw h (rw (s.reply, e) (ap (λ (rs : List Reply). reply b (on_bridge x) ∷ rs) k.replied));
        judged = rw h (rw (s.judged, e) (ap (λ (os : List Outcome). outcome b (on_bridge x) ++ os) k.judged));
      }

along : (xs : List CCall) (b : Bridge) (m : Memory) → Shaped m → bridge_of m ≡ b → Along b m xs
unfolding after_all calls_of replies_of judged_of after replies outcomes
along [] b m z e = record { memory = e; replied = refl; judged = refl }
along (x ∷ xs) b m z e = one_more b m z e x xs (along xs) (mislent m x) refl

pub history_of_the_bridge : HistoryOfTheBridge
history_of_the_bridge xs = let k = along xs fresh_bridge zeroed zeroed_is_shaped zeroed_is_fresh in record { memory = k.memory; replies = k.replied; judged = k.judged }

-- the bridge after the calls is the one that the memory holds
tables : (xs : List CCall) → bridge_after (calls_in xs) ≡ bridge_of (memory_after xs)
tables xs = sym (history_of_the_bridge xs).memory

frames : (xs : List CCall) → history (calls_in xs) ≡ history_in_c xs
frames xs = sym (history_of_the_bridge xs).judged

shaped_after : (xs : List CCall) (m : Memory) → Shaped m → Shaped (after_all m xs)
unfolding after_all
shaped_after [] m z = z
shaped_after (x ∷ xs) m z = shaped_after xs (after_c m x) (shape_stays m x z)

-- ---- demand 1
pub records_stay_sound : RecordsStaySound
unfolding demand1.RecordsStaySound
records_stay_sound xs = subst (λ (b : Bridge). demand1.SoundRecords b) (tables xs) (of_calls.records_stay_sound (calls_in xs))

number_read : (m : Memory) (x : CCall) → (reply_to_c m x).number ≡ number m x
unfolding reply_to_c read number
number_read m (set_up_group i c M) = refl
number_read m (set_up_stream i k r u) = refl
number_read m (receive i k n A t) = refl

pub nine_for_another_group_alone : NineForAnotherGroupAlone
nine_for_another_group_alone xs x h = go (mislent m x) refl
  where
    m : Memory
    m = memory_after xs

    go : (t : Bool) → mislent m x ≡ t → mislent m x ≡ true
    go true e = e
    go false e =
        let s = same_as_the_bridge m x (shaped_after xs zeroed zeroed_is_shaped) e in
        let q : SoundBridge (bridge_of m) = subst (λ (b : Bridge). SoundBridge b) (tables xs) (sound_after fresh_bridge sound_fresh (calls_in xs)) in
        absurd (sound_reply (bridge_of m) q (on_bridge x) (sym (ap (λ (r : Reply). r.number) s.reply) ∙ number_read m x ∙ h))

-- ---- demand 2

-- the last frame of a list of calls
last_frame : (ys : List Call) (b : Bridge) (k n A : ℕ) → demand2.EachByProcessFrame b (ys ++ (frame k n A ∷ [])) → demand2.ByProcessFrame (after b ys) k n A
unfolding demand2.EachByProcessFrame after
last_frame [] b k n A h = h.0
last_frame (group i c M ∷ ys) b k n A h = last_frame ys (after_call b (group i c M)) k n A h
last_frame (stream i l r u ∷ ys) b k n A h = last_frame ys (after_call b (stream i l r u)) k n A h
last_frame (frame i o B ∷ ys) b k n A h = last_frame ys (after_call b (frame i o B)) k n A h.1

pub process_frame_throughout : ProcessFrameThroughout
unfolding ByProcessFrame demand2.ByProcessFrame demand2.ProcessFrameThroughout on_bridge reply after_call
process_frame_throughout xs i k n A t e =
    let m = memory_after xs in
    let s = same_as_the_bridge m (receive i k n A t) (shaped_after xs zeroed zeroed_is_shaped) e in
    let p = subst (λ (b : Bridge). demand2.ByProcessFrame b k n A) (tables xs) (last_frame (calls_in xs) fresh_bridge k n A (of_every_call (calls_in xs ++ (frame k n A ∷ [])))) in
    record {
      reply = s.reply ∙ ap (λ (f : Framed). record { number = answer_number f.answer; values = answer_values f.answer }) p;
      memory = s.memory ∙ ap (λ (f : Framed). f.bridge) p;
    }

-- ---- demand 3

-- a limit with a larger burst
looser : (u v r i : ℕ) (es : List Sent) → u ≤ v → WithinBurstAndRate u r i es → WithinBurstAndRate v r i es
unfolding WithinBurstAndRate
looser u v r i es l h lo d = let k = h lo d in omega arith

pub span_limit : SpanLimit
unfolding demand3.SpanLimit stream_of
span_limit xs i =
    looser (burst_at b i) s.burst s.rate i (eligible (history_in_c xs)) (rw (stream_at_law (memory_after xs) i) (burst_below s))
    (subst (λ (r : ℕ). WithinBurstAndRate (burst_at b i) r i (eligible (history_in_c xs))) (ap (λ (x : Stream). x.rate.0) (stream_at_law (memory_after xs) i))
    (subst (λ (os : List Outcome). WithinBurstAndRate (burst_at b i) (rate_at b i) i (eligible os)) (frames xs)
    (subst (λ (c : Bridge). WithinBurstAndRate (burst_at c i) (rate_at c i) i (eligible (history (calls_in xs)))) (tables xs) (of-history.span_limit (calls_in xs) i))))
  where
    b : Bridge
    b = bridge_of (memory_after xs)

    s : StreamRecord
    s = stream_record_at (memory_after xs) i

pub conforming_arrivals : ConformingArrivals
unfolding demand3.ConformingArrivals demand3.Conforms stream_of
conforming_arrivals xs g h =
    subst (λ (os : List Outcome). demand3.EachOf g demand3.EligibleOnArrival os) (frames xs)
    (of-history.conforming_arrivals (calls_in xs) g
    (subst (λ (c : Bridge). (i : ℕ) → Within (stream_at c i) i (history (calls_in xs))) (sym (tables xs))
    (subst (λ (os : List Outcome). (i : ℕ) → Within (stream_at (bridge_of (memory_after xs)) i) i os) (sym (frames xs))
    (λ i. subst (λ (x : Stream). Within x i (history_in_c xs)) (sym (stream_at_law (memory_after xs) i)) (conforms (stream_record_at (memory_after xs) i) i (h i))))))
  where
    Within : Stream → ℕ → List Outcome → Type 0
    Within x i os = is_set_up x.regulator ≡ true → x.group ≡ g → WithinBurstAndRate (burst_of x.regulator) x.rate.0 i (arriving os)

    conforms : (s : StreamRecord) (i : ℕ) → (s.used ≡ true → s.group ≡ g → WithinBurstAndRate s.burst s.rate i (arriving (history_in_c xs))) → Within (stream_of s) i (history_in_c xs)
    conforms s i w u e =
        let used = sym (used_is_set_up s) ∙ u in
        rw (burst_read s used) (w used e)

-- ---- what a group sees, and its count
pub independence : Independence
unfolding alone.Independence
independence xs g = subst (λ (b : Bridge). alone.SameFor b g (calls_in xs) (alone.without_others b g (calls_in xs))) (tables xs) (of-groups.independence (calls_in xs) g)

pub discard_count : DiscardCount
unfolding count.DiscardCount group_of
discard_count xs g =
    ap (λ (x : Group). x.discards) (sym (group_at_law (memory_after xs) g))
    ∙ subst (λ (b : Bridge). (group_at b g).discards ≡ count.discards_of g (history (calls_in xs)) % 2 ^ 32) (tables xs) (of-counts.discard_count (calls_in xs) g)
    ∙ ap (λ (os : List Outcome). count.discards_of g os % 2 ^ 32) (frames xs)
