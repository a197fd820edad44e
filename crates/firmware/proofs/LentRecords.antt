-- The records that C lends: each by-value call on them is the call on what they hold. Assumes nothing.
use mathlib.Core.Path.{◌≡◌, refl, sym, ap, ◌∙◌}
use mathlib.Core.Bool.{Bool, true, false, cond}
use mathlib.Core.List.{List, [], ◌∷◌, map}
use mathlib.Core.Logic.{inl, inr}
use Prim.Native.Nat.{ℕ, zero, suc, ◌<◌, min}
use native.Mathlib.Omega.{arith}
use lib.IntN.{pos}
use lib.ListN.{length, get_or, set, length-map}
use lib.Seq.{get_or-set_same, set-set}
use Rattle.quantity.specs.Numbers.{number_of}
use Rattle.shaper.specs.Frame.{after_release, process_frame, eligibility_time, discarded, released}
use Rattle.records.specs.Numbers.{is_set_up, answer_number}
use Rattle.quantity.specs.Charge.{charged}
use Rattle.records.specs.declared.Group.{Group}
use Rattle.records.specs.declared.Stream.{Stream}
use Rattle.records.specs.Judged.{Judged}
use Rattle.records.specs.declared.Regulator.{Regulator}
use Rattle.records.specs.declared.Regulator.TheVariants.{Unset, Bucket}
use Rattle.calls.specs.Calls.{group_placed, stream_placed}
use Rattle.calls.specs.Numbers.{set_up_number}
use Rattle.bridge.specs.Tables.{no_stream}
use Rattle.calls.specs.declared.Placed.{Placed}
use Rattle.lent.specs.InPlace.{judged_in}
use Rattle.lent.specs.Steps.{ready, unreadiness}
use Rattle.firmware.specs.Steps.{most_of_byte, most_of_half}
use Rattle.firmware.specs.Firmware.{group_of, group_record, stream_of, stream_record, stream_records, rewritten, time_after, group_told, stream_told, frame_told, lent_after, frame_received}
use Rattle.firmware.specs.declared.GroupRecord.{GroupRecord}
use Rattle.firmware.specs.declared.StreamRecord.{StreamRecord}
use Rattle.firmware.specs.declared.FrameTold.{FrameTold}
use Rattle.lent.proofs.InPlaceLaws.{is_stored, is_unready, Outcome, outcome, settles, group_kept}
use Rattle.firmware.proofs.WideNumbers.{wide_group, wide_stream, wide_frame}

-- ---- what a record holds, put back where it stood, is the record
pub same_group : (g : GroupRecord) → group_record (group_of g) ≡ g
unfolding group_of group_record
same_group g = refl

pub same_stream : (s : StreamRecord) → stream_record s (stream_of s) ≡ s
unfolding stream_record stream_of rewritten
same_stream s = go s.used refl
  where
    go : (t : Bool) → s.used ≡ t → rewritten s s.group (stream_of s).rate (cond t (Bucket (record { 0 = s.burst }) (record { ticks = s.empty; part = s.part })) Unset) ≡ s
    go true e = ap (λ (u : Bool). record { used = u; group = s.group; rate = s.rate; burst = s.burst; empty = s.empty; part = s.part }) (sym e)
    go false e = refl

-- ---- the run, place by place

-- a record that is in no run
abbrev pub no_record : StreamRecord
no_record = record { used = false; group = 0; rate = 0; burst = 0; empty = pos 0; part = 0 }

pub same_streams : (ss : List StreamRecord) → stream_records ss (map stream_of ss) ≡ ss
unfolding stream_records
same_streams [] = refl
same_streams (s ∷ ss) = ap (λ (x : StreamRecord). x ∷ stream_records ss (map stream_of ss)) (same_stream s) ∙ ap (λ (xs : List StreamRecord). s ∷ xs) (same_streams ss)

-- the record at a place, for a place that the run has
pub held : (ss : List StreamRecord) (k : ℕ) (d : StreamRecord) → k < length ss → get_or (map stream_of ss) k no_stream ≡ stream_of (get_or ss k d)
held [] k d h = absurd (omega (arith, h))
held (s ∷ ss) zero d h = refl
held (s ∷ ss) (suc k) d h = held ss k d (omega (arith, h))

-- one stream stored is one record rewritten
pub one_rewritten : (ss : List StreamRecord) (k : ℕ) (d : StreamRecord) (x : Stream) → k < length ss → set ss k (stream_record (get_or ss k d) x) ≡ stream_records ss (set (map stream_of ss) k x)
unfolding stream_records
one_rewritten [] k d x h = absurd (omega (arith, h))
one_rewritten (s ∷ ss) zero d x h = ap (λ (xs : List StreamRecord). stream_record s x ∷ xs) (sym (same_streams ss))
one_rewritten (s ∷ ss) (suc k) d x h = ap (λ (y : StreamRecord). y ∷ set ss k (stream_record (get_or ss k d) x)) (sym (same_stream s)) ∙ ap (λ (xs : List StreamRecord). stream_record s (stream_of s) ∷ xs) (one_rewritten ss k d x (omega (arith, h)))

-- ---- the by-value calls; what is in braces is what the code's steps gave
module _ {i' : ℕ} {h : Group} (g : GroupRecord) (i : ℕ) (ei : i' ≡ min i most_of_byte) (eh : h ≡ group_of g) where
  pub group_told_law : (c M : ℕ) {c' : ℕ} {p : Placed Group} {a : ℕ} {g' : GroupRecord} → c' ≡ min c most_of_byte → p ≡ group_placed i' h c' M → a ≡ set_up_number p.answer → g' ≡ group_record p.after → record { number = a; group = g' } ≡ group_told (group_placed i (group_of g) c M)
  unfolding group_told
  group_told_law c M {p = p} ec ep ea eg =
      let wide = wide_group (group_of g) M i c in
      let e : p ≡ group_placed i (group_of g) c M = cc in
      cc

  module _ {x : Stream} (s : StreamRecord) (ex : x ≡ stream_of s) where
    pub stream_told_law : (k r u : ℕ) {k' : ℕ} {p : Placed Stream} {a : ℕ} {s' : StreamRecord} → k' ≡ min k most_of_byte → p ≡ stream_placed i' x k' h r u → a ≡ set_up_number p.answer → s' ≡ stream_record s p.after → record { number = a; stream = s' } ≡ stream_told s (stream_placed i (stream_of s) k (group_of g) r u)
    unfolding stream_told
    stream_told_law k r u {p = p} ek ep ea es =
        let wide = wide_stream (stream_of s) (group_of g) r u i k in
        let e : p ≡ stream_placed i (stream_of s) k (group_of g) r u = cc in
        cc

    pub frame_told_law : (n A t : ℕ) {n' : ℕ} {j : Judged} {a b : ℕ} {s' : StreamRecord} {g' : GroupRecord} → n' ≡ min n most_of_half → j ≡ judged_in i' x h n' A → a ≡ answer_number j.answer → b ≡ time_after j.answer t → s' ≡ stream_record s j.stream → g' ≡ group_record j.group → record { number = a; time = b; stream = s'; group = g' } ≡ frame_told s t (judged_in i (stream_of s) (group_of g) n A)
    unfolding frame_told
    frame_told_law n A t {j = j} en ej ea eb es eg =
        let wide = wide_frame (stream_of s) (group_of g) A i n in
        let e : j ≡ judged_in i (stream_of s) (group_of g) n A = cc in
        cc

-- ---- of a group's record only three fields change, of a stream's two
abbrev pub restamped_record : GroupRecord → GroupRecord → GroupRecord
restamped_record g h = record { used = g.used; class = g.class; discards = h.discards; residence = g.residence; time = h.time; last = h.last }

abbrev pub emptied_record : StreamRecord → StreamRecord → StreamRecord
emptied_record s x = record { used = s.used; group = s.group; rate = s.rate; burst = s.burst; empty = x.empty; part = x.part }

module _ (i : ℕ) (s : StreamRecord) (g : GroupRecord) (n A : ℕ) where
  abbrev j : Judged
  j = judged_in i (stream_of s) (group_of g) n A

  pub group_record_kept : restamped_record g (group_record j.group) ≡ group_record j.group
  unfolding group_record group_of
  group_record_kept = ap group_record (group_kept i (stream_of s) (group_of g) n A)

  Keeps : Judged → Type 0
  Keeps x = emptied_record s (stream_record s x.stream) ≡ stream_record s x.stream

  stays_itself : emptied_record s (stream_record s (stream_of s)) ≡ stream_record s (stream_of s)
  stays_itself = rw (same_stream s)

  released_keeps : (L T : ℕ) → is_set_up (stream_of s).regulator ≡ true → Keeps (released (stream_of s) (group_of g) L A T)
  unfolding Keeps released stream_record stream_of rewritten after_release
  released_keeps L T = go s.used refl
    where
      bucket : Regulator
      bucket = Bucket (record { 0 = s.burst }) (record { ticks = s.empty; part = s.part })

      after : Regulator → StreamRecord
      after x = rewritten s s.group (record { 0 = s.rate }) (after_release s.rate x L T)

      go : (t : Bool) → s.used ≡ t → is_set_up (cond t bucket Unset) ≡ true → emptied_record s (after (cond t bucket Unset)) ≡ after (cond t bucket Unset)
      go true e u = ap (λ (x : Bool). record { used = x; group = s.group; rate = s.rate; burst = s.burst; empty = (after bucket).empty; part = (after bucket).part }) e
      go false e u = let z : ◌≡◌ {A = ℕ} 0 1 = cc in absurd (omega arith)

  pub stream_record_kept : emptied_record s (stream_record s j.stream) ≡ stream_record s j.stream
  unfolding process_frame discarded Keeps
  stream_record_kept = go (outcome i (stream_of s) (group_of g) n A)
    where
      go : Outcome i (stream_of s) (group_of g) n A → emptied_record s (stream_record s j.stream) ≡ stream_record s j.stream
      go (inl w) = rw w.1 stays_itself
      go (inr p) =
          let T = eligibility_time (stream_of s) (group_of g) (charged n) A in
          rw p.1 (settles Keeps (stream_of s) (group_of g) (charged n) A T stays_itself (released_keeps (charged n) T p.0))

-- ---- a record that is written field by field is written once
module _ (ss : List StreamRecord) (k : ℕ) (d : StreamRecord) (h : k < length ss) where
  pub written_twice : (x : StreamRecord) (f : StreamRecord → StreamRecord) → set (set ss k x) k (f (get_or (set ss k x) k d)) ≡ set ss k (f x)
  written_twice x f = ap (λ (y : StreamRecord). set (set ss k x) k (f y)) (get_or-set_same ss k x d h) ∙ set-set ss k x (f x)

-- ---- a frame in the lent run; r is what the by-value call told
module _ (i : ℕ) (g : GroupRecord) (ss : List StreamRecord) (k n A t : ℕ) where
  pub frame_stored : (d : StreamRecord) → ready (length ss) k ≡ true → k < length ss → (r : FrameTold) → r ≡ frame_told (get_or ss k d) t (judged_in i (stream_of (get_or ss k d)) (group_of g) n A) → record { number = r.number; time = r.time; group = restamped_record g r.group; streams = set ss k (emptied_record (get_or ss k d) r.stream) } ≡ frame_received i g ss k n A t
  unfolding frame_received lent_after frame_told
  frame_stored d e h r y =
      let s = get_or ss k d in
      let j = judged_in i (stream_of s) (group_of g) n A in
      let z = is_stored i (group_of g) (map stream_of ss) k n A (rw (length-map ss stream_of) e) in
      let w = held ss k d h in
      let o = one_rewritten ss k d j.stream h in
      ap (λ (x : FrameTold). record { number = x.number; time = x.time; group = restamped_record g x.group; streams = set ss k (emptied_record s x.stream) }) y
      ∙ ap (λ (x : GroupRecord). record { number = answer_number j.answer; time = time_after j.answer t; group = x; streams = set ss k (emptied_record s (stream_record s j.stream)) }) (group_record_kept i s g n A)
      ∙ ap (λ (x : StreamRecord). record { number = answer_number j.answer; time = time_after j.answer t; group = group_record j.group; streams = set ss k x }) (stream_record_kept i s g n A)
      ∙ ap (λ (xs : List StreamRecord). record { number = answer_number j.answer; time = time_after j.answer t; group = group_record j.group; streams = xs }) o
      ∙ sym (rw (z, w))

  pub frame_unready : ready (length ss) k ≡ false → record { number = number_of (unreadiness (length ss)); time = t; group = g; streams = ss } ≡ frame_received i g ss k n A t
  unfolding frame_received lent_after answer_number time_after
  frame_unready e =
      let z = is_unready i (group_of g) (map stream_of ss) k n A (rw (length-map ss stream_of) e) in
      sym (rw (z, same_group g, same_streams ss, length-map ss stream_of))
