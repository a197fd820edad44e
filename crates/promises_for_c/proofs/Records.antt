-- The records that C lends, and what they hold after each call. Assumes nothing.
use mathlib.Core.Path.{◌≡◌, refl, sym, ap, ◌∙◌}
use mathlib.Core.Bool.{Bool, true, false, not, cond, ◌&&◌}
use mathlib.Core.List.{List, [], ◌∷◌, map}
use mathlib.Core.Logic.{inl, inr}
use Prim.Native.Nat.{ℕ, zero, suc, ◌≤◌}
use native.Mathlib.Omega.{arith}
use lib.ListN.{length, get_or, set, length-map, get_or-map}
use Rattle.quantity.specs.Charge.{charged}
use Rattle.quantity.specs.Ranges.{in_range}
use Rattle.quantity.specs.declared.Item.TheVariants.{GroupId, StreamId, StreamRate, Burst}
use Rattle.records.specs.Numbers.{is_set_up}
use Rattle.records.specs.Sound.{sound_group}
use Rattle.records.specs.declared.Group.{Group}
use Rattle.records.specs.declared.Stream.{Stream}
use Rattle.records.specs.declared.Regulator.{Regulator}
use Rattle.records.specs.declared.Regulator.TheVariants.{Unset, Bucket}
use Rattle.setup.specs.SetUp.{fresh_stream, stream_set_up}
use Rattle.shaper.specs.Frame.{burst_of, process_frame, eligibility_time, discarded, released}
use Rattle.records.specs.Judged.{Judged}
use Rattle.calls.specs.Calls.{stream_placed, taken}
use Rattle.calls.specs.declared.Placed.{Placed}
use Rattle.bridge.specs.Tables.{no_stream}
use Rattle.lent.specs.InPlace.{judged_in, received}
use Rattle.lent.specs.Steps.{ready}
use Rattle.lent.proofs.InPlaceLaws.{has_place, Outcome, outcome, settles, is_stored, is_unready}
use Rattle.firmware.specs.Firmware.{group_of, group_record, stream_of, stream_record, stream_records, rewritten}
use Rattle.firmware.specs.declared.StreamRecord.{StreamRecord}
use Rattle.firmware.proofs.LentRecords.{same_stream, same_streams, one_rewritten}
use Rattle.promises.proofs.Histories.{set_up_kept}
use Rattle.promises_for_c.specs.Lent.{zeroed_stream}
use Rattle.std.proofs.Common.{Result}
use Rattle.quantity.specs.declared.Refusal.{Refusal}

-- what holds of both holds of the chosen one
choose : {A : Type 0} (P : A → Type 0) (t : Bool) (x y : A) → P x → P y → P (cond t x y)
choose P true x y p q = p
choose P false x y p q = q

-- one place of a list that is seen through f
pub map_set : {A B : Type 0} (f : A → B) (l : List A) (i : ℕ) (a : A) → map f (set l i a) ≡ set (map f l) i (f a)
map_set f [] i a = refl
map_set f (x ∷ xs) zero a = refl
map_set f (x ∷ xs) (suc i) a = ap (λ ys. f x ∷ ys) (map_set f xs i a)

-- ---- one record

-- the record that holds a group holds it
pub group_held : (g : Group) → group_of (group_record g) ≡ g
unfolding group_of group_record
group_held g = refl

-- a lent record is used where its stream is set up
pub used_is_set_up : (s : StreamRecord) → is_set_up (stream_of s).regulator ≡ s.used
unfolding stream_of
used_is_set_up s = go s.used
  where
    go : (t : Bool) → is_set_up (cond t (Bucket (record { 0 = s.burst }) (record { ticks = s.empty; part = s.part })) Unset) ≡ t
    go true = refl
    go false = refl

-- its burst is that of its stream, or more where it is not used
pub burst_read : (s : StreamRecord) → s.used ≡ true → burst_of (stream_of s).regulator ≡ s.burst
unfolding stream_of burst_of
burst_read s u = rw u

pub burst_below : (s : StreamRecord) → burst_of (stream_of s).regulator ≤ s.burst
unfolding stream_of burst_of
burst_below s = choose (λ (k : Regulator). burst_of k ≤ s.burst) s.used _ _ (omega arith) (omega arith)

module _ (s : StreamRecord) where
  -- where the stream x is written, the record holds it
  abbrev pub Held : Stream → Type 0
  Held x = stream_of (stream_record s x) ≡ x

  -- so it is of a stream that is set up, and of the one that stands there
  pub stream_held : (x : Stream) → is_set_up x.regulator ≡ true → Held x
  unfolding stream_of stream_record rewritten
  stream_held x = go x.regulator
    where
      go : (k : Regulator) → is_set_up k ≡ true → stream_of (rewritten s x.group x.rate k) ≡ record { group = x.group; rate = x.rate; regulator = k }
      go Unset u = let z : ◌≡◌ {A = ℕ} 0 1 = cc in absurd (omega arith)
      go (Bucket b e) u = refl

  pub kept_held : Held (stream_of s)
  kept_held = ap stream_of (same_stream s)

  -- of what a set-up leaves
  pub placed_held : (i k : ℕ) (g : Group) (r u : ℕ) → Held (stream_placed i (stream_of s) k g r u).after
  unfolding stream_placed stream_set_up taken fresh_stream
  placed_held i k g r u =
      let P : Placed Stream → Type 0 = λ x. Held x.after in
      let Q : Result Stream Refusal → Type 0 = λ y. Held (taken (stream_of s) y).after in
      choose P (not (in_range StreamId i)) _ _ kept_held
      (choose P (is_set_up (stream_of s).regulator) _ _ kept_held
      (choose Q (not (in_range GroupId k && g.used)) _ _ kept_held
      (choose Q (not (sound_group g)) _ _ kept_held
      (choose Q (not (in_range StreamRate r)) _ _ kept_held
      (choose Q (not (in_range Burst u)) _ _ kept_held (stream_held (fresh_stream k r u) refl))))))

  -- and of what a frame leaves
  pub judged_held : (i : ℕ) (g : Group) (n A : ℕ) → Held (judged_in i (stream_of s) g n A).stream
  unfolding process_frame discarded released
  judged_held i g n A = go (outcome i (stream_of s) g n A)
    where
      go : Outcome i (stream_of s) g n A → Held (judged_in i (stream_of s) g n A).stream
      go (inl w) = rw w.1 kept_held
      go (inr p) =
          let T = eligibility_time (stream_of s) g (charged n) A in
          rw p.1 (settles (λ (j : Judged). Held j.stream) (stream_of s) g (charged n) A T kept_held (stream_held _ (set_up_kept (stream_of s).rate.0 (charged n) T (stream_of s).regulator p.0)))

-- ---- the run keeps its length
pub length_kept : (ss : List StreamRecord) (xs : List Stream) → length (stream_records ss xs) ≡ length ss
unfolding stream_records
length_kept [] xs = refl
length_kept (s ∷ ss) [] = refl
length_kept (s ∷ ss) (x ∷ xs) = ap suc (length_kept ss xs)

-- ---- the run: after a frame it holds what the frame leaves
module _ (i : ℕ) (g : Group) (ss : List StreamRecord) (k n A : ℕ) where
  pub received_held : map stream_of (stream_records ss (received i g (map stream_of ss) k n A).streams) ≡ (received i g (map stream_of ss) k n A).streams
  unfolding stream_of
  received_held = go (ready (length (map stream_of ss)) k) refl
    where
      s : StreamRecord
      s = get_or ss k zeroed_stream

      left : Stream → Stream
      left x = (judged_in i x g n A).stream

      one : (x : Stream) → x ≡ stream_of s → ready (length (map stream_of ss)) k ≡ true → map stream_of (stream_records ss (set (map stream_of ss) k (left x))) ≡ set (map stream_of ss) k (left x)
      one x e h =
          ap (map stream_of) (sym (one_rewritten ss k zeroed_stream (left x) (omega (arith, length-map ss stream_of, has_place (length (map stream_of ss)) k h))))
          ∙ map_set stream_of ss k (stream_record s (left x))
          ∙ ap (set (map stream_of ss) k) (rw e (judged_held s i g n A))

      go : (t : Bool) → ready (length (map stream_of ss)) k ≡ t → map stream_of (stream_records ss (received i g (map stream_of ss) k n A).streams) ≡ (received i g (map stream_of ss) k n A).streams
      go true h = rw (is_stored i g (map stream_of ss) k n A h) (one (get_or (map stream_of ss) k no_stream) (get_or-map stream_of ss k zeroed_stream) h)
      go false h = rw (is_unready i g (map stream_of ss) k n A h) (ap (map stream_of) (same_streams ss))
