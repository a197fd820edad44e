-- Laws of one arrival: a released frame may enter, entering without the tests is entering, and what becomes of the frame. Assumes nothing.
use mathlib.Core.Path.{◌≡◌, refl, sym, ap, ◌∙◌}
use mathlib.Core.Bool.{Bool, true, false, cond}
use mathlib.Core.Logic.{⊎_elim}
use Prim.Native.Nat.{ℕ, ◌+◌, ◌≤◌, ◌<◌}
use native.Mathlib.Omega.{arith}
use lib.Dec.{ltb}
use lib.ListN.{get_or}
use borrow.Author.Tests.{ltb-false}
use Rattle.quantity.specs.declared.Item.TheVariants.{EntryTime, Arrival, StreamId, GroupId}
use Rattle.quantity.specs.declared.Refusal.{Refusal}
use Rattle.quantity.specs.declared.Ticks.{Ticks}
use Rattle.quantity.proofs.Ranges.{within, at_most, place_most, place_in}
use Rattle.shaper.specs.Frame.{eligibility_time, discarded, released, process_frame, settled as settled_by}
use Rattle.quantity.specs.Charge.{charged}
use Rattle.records.specs.Numbers.{answer_number}
use Rattle.records.specs.declared.Group.{Group}
use Rattle.records.specs.declared.Stream.{Stream}
use Rattle.records.specs.Judged.{Judged}
use Rattle.records.specs.declared.Answer.{Answer}
use Rattle.records.specs.declared.Answer.TheVariants.{Released, Discarded, Refused}
use Rattle.records.proofs.Soundness.{sound_ok}
use Rattle.quantity.proofs.Charging.{charge_in_range}
use Rattle.classes.specs.Soundness.{entry_sound}
use Rattle.classes.specs.Calls.{Entered, enter_gives}
use Rattle.places.specs.declared.Waiting.{Waiting}
use Rattle.waiting.specs.Answers.{entered_number}
use Rattle.bridge.specs.Tables.{no_group, no_stream, group_at, stream_at}
use Rattle.quantity.specs.Ranges.{place_of}
use Rattle.bridge.specs.Calls.{frame_stored, frame_called}
use Rattle.bridge.specs.declared.Bridge.{Bridge}
use Rattle.bridge.specs.Calls.{Framed}
use Rattle.bridge.proofs.Views.{JudgedFrame, frame_view}
use Rattle.line.specs.Run.{handed, entered, settled}
use Rattle.line.specs.Firsts.{Enterable}
use Rattle.line.specs.declared.Handed.{Handed}

-- ---- what becomes of a frame
-- H is what is handed on for a released one, x and W what entering it gave
pub settle_released : (w : Waiting) (g : Group) (k n : ℕ) (a : Answer) (T : Ticks) → a ≡ Released T → (H : Handed) → H ≡ handed g k n T.0
    → (x : Entered) (W : Waiting) → record { answer = x; waiting = W } ≡ enter_gives w H.class H.entry → record { number = entered_number x; waiting = W } ≡ settled w g k n a
unfolding settled entered
settle_released w g k n a T e H q x W p = rw e (ap entered (p ∙ ap (λ (h : Handed). enter_gives w h.class h.entry) q))

module _ (w : Waiting) (g : Group) (k n : ℕ) (a : Answer) where
  pub settle_discarded : (T : Ticks) → a ≡ Discarded T → (r : ℕ) → r ≡ answer_number a → record { number = r; waiting = w } ≡ settled w g k n a
  unfolding settled
  settle_discarded T e r q = let z : r ≡ answer_number (Discarded T) = q ∙ ap answer_number e in rw (e, z) refl

  pub settle_refused : (why : Refusal) → a ≡ Refused why → (r : ℕ) → r ≡ answer_number a → record { number = r; waiting = w } ≡ settled w g k n a
  unfolding settled
  settle_refused why e r q = let z : r ≡ answer_number (Refused why) = q ∙ ap answer_number e in rw (e, z) refl

-- only a released frame's group is looked at
pub settled_same : (w : Waiting) (g h : Group) (k n : ℕ) (a : Answer) → ((T : Ticks) → a ≡ Released T → g ≡ h) → settled w g k n a ≡ settled w h k n a
unfolding settled
settled_same w g h k n (Released T) e = ap (λ (x : Group). entered (enter_gives w (handed x k n T.0).class (handed x k n T.0).entry)) (e T refl)
settled_same w g h k n (Discarded T) e = refl
settled_same w g h k n (Refused why) e = refl

-- ---- a released frame
released_early : (s : Stream) (g : Group) (L A : ℕ) (T : Ticks) → (process_frame s g L A).answer ≡ Released T → T.0 ≤ A + g.residence.0
unfolding process_frame settled_by discarded released
released_early s g L A T e = go (ltb (A + g.residence.0) (eligibility_time s g L A)) refl e where
  go : (t : Bool) → ltb (A + g.residence.0) (eligibility_time s g L A) ≡ t
      → (let j : Judged = cond t (discarded s g A (eligibility_time s g L A)) (released s g L A (eligibility_time s g L A)) in j.answer ≡ Released T) → T.0 ≤ A + g.residence.0
  go true q r = let z : ◌≡◌ {A = ℕ} 0 1 = cc in absurd (omega arith)
  go false q r =
      let y = ltb-false (A + g.residence.0) (eligibility_time s g L A) q in
      let z : record { 0 = eligibility_time s g L A } ≡ T = cc in
      omega (arith, ap (λ (x : Ticks). x.0) z)

module _ (b : Bridge) (i n A : ℕ) (T : Ticks) (e : (frame_called b i n A).answer ≡ Released T) where
  was_judged : JudgedFrame b i n A
  was_judged = ⊎_elim (λ v. let z : Refused v.why ≡ Released T = sym (ap (λ (x : Framed). x.answer) v.gives) ∙ e in let y : ◌≡◌ {A = ℕ} 0 1 = cc in absurd (omega arith)) (λ v. v) (frame_view b i n A)

  -- it may enter its class
  pub may_enter : (k : ℕ) → Enterable (handed (group_at b (stream_at b i).group) k n T.0)
  unfolding handed entry_sound frame_stored
  may_enter k =
      let v = was_judged in
      let o = sound_ok (stream_at b i) (group_at b (stream_at b i).group) v.passes.records in
      let g = o.group in
      let t = released_early (stream_at b i) (group_at b (stream_at b i).group) (charged n) A T (sym (ap (λ (x : Framed). x.answer) v.gives) ∙ e) in
      record {
        class = g.class;
        entry = rw (charge_in_range n v.passes.octets) (within EntryTime T.0 (omega arith) (omega (arith, g.residence, at_most Arrival A v.passes.arrival)));
      }

  -- the places where the code looks are its stream's and its group's
  pub own_group : (p q : ℕ) → p ≡ place_of StreamId i → q ≡ place_of GroupId (get_or b.streams p no_stream).group → get_or b.groups q no_group ≡ group_at b (stream_at b i).group
  unfolding group_at stream_at
  own_group p q x y =
      let v = was_judged in
      let o = sound_ok (stream_at b i) (group_at b (stream_at b i).group) v.passes.records in
      let a : p ≡ i = x ∙ place_in StreamId i v.id in
      let c : q ≡ (get_or b.streams i no_stream).group =
      y ∙ ap (λ (j : ℕ). place_of GroupId (get_or b.streams j no_stream).group) a ∙ place_in GroupId (get_or b.streams i no_stream).group (within GroupId (get_or b.streams i no_stream).group (omega arith) o.id) in
      ap (λ (j : ℕ). get_or b.groups j no_group) c
