-- What a call leaves and what it judges, as cases over whole records; settings never change once they are made. Assumes nothing.
use mathlib.Core.Path.{◌≡◌, refl, ap, ◌∙◌}
use mathlib.Core.Bool.{Bool, true, false}
use mathlib.Core.List.{[], ◌∷◌}
use mathlib.Core.Logic.{◌⊎◌, inl, inr}
use Prim.Native.Nat.{ℕ, ◌+◌, ◌%◌, ◌^◌, ◌≤◌, ◌<◌}
use lib.Dec.{ltb}
use borrow.Author.Tests.{ltb-true, ltb-false}
use Rattle.quantity.specs.Kinds.{ticks}
use Rattle.quantity.specs.Ranges.{in_range}
use Rattle.quantity.specs.declared.Item.TheVariants.{StreamId}
use Rattle.shaper.specs.Frame.{after_release, eligibility_time, discarded, released, process_frame}
use Rattle.setup.specs.SetUp.{fresh_group, fresh_stream}
use Rattle.quantity.specs.Charge.{charged}
use Rattle.records.specs.declared.Group.{Group}
use Rattle.records.specs.declared.Stream.{Stream}
use Rattle.shaper.proofs.Judging.{too_late, in-time}
use Rattle.admission.proofs.Tests.{Passes}
use Rattle.bridge.specs.Tables.{group_at, stream_at, with_group, with_stream}
use Rattle.bridge.specs.Calls.{frame_stored, frame_called}
use Rattle.bridge.specs.History.{Call, group, stream, frame, after_call, Frame, outcome_of, outcome}
use Rattle.bridge.specs.History as history
use Rattle.bridge.specs.declared.Bridge.{Bridge}
use Rattle.bridge.specs.Calls.{Framed}
use Rattle.bridge.proofs.Views.{KeptGroup, NewGroup, group_view, KeptStream, NewStream, stream_view, KeptFrame, JudgedFrame, frame_view}

-- ---- the records after a release and after a discard
abbrev pub stream_after : Stream → ℕ → ℕ → Stream
stream_after s L T = record { group = s.group; rate = s.rate; regulator = after_release s.rate.0 s.regulator L T }

abbrev pub group_released : Group → ℕ → ℕ → Group
group_released g A T = record { used = g.used; class = g.class; residence = g.residence; time = ticks T; last = ticks A; discards = g.discards }

abbrev pub group_discarded : Group → ℕ → Group
group_discarded g A = record { used = g.used; class = g.class; residence = g.residence; time = g.time; last = ticks A; discards = (g.discards + 1) % 2 ^ 32 }

abbrev pub frame_at : Bridge → ℕ → ℕ → ℕ → ℕ → Frame
frame_at b i n A T = record { stream = i; group = (stream_at b i).group; bits = charged n; arrival = A; time = T }

-- ---- what a call does
pub data Step (b : Bridge) : Call → Type 0 where
  stays : {x : Call} → after_call b x ≡ b → outcome b x ≡ [] → Step b x
  group_made : {i c M : ℕ} → NewGroup b i c M → after_call b (group i c M) ≡ with_group b i (fresh_group c M) → outcome b (group i c M) ≡ [] → Step b (group i c M)
  stream_made : {i k r u : ℕ} → NewStream b i k r u → after_call b (stream i k r u) ≡ with_stream b i (fresh_stream k r u) → outcome b (stream i k r u) ≡ [] → Step b (stream i k r u)
  let_go : {i n A : ℕ} (T : ℕ) → in_range StreamId i ≡ true → Passes (stream_at b i) (group_at b (stream_at b i).group) n A → T ≡ eligibility_time (stream_at b i) (group_at b (stream_at b i).group) (charged n) A → T ≤ A + (group_at b (stream_at b i).group).residence.0 → after_call b (frame i n A) ≡ with_group (with_stream b i (stream_after (stream_at b i) (charged n) T)) (stream_at b i).group (group_released (group_at b (stream_at b i).group) A T) → outcome b (frame i n A) ≡ history.released (frame_at b i n A T) ∷ [] → Step b (frame i n A)
  dropped : {i n A : ℕ} (T : ℕ) → in_range StreamId i ≡ true → Passes (stream_at b i) (group_at b (stream_at b i).group) n A → T ≡ eligibility_time (stream_at b i) (group_at b (stream_at b i).group) (charged n) A → A + (group_at b (stream_at b i).group).residence.0 < T → after_call b (frame i n A) ≡ with_group (with_stream b i (stream_at b i)) (stream_at b i).group (group_discarded (group_at b (stream_at b i).group) A) → outcome b (frame i n A) ≡ history.discarded (frame_at b i n A T) ∷ [] → Step b (frame i n A)

-- a frame that is judged
module _ (b : Bridge) (i n A : ℕ) (v : JudgedFrame b i n A) where
  s : Stream
  s = stream_at b i

  g : Group
  g = group_at b (stream_at b i).group

  T : ℕ
  T = eligibility_time (stream_at b i) (group_at b (stream_at b i).group) (charged n) A

  released_gives : T ≤ A + g.residence.0 → frame_called b i n A ≡ frame_stored b i s.group (released s g (charged n) A T)
  unfolding process_frame s g T
  released_gives h = v.gives ∙ ap (frame_stored b i s.group) (in-time s g (charged n) A T h)

  discarded_gives : A + g.residence.0 < T → frame_called b i n A ≡ frame_stored b i s.group (discarded s g A T)
  unfolding process_frame s g T
  discarded_gives h = v.gives ∙ ap (frame_stored b i s.group) (too_late s g (charged n) A T h)

  judged_step : Step b (frame i n A)
  unfolding after_call outcome outcome_of frame_stored released discarded s g T
  judged_step = go (ltb (A + g.residence.0) T) refl
    where
      go : (t : Bool) → ltb (A + g.residence.0) T ≡ t → Step b (frame i n A)
      go true e =
          let h = ltb-true (A + g.residence.0) T e in
          dropped T v.id v.passes refl h (ap (λ (f : Framed). f.bridge) (discarded_gives h)) (ap (λ (f : Framed). outcome_of i s.group (charged n) A f.answer) (discarded_gives h))
      go false e =
          let h = ltb-false (A + g.residence.0) T e in
          let_go T v.id v.passes refl h (ap (λ (f : Framed). f.bridge) (released_gives h)) (ap (λ (f : Framed). outcome_of i s.group (charged n) A f.answer) (released_gives h))

pub step : (b : Bridge) (x : Call) → Step b x
unfolding after_call outcome outcome_of
step b (group i c M) = go (group_view b i c M)
  where
    go : KeptGroup b i c M ⊎ NewGroup b i c M → Step b (group i c M)
    go (inl v) = stays (ap (λ r. r.bridge) v.gives) refl
    go (inr v) = group_made v (ap (λ r. r.bridge) v.gives) refl
step b (stream i k r u) = go (stream_view b i k r u)
  where
    go : KeptStream b i k r u ⊎ NewStream b i k r u → Step b (stream i k r u)
    go (inl v) = stays (ap (λ r. r.bridge) v.gives) refl
    go (inr v) = stream_made v (ap (λ r. r.bridge) v.gives) refl
step b (frame i n A) = go (frame_view b i n A)
  where
    go : KeptFrame b i n A ⊎ JudgedFrame b i n A → Step b (frame i n A)
    go (inl v) = stays (ap (λ r. r.bridge) v.gives) (ap (λ (f : Framed). outcome_of i (stream_at b i).group (charged n) A f.answer) v.gives)
    go (inr v) = judged_step b i n A v
