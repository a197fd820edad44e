-- Every record of a bridge stays sound, whatever is called; and no call on such a bridge answers 9. Assumes nothing.
use mathlib.Core.Path.{◌≡◌, refl, sym, ap, ◌∙◌, subst}
use mathlib.Core.Bool.{Bool, true, false, cond}
use mathlib.Core.List.{List, [], ◌∷◌}
use mathlib.Core.Logic.{◌⊎◌, inl, inr}
use Prim.Native.Nat.{ℕ, ◌+◌, ◌≤◌, ◌<◌}
use native.Mathlib.Omega.{arith}
use lib.Dec.{ltb}
use Rattle.quantity.specs.Ranges.{in_range}
use Rattle.quantity.specs.Numbers.{number_of}
use Rattle.quantity.specs.declared.Item.TheVariants.{GroupId, StreamId}
use Rattle.quantity.specs.declared.Refusal.TheVariants.{Unsound}
use Rattle.shaper.specs.Frame.{eligibility_time, discarded, released, settled, process_frame}
use Rattle.records.specs.Sound.{sound, sound_group}
use Rattle.setup.specs.SetUp.{fresh_group, fresh_stream}
use Rattle.records.specs.Numbers.{is_set_up, answer_number}
use Rattle.quantity.specs.Charge.{charged}
use Rattle.records.specs.declared.Group.{Group}
use Rattle.records.specs.declared.Stream.{Stream}
use Rattle.records.specs.Judged.{Judged}
use Rattle.shaper.proofs.Judging.{too_late, in-time}
use Rattle.admission.proofs.Tests.{Passes}
use Rattle.records.proofs.Soundness.{sound_ok, group_sound}
use Rattle.setup.proofs.Fresh.{fresh_group_sound, fresh_stream_sound}
use Rattle.shaper.proofs.Natural.{T_late, frame_kept, beside}
use Rattle.bridge.specs.Tables.{fresh_bridge, group_at, stream_at, with_group, with_stream}
use Rattle.bridge.specs.Calls.{frame_stored}
use Rattle.calls.specs.Numbers.{set_up_number}
use Rattle.bridge.specs.History.{Call, group, stream, frame, after_call, after, reply}
use Rattle.bridge.specs.declared.Bridge.{Bridge}
use Rattle.bridge.specs.Calls.{BridgeSetUp}
use Rattle.bridge.specs.Calls.{Framed}
use Rattle.bridge.proofs.Views.{KeptGroup, NewGroup, group_view, KeptStream, NewStream, stream_view, KeptFrame, JudgedFrame, frame_view}
use Rattle.promises.proofs.Places.{Sized, sized_fresh, sized_group, sized_stream, streams_stay, groups_stay, stream_case, group_case, fresh_group_law, fresh_stream_law}
use Rattle.promises.proofs.Calls.{stream_after, group_released, group_discarded, Step, stays, group_made, stream_made, let_go, dropped, step}
use Rattle.promises.proofs.Steady.{home_in}

never : {A : Type 0} (t : Bool) → t ≡ true → t ≡ false → A
never t p q = let z : true ≡ false = sym p ∙ q in let n : ◌≡◌ {A = ℕ} 0 1 = cc in absurd (omega arith)

pub record SoundBridge (b : Bridge) : Type 0 where
  pub sized : Sized b
  pub groups : (k : ℕ) → (group_at b k).used ≡ true → sound_group (group_at b k) ≡ true
  pub streams : (j : ℕ) → is_set_up (stream_at b j).regulator ≡ true → sound (stream_at b j) (group_at b (stream_at b j).group) ≡ true

pub sound_fresh : SoundBridge fresh_bridge
sound_fresh = record {
  sized = sized_fresh;
  groups = λ k e. never false (sym (ap (λ (g : Group). g.used) (fresh_group_law k)) ∙ e) refl;
  streams = λ j e. never false (sym (ap (λ (s : Stream). is_set_up s.regulator) (fresh_stream_law j)) ∙ e) refl;
}

-- a stream's group is sound and in range
sound_home : (s : Stream) (g : Group) → sound s g ≡ true → sound_group g ≡ true
sound_home s g e = group_sound g (sound_ok s g e).group

-- ---- a group or a stream is set up
module _ (b : Bridge) (q : SoundBridge b) where
  -- a stream's group is used, so it is not the one that is made
  sound_new_group : (i c M : ℕ) → NewGroup b i c M → SoundBridge (with_group b i (fresh_group c M))
  sound_new_group i c M v = record {
    sized = sized_group b i (fresh_group c M) q.sized;
    groups = λ k. group_case b q.sized i v.id (fresh_group c M) k (λ g. g.used ≡ true → sound_group g ≡ true) (λ x e. fresh_group_sound c M v.class v.residence) (λ x e. q.groups k e);
    streams = λ j. rw (streams_stay b i (fresh_group c M) j) (λ e. group_case b q.sized i v.id (fresh_group c M) (stream_at b j).group (λ g. sound (stream_at b j) g ≡ true) (λ x. taken j e x) (λ x. q.streams j e));
  }
    where
      taken : (j : ℕ) → is_set_up (stream_at b j).regulator ≡ true → i ≡ (stream_at b j).group → sound (stream_at b j) (fresh_group c M) ≡ true
      taken j e x = never (group_at b (stream_at b j).group).used (sound_ok _ _ (q.streams j e)).group.used (rw x at v.unused)

  sound_new_stream : (i k r u : ℕ) → NewStream b i k r u → SoundBridge (with_stream b i (fresh_stream k r u))
  unfolding fresh_stream
  sound_new_stream i k r u v = record {
    sized = sized_stream b i (fresh_stream k r u) q.sized;
    groups = λ h. rw (groups_stay b i (fresh_stream k r u) h) (q.groups h);
    streams = λ j. stream_case b q.sized i v.id (fresh_stream k r u) j (λ s. is_set_up s.regulator ≡ true → sound s (group_at (with_stream b i (fresh_stream k r u)) s.group) ≡ true) (λ x e. rw (groups_stay b i (fresh_stream k r u) k) (fresh_stream_sound k (group_at b k) r u v.home v.used v.group v.rate v.burst)) (λ x e. rw (groups_stay b i (fresh_stream k r u) (stream_at b j).group) (q.streams j e));
  }

  -- ---- a frame is judged: its stream's record s and its group's record g are stored, sound together, and the group's time has not gone back
  sound_frame : (i : ℕ) (s : Stream) (g : Group) → in_range StreamId i ≡ true → in_range GroupId (stream_at b i).group ≡ true → s.group ≡ (stream_at b i).group → sound s g ≡ true → (group_at b (stream_at b i).group).time.0 ≤ g.time.0 → SoundBridge (with_group (with_stream b i s) (stream_at b i).group g)
  sound_frame i s g h k w o l = record {
    sized = sized_group _ _ _ (sized_stream b i s q.sized);
    groups = λ m. group_case mid (sized_stream b i s q.sized) home k g m (λ x. x.used ≡ true → sound_group x ≡ true) (λ x e. sound_home s g o) (λ x. rw (groups_stay b i s m) (q.groups m));
    streams = λ j. rw (streams_stay mid home g j) (stream_case b q.sized i h s j (λ x. is_set_up x.regulator ≡ true → sound x (group_at (with_group mid home g) x.group) ≡ true) (λ x e. own) (λ x e. rest j e));
  }
    where
      home : ℕ
      home = (stream_at b i).group

      mid : Bridge
      mid = with_stream b i s

      own : sound s (group_at (with_group mid home g) s.group) ≡ true
      own = group_case mid (sized_stream b i s q.sized) home k g s.group (λ x. sound s x ≡ true) (λ x. o) (λ x. absurd (x (sym w)))

      rest : (j : ℕ) → is_set_up (stream_at b j).regulator ≡ true → sound (stream_at b j) (group_at (with_group mid home g) (stream_at b j).group) ≡ true
      rest j e =
          group_case mid (sized_stream b i s q.sized) home k g (stream_at b j).group (λ x. sound (stream_at b j) x ≡ true)
          (λ x. beside (stream_at b j) (group_at b (stream_at b j).group) g (q.streams j e) (sound_home s g o) (rw (← x) l))
          (λ x. rw (groups_stay b i s (stream_at b j).group) (q.streams j e))

-- the records after a judged frame are sound together
module _ (s : Stream) (g : Group) (n A T : ℕ) (p : Passes s g n A) (t : T ≡ eligibility_time s g (charged n) A) where
  released_sound : T ≤ A + g.residence.0 → sound (stream_after s (charged n) T) (group_released g A T) ≡ true
  unfolding process_frame released
  released_sound l =
      rw t (subst (λ (j : Judged). sound j.stream j.group ≡ true) (in-time s g (charged n) A (eligibility_time s g (charged n) A) (rw t at l)) (frame_kept s g n A p))

  discarded_sound : A + g.residence.0 < T → sound s (group_discarded g A) ≡ true
  unfolding process_frame discarded
  discarded_sound l =
      subst (λ (j : Judged). sound j.stream j.group ≡ true) (too_late s g (charged n) A (eligibility_time s g (charged n) A) (rw t at l)) (frame_kept s g n A p)

  time_on : g.time.0 ≤ T
  time_on = rw t (T_late s g p.records (charged n) A).1

sound_step : (b : Bridge) → SoundBridge b → (x : Call) → Step b x → SoundBridge (after_call b x)
sound_step b q x (stays e o) = rw e q
sound_step b q (group i c M) (group_made v e o) = rw e (sound_new_group b q i c M v)
sound_step b q (stream i k r u) (stream_made v e o) = rw e (sound_new_stream b q i k r u v)
sound_step b q (frame i n A) (let_go T h p t l e o) =
    rw e (sound_frame b q i (stream_after (stream_at b i) (charged n) T) (group_released (group_at b (stream_at b i).group) A T) h (home_in b i n A p) refl (released_sound _ _ n A T p t l) (time_on _ _ n A T p t))
sound_step b q (frame i n A) (dropped T h p t l e o) =
    rw e (sound_frame b q i (stream_at b i) (group_discarded (group_at b (stream_at b i).group) A) h (home_in b i n A p) refl (discarded_sound _ _ n A T p t l) (omega arith))

pub sound_call : (b : Bridge) → SoundBridge b → (x : Call) → SoundBridge (after_call b x)
sound_call b q x = sound_step b q x (step b x)

pub sound_after : (b : Bridge) → SoundBridge b → (xs : List Call) → SoundBridge (after b xs)
unfolding after
sound_after b q [] = q
sound_after b q (x ∷ xs) = sound_after (after_call b x) (sound_call b q x) xs

-- ---- no call answers 9
abbrev nine : ℕ
nine = number_of Unsound

settled_number : (s : Stream) (g : Group) (L A T : ℕ) → answer_number (settled s g L A T).answer ≡ nine → ⊥
unfolding settled discarded released answer_number
settled_number s g L A T = go (ltb (A + g.residence.0) T)
  where
    go : (x : Bool) → answer_number (cond x (discarded s g A T) (released s g L A T)).answer ≡ nine → ⊥
    go true e = omega arith
    go false e = omega arith

pub sound_reply : (b : Bridge) → SoundBridge b → (x : Call) → (reply b x).number ≡ nine → ⊥
unfolding reply set_up_number answer_number frame_stored process_frame
sound_reply b q (group i c M) e = go (group_view b i c M)
  where
    go : KeptGroup b i c M ⊎ NewGroup b i c M → ⊥
    go (inl v) = v.sound (sym (ap (λ (r : BridgeSetUp). set_up_number r.answer) v.gives) ∙ e)
    go (inr v) = let z = sym (ap (λ (r : BridgeSetUp). set_up_number r.answer) v.gives) ∙ e in omega arith
sound_reply b q (stream i k r u) e = go (stream_view b i k r u)
  where
    go : KeptStream b i k r u ⊎ NewStream b i k r u → ⊥
    go (inl v) =
        let z = v.sound (sym (ap (λ (r : BridgeSetUp). set_up_number r.answer) v.gives) ∙ e) in
        never (sound_group (group_at b k)) (q.groups k z.0) z.1
    go (inr v) = let z = sym (ap (λ (r : BridgeSetUp). set_up_number r.answer) v.gives) ∙ e in omega arith
sound_reply b q (frame i n A) e = go (frame_view b i n A)
  where
    go : KeptFrame b i n A ⊎ JudgedFrame b i n A → ⊥
    go (inl v) =
        let z = v.sound (sym (ap (λ (r : Framed). answer_number r.answer) v.gives) ∙ e) in
        never (sound (stream_at b i) (group_at b (stream_at b i).group)) (q.streams i z.0) z.1
    go (inr v) = settled_number _ _ _ _ _ (sym (ap (λ (r : Framed). answer_number r.answer) v.gives) ∙ e)
