-- Demand 1, proved. Assumes nothing.
use mathlib.Core.Path.{◌≡◌, refl, sym, ap, ◌∙◌}
use mathlib.Core.Bool.{Bool, true, false, cond}
use mathlib.Core.List.{List, [], ◌∷◌}
use mathlib.Core.Logic.{◌⊎◌, inl, inr}
use Prim.Native.Nat.{ℕ, ◌+◌, ◌≤◌}
use native.Mathlib.Omega.{arith}
use lib.Dec.{ltb}
use Rattle.shaper.specs.Frame.{eligibility_time, discarded, released, settled, process_frame}
use Rattle.quantity.specs.Charge.{charged}
use Rattle.records.specs.Numbers.{answer_number, answer_values}
use Rattle.records.specs.declared.Group.{Group}
use Rattle.records.specs.declared.Stream.{Stream}
use Rattle.bridge.specs.Tables.{fresh_bridge, group_at, stream_at}
use Rattle.bridge.specs.Calls.{frame_stored}
use Rattle.calls.specs.Numbers.{set_up_number}
use Rattle.bridge.specs.History.{Call, group, stream, frame, reply, replies, after_call}
use Rattle.bridge.specs.declared.Bridge.{Bridge}
use Rattle.bridge.specs.Calls.{BridgeSetUp}
use Rattle.bridge.specs.Calls.{Framed}
use Rattle.bridge.proofs.Views.{KeptGroup, NewGroup, group_view, KeptStream, NewStream, stream_view, KeptFrame, JudgedFrame, frame_view}
use Rattle.promises.specs.Demand1.{OneFixedAnswer, RefusedChangesNothing, RecordsStaySound, NoneUnsound, NeverUnsound}
use Rattle.promises.proofs.SoundBridges.{SoundBridge, sound_fresh, sound_call, sound_after, sound_reply}

pub one_fixed_answer : OneFixedAnswer
unfolding OneFixedAnswer
one_fixed_answer A d x y p q = p ∙ sym q

settled_low : (s : Stream) (g : Group) (L A T : ℕ) → answer_number (settled s g L A T).answer ≤ 1
unfolding settled discarded released answer_number
settled_low s g L A T = go (ltb (A + g.residence.0) T)
  where
    go : (x : Bool) → answer_number (cond x (discarded s g A T) (released s g L A T)).answer ≤ 1
    go true = omega arith
    go false = omega arith

process_low : (s : Stream) (g : Group) (L A : ℕ) → answer_number (process_frame s g L A).answer ≤ 1
unfolding process_frame
process_low s g L A = settled_low s g L A (eligibility_time s g L A)

pub refused_changes_nothing : RefusedChangesNothing
unfolding RefusedChangesNothing reply after_call set_up_number answer_number answer_values frame_stored
refused_changes_nothing b (group i c M) h = go (group_view b i c M)
  where
    go : KeptGroup b i c M ⊎ NewGroup b i c M → (after_call b (group i c M) ≡ b) × ((reply b (group i c M)).values ≡ [])
    go (inl v) = (ap (λ (r : BridgeSetUp). r.bridge) v.gives, refl)
    go (inr v) = absurd (omega (arith, ap (λ (r : BridgeSetUp). set_up_number r.answer) v.gives))
refused_changes_nothing b (stream i k r u) h = go (stream_view b i k r u)
  where
    go : KeptStream b i k r u ⊎ NewStream b i k r u → (after_call b (stream i k r u) ≡ b) × ((reply b (stream i k r u)).values ≡ [])
    go (inl v) = (ap (λ (r : BridgeSetUp). r.bridge) v.gives, refl)
    go (inr v) = absurd (omega (arith, ap (λ (r : BridgeSetUp). set_up_number r.answer) v.gives))
refused_changes_nothing b (frame i n A) h = go (frame_view b i n A)
  where
    go : KeptFrame b i n A ⊎ JudgedFrame b i n A → (after_call b (frame i n A) ≡ b) × ((reply b (frame i n A)).values ≡ [])
    go (inl v) = (ap (λ (r : Framed). r.bridge) v.gives, ap (λ (r : Framed). answer_values r.answer) v.gives)
    go (inr v) = absurd (omega (arith, ap (λ (r : Framed). answer_number r.answer) v.gives, process_low (stream_at b i) (group_at b (stream_at b i).group) (charged n) A))

pub records_stay_sound : RecordsStaySound
unfolding RecordsStaySound
records_stay_sound xs = let q = sound_after fresh_bridge sound_fresh xs in record { groups = q.groups; streams = q.streams }

never_from : (b : Bridge) → SoundBridge b → (xs : List Call) → NoneUnsound (replies b xs)
unfolding NoneUnsound replies
never_from b q [] = tt
never_from b q (x ∷ xs) = (sound_reply b q x, never_from (after_call b x) (sound_call b q x) xs)

pub never_unsound : NeverUnsound
unfolding NeverUnsound
never_unsound xs = never_from fresh_bridge sound_fresh xs
