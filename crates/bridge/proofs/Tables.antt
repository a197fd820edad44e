-- Laws of the tables: what is stored at place 0 for an id out of range is what stood there. Each law of a call is the return of its code. Assumes nothing.
use mathlib.Core.Path.{◌≡◌, refl, sym, ap, ◌∙◌}
use mathlib.Core.Bool.{Bool, true, false}
use Prim.Native.Nat.{ℕ}
use lib.ListN.{get_or, set}
use lib.Seq.{set-get_or}
use Rattle.quantity.specs.Ranges.{in_range, place_of}
use Rattle.quantity.specs.declared.Item.TheVariants.{GroupId, StreamId}
use Rattle.quantity.specs.declared.Refusal.{Refusal}
use Rattle.quantity.specs.declared.Refusal.TheVariants.{IdRange, NoStream, Unsound}
use Rattle.quantity.proofs.Booleans.{and_false}
use Rattle.quantity.proofs.Ranges.{place_in}
use Rattle.records.specs.Sound.{sound, sound_group}
use Rattle.records.specs.Numbers.{is_set_up}
use Rattle.shaper.specs.Numbers.{judged, refused}
use Rattle.records.specs.declared.Group.{Group}
use Rattle.records.specs.declared.Stream.{Stream}
use Rattle.records.specs.Judged.{Judged}
use Rattle.records.specs.declared.Answer.{Answer}
use Rattle.shaper.proofs.Judging.{not_set_up, unsound}
use Rattle.setup.proofs.Fresh.{group_out}
use Rattle.calls.proofs.Returns.{group_id_out, stream_id_out, frame_id_out, frame_id_in}
use Rattle.bridge.specs.Tables.{no_group, no_stream, group_at, stream_at, with_group, with_stream}
use Rattle.calls.specs.Calls.{group_placed, stream_placed, judged_at}
use Rattle.bridge.specs.Calls.{group_stored, group_called, stream_stored, stream_called, frame_stored, frame_called}
use Rattle.bridge.specs.declared.Bridge.{Bridge}
use Rattle.calls.specs.declared.Placed.{Placed}
use Rattle.bridge.specs.Calls.{BridgeSetUp}
use Rattle.bridge.specs.Calls.{Framed}
use Rattle.std.proofs.Common.{Err}

-- ---- a record that is stored where it stood changes nothing
pub same_group : (b : Bridge) (i : ℕ) → with_group b i (group_at b i) ≡ b
unfolding with_group group_at
same_group b i = ap (λ gs. record { groups = gs; streams = b.streams }) (set-get_or b.groups i no_group)

pub same_stream : (b : Bridge) (i : ℕ) → with_stream b i (stream_at b i) ≡ b
unfolding with_stream stream_at
same_stream b i = ap (λ ss. record { groups = b.groups; streams = ss }) (set-get_or b.streams i no_stream)

-- ---- the returns of the calls on the tables; p and q are the places that the code found
module _ (b : Bridge) (i c M : ℕ) where
  group_at_place : (p : ℕ) → Placed Group → BridgeSetUp
  group_at_place p x = record { answer = x.answer; bridge = record { groups = set b.groups p x.after; streams = b.streams } }

  pub group_call : (p : ℕ) → p ≡ place_of GroupId i → (x : Placed Group) → x ≡ group_placed i (get_or b.groups p no_group) c M → record { answer = x.answer; bridge = record { groups = set b.groups p x.after; streams = b.streams } } ≡ group_called b i c M
  unfolding group_called group_stored with_group group_at group_at_place
  group_call p e x y = ap (group_at_place p) y ∙ go (in_range GroupId i) refl
    where
      go : (t : Bool) → in_range GroupId i ≡ t → group_at_place p (group_placed i (get_or b.groups p no_group) c M) ≡ group_called b i c M
      go true h = ap (λ (n : ℕ). group_at_place n (group_placed i (get_or b.groups n no_group) c M)) (e ∙ place_in GroupId i h)
      go false h =
          ap (group_at_place p) (group_id_out i (get_or b.groups p no_group) c M h)
          ∙ ap (λ gs. record { answer = Err IdRange; bridge = record { groups = gs; streams = b.streams } }) (set-get_or b.groups p no_group ∙ sym (set-get_or b.groups i no_group))
          ∙ sym (ap (group_at_place i) (group_id_out i (get_or b.groups i no_group) c M h))

module _ (b : Bridge) (i k r u : ℕ) where
  stream_at_place : (p : ℕ) → Placed Stream → BridgeSetUp
  stream_at_place p x = record { answer = x.answer; bridge = record { groups = b.groups; streams = set b.streams p x.after } }

  -- the group that is looked at for an id out of range does not matter
  any_group : (s : Stream) (g h : Group) → in_range GroupId k ≡ false → stream_placed i s k g r u ≡ stream_placed i s k h r u
  unfolding stream_placed
  any_group s g h e = simp (group_out k g r u e, group_out k h r u e)

  pub stream_call : (p q : ℕ) → p ≡ place_of StreamId i → q ≡ place_of GroupId k → (x : Placed Stream) → x ≡ stream_placed i (get_or b.streams p no_stream) k (get_or b.groups q no_group) r u → record { answer = x.answer; bridge = record { groups = b.groups; streams = set b.streams p x.after } } ≡ stream_called b i k r u
  unfolding stream_called stream_stored with_stream stream_at group_at stream_at_place
  stream_call p q e f x y = ap (stream_at_place p) (y ∙ home (in_range GroupId k) refl) ∙ go (in_range StreamId i) refl
    where
      home : (t : Bool) → in_range GroupId k ≡ t → stream_placed i (get_or b.streams p no_stream) k (get_or b.groups q no_group) r u ≡ stream_placed i (get_or b.streams p no_stream) k (get_or b.groups k no_group) r u
      home true h = ap (λ (n : ℕ). stream_placed i (get_or b.streams p no_stream) k (get_or b.groups n no_group) r u) (f ∙ place_in GroupId k h)
      home false h = any_group (get_or b.streams p no_stream) (get_or b.groups q no_group) (get_or b.groups k no_group) h

      go : (t : Bool) → in_range StreamId i ≡ t → stream_at_place p (stream_placed i (get_or b.streams p no_stream) k (get_or b.groups k no_group) r u) ≡ stream_called b i k r u
      go true h = ap (λ (n : ℕ). stream_at_place n (stream_placed i (get_or b.streams n no_stream) k (get_or b.groups k no_group) r u)) (e ∙ place_in StreamId i h)
      go false h =
          ap (stream_at_place p) (stream_id_out i (get_or b.streams p no_stream) k (get_or b.groups k no_group) r u h)
          ∙ ap (λ ss. record { answer = Err IdRange; bridge = record { groups = b.groups; streams = ss } }) (set-get_or b.streams p no_stream ∙ sym (set-get_or b.streams i no_stream))
          ∙ sym (ap (stream_at_place i) (stream_id_out i (get_or b.streams i no_stream) k (get_or b.groups k no_group) r u h))

-- a stream whose group is out of range is refused, whatever group's record is looked at
id_out : (s : Stream) (g : Group) → in_range GroupId s.group ≡ false → sound s g ≡ false
unfolding sound
id_out s g e = rw (e, and_false (sound_group g))

homeless : (s : Stream) (g h : Group) (n A : ℕ) → in_range GroupId s.group ≡ false → (why : Refusal) × (judged s g n A ≡ refused s g why) × (judged s h n A ≡ refused s h why)
homeless s g h n A e = go (is_set_up s.regulator) refl
  where
    go : (t : Bool) → is_set_up s.regulator ≡ t → (why : Refusal) × (judged s g n A ≡ refused s g why) × (judged s h n A ≡ refused s h why)
    go true u = (Unsound, unsound s g n A u (id_out s g e), unsound s h n A u (id_out s h e))
    go false u = (NoStream, not_set_up s g n A u, not_set_up s h n A u)

module _ (b : Bridge) (i n A : ℕ) where
  frame_at_places : (p q : ℕ) → Judged → Framed
  frame_at_places p q j = record { answer = j.answer; bridge = record { groups = set b.groups q j.group; streams = set b.streams p j.stream } }

  -- a refused frame's records are stored where they stood
  frame_stays : (p q : ℕ) (why : Refusal) (j : Judged) → j ≡ refused (get_or b.streams p no_stream) (get_or b.groups q no_group) why → frame_at_places p q j ≡ record { answer = Answer.Refused why; bridge = b }
  unfolding frame_at_places
  frame_stays p q why j e =
      ap (frame_at_places p q) e
      ∙ ap (λ gs. record { answer = Answer.Refused why; bridge = record { groups = gs; streams = set b.streams p (get_or b.streams p no_stream) } }) (set-get_or b.groups q no_group)
      ∙ ap (λ ss. record { answer = Answer.Refused why; bridge = record { groups = b.groups; streams = ss } }) (set-get_or b.streams p no_stream)

  pub frame_call : (p q : ℕ) → p ≡ place_of StreamId i → q ≡ place_of GroupId (get_or b.streams p no_stream).group → (j : Judged) → j ≡ judged_at i (get_or b.streams p no_stream) (get_or b.groups q no_group) n A → record { answer = j.answer; bridge = record { groups = set b.groups q j.group; streams = set b.streams p j.stream } } ≡ frame_called b i n A
  unfolding frame_called frame_stored with_stream with_group stream_at group_at frame_at_places
  frame_call p q e f j y = ap (frame_at_places p q) y ∙ go (in_range StreamId i) refl
    where
      S : ℕ → Stream
      S m = get_or b.streams m no_stream

      G : ℕ → Group
      G m = get_or b.groups m no_group

      home : (t : Bool) → in_range GroupId (S i).group ≡ t → in_range StreamId i ≡ true → (m : ℕ) → m ≡ place_of GroupId (S i).group → frame_at_places i m (judged_at i (S i) (G m) n A) ≡ frame_at_places i (S i).group (judged_at i (S i) (G (S i).group) n A)
      home true h a m x = ap (λ (l : ℕ). frame_at_places i l (judged_at i (S i) (G l) n A)) (x ∙ place_in GroupId (S i).group h)
      home false h a m x =
          let w = homeless (S i) (G m) (G (S i).group) n A h in
          frame_stays i m w.0 _ (frame_id_in i (S i) (G m) n A a ∙ w.1)
          ∙ sym (frame_stays i (S i).group w.0 _ (frame_id_in i (S i) (G (S i).group) n A a ∙ w.2))

      go : (t : Bool) → in_range StreamId i ≡ t → frame_at_places p q (judged_at i (S p) (G q) n A) ≡ frame_called b i n A
      go true h =
          let a : p ≡ i = e ∙ place_in StreamId i h in
          ap (λ (l : ℕ). frame_at_places l q (judged_at i (S l) (G q) n A)) a
          ∙ home (in_range GroupId (S i).group) refl h q (f ∙ ap (λ (l : ℕ). place_of GroupId (S l).group) a)
      go false h =
          frame_stays p q NoStream _ (frame_id_out i (S p) (G q) n A h)
          ∙ sym (frame_stays i (S i).group NoStream _ (frame_id_out i (S i) (G (S i).group) n A h))
