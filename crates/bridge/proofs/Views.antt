-- What a call does, as cases: it is refused and the tables stay, or it changes one record, or a frame's two. Assumes nothing.
use mathlib.Core.Path.{◌≡◌, refl, ap, ◌∙◌}
use mathlib.Core.Bool.{Bool, true, false}
use mathlib.Core.Logic.{◌⊎◌, inl, inr}
use Prim.Native.Nat.{ℕ}
use native.Mathlib.Omega.{arith}
use Rattle.quantity.specs.Ranges.{in_range}
use Rattle.quantity.specs.Numbers.{number_of}
use Rattle.quantity.specs.declared.Item.TheVariants.{GroupId, StreamId, Class, Residence, StreamRate, Burst}
use Rattle.quantity.specs.declared.Refusal.{Refusal}
use Rattle.quantity.specs.declared.Refusal.TheVariants.{Unsound, IdRange, SetUpBefore, NoStream, NoGroup, RateRange, BurstRange, ClassRange, ResidenceRange}
use Rattle.shaper.specs.Frame.{process_frame}
use Rattle.records.specs.Sound.{sound, sound_group}
use Rattle.setup.specs.SetUp.{fresh_group, fresh_stream}
use Rattle.records.specs.Numbers.{is_set_up}
use Rattle.shaper.specs.Numbers.{refused}
use Rattle.quantity.specs.Charge.{charged}
use Rattle.records.specs.declared.Group.{Group}
use Rattle.records.specs.declared.Stream.{Stream}
use Rattle.records.specs.declared.Answer.{Answer}
use Rattle.shaper.proofs.Judging.{Verdict, verdict, not_set_up}
use Rattle.admission.proofs.Tests.{Passes}
use Rattle.setup.proofs.Fresh.{class_out, residence_out, group_done, group_out, group_unused, group_unsound, rate_out, burst_out, stream_done}
use Rattle.bridge.specs.Tables.{group_at, stream_at, with_group, with_stream}
use Rattle.calls.specs.Calls.{taken, group_placed, stream_placed, judged_at}
use Rattle.bridge.specs.Calls.{group_stored, group_called, stream_stored, stream_called, frame_stored, frame_called}
use Rattle.bridge.specs.declared.Bridge.{Bridge}
use Rattle.bridge.proofs.Tables.{same_group, same_stream}
use Rattle.calls.proofs.Returns.{group_id_out, group_before, group_taken_law, stream_id_out, stream_before, stream_taken_law, frame_id_out, frame_id_in}
use Rattle.std.proofs.Common.{Ok, Err}

-- ---- setting up a group
pub record NewGroup (b : Bridge) (i c M : ℕ) : Type 0 where
  pub id : in_range GroupId i ≡ true
  pub unused : (group_at b i).used ≡ false
  pub class : in_range Class c ≡ true
  pub residence : in_range Residence M ≡ true
  pub gives : group_called b i c M ≡ record { answer = (Ok tt); bridge = with_group b i (fresh_group c M) }

pub record KeptGroup (b : Bridge) (i c M : ℕ) : Type 0 where
  pub why : Refusal
  pub sound : number_of why ≡ number_of Unsound → ⊥
  pub gives : group_called b i c M ≡ record { answer = Err why; bridge = b }

module _ (b : Bridge) (i c M : ℕ) where
  group_kept : (why : Refusal) → group_placed i (group_at b i) c M ≡ record { answer = Err why; after = group_at b i } → group_called b i c M ≡ record { answer = Err why; bridge = b }
  unfolding group_called group_stored
  group_kept why e = ap (group_stored b i) e ∙ ap (λ (x : Bridge). record { answer = Err why; bridge = x }) (same_group b i)

  pub group_makes : in_range GroupId i ≡ true → (group_at b i).used ≡ false → in_range Class c ≡ true → in_range Residence M ≡ true → NewGroup b i c M
  unfolding group_called group_stored taken
  group_makes h u k e = record {
    id = h;
    unused = u;
    class = k;
    residence = e;
    gives = ap (group_stored b i) (group_taken_law i (group_at b i) c M h u ∙ ap (taken (group_at b i)) (group_done c M k e));
  }

  pub group_view : KeptGroup b i c M ⊎ NewGroup b i c M
  unfolding group_called group_stored taken
  group_view = at_15 (in_range GroupId i) refl
    where
      g : Group
      g = group_at b i

      kept : (why : Refusal) → (number_of why ≡ number_of Unsound → ⊥) → group_placed i g c M ≡ record { answer = Err why; after = g } → KeptGroup b i c M ⊎ NewGroup b i c M
      kept why s e = inl (record { why = why; sound = s; gives = group_kept why e })

      at_20 : (t : Bool) → in_range Residence M ≡ t → in_range GroupId i ≡ true → g.used ≡ false → in_range Class c ≡ true → KeptGroup b i c M ⊎ NewGroup b i c M
      at_20 false e h u k = kept ResidenceRange (λ x. omega arith) (group_taken_law i g c M h u ∙ ap (taken g) (residence_out c M k e))
      at_20 true e h u k = inr (group_makes h u k e)

      at_21 : (t : Bool) → in_range Class c ≡ t → in_range GroupId i ≡ true → g.used ≡ false → KeptGroup b i c M ⊎ NewGroup b i c M
      at_21 false e h u = kept ClassRange (λ x. omega arith) (group_taken_law i g c M h u ∙ ap (taken g) (class_out c M e))
      at_21 true e h u = at_20 (in_range Residence M) refl h u e

      at_16 : (t : Bool) → g.used ≡ t → in_range GroupId i ≡ true → KeptGroup b i c M ⊎ NewGroup b i c M
      at_16 true e h = kept SetUpBefore (λ x. omega arith) (group_before i g c M h e)
      at_16 false e h = at_21 (in_range Class c) refl h e

      at_15 : (t : Bool) → in_range GroupId i ≡ t → KeptGroup b i c M ⊎ NewGroup b i c M
      at_15 false e = kept IdRange (λ x. omega arith) (group_id_out i g c M e)
      at_15 true e = at_16 g.used refl e

-- ---- setting up a stream
pub record NewStream (b : Bridge) (i k r u : ℕ) : Type 0 where
  pub id : in_range StreamId i ≡ true
  pub unset : is_set_up (stream_at b i).regulator ≡ false
  pub home : in_range GroupId k ≡ true
  pub used : (group_at b k).used ≡ true
  pub group : sound_group (group_at b k) ≡ true
  pub rate : in_range StreamRate r ≡ true
  pub burst : in_range Burst u ≡ true
  pub gives : stream_called b i k r u ≡ record { answer = (Ok tt); bridge = with_stream b i (fresh_stream k r u) }

pub record KeptStream (b : Bridge) (i k r u : ℕ) : Type 0 where
  pub why : Refusal
  pub sound : number_of why ≡ number_of Unsound → ((group_at b k).used ≡ true) × (sound_group (group_at b k) ≡ false)
  pub gives : stream_called b i k r u ≡ record { answer = Err why; bridge = b }

module _ (b : Bridge) (i k r u : ℕ) where
  stream_kept : (why : Refusal) → stream_placed i (stream_at b i) k (group_at b k) r u ≡ record { answer = Err why; after = stream_at b i } → stream_called b i k r u ≡ record { answer = Err why; bridge = b }
  unfolding stream_called stream_stored
  stream_kept why e = ap (stream_stored b i) e ∙ ap (λ (x : Bridge). record { answer = Err why; bridge = x }) (same_stream b i)

  pub stream_makes : in_range StreamId i ≡ true → is_set_up (stream_at b i).regulator ≡ false → in_range GroupId k ≡ true → (group_at b k).used ≡ true → sound_group (group_at b k) ≡ true → in_range StreamRate r ≡ true → in_range Burst u ≡ true → NewStream b i k r u
  unfolding stream_called stream_stored taken
  stream_makes h n a d o f e = record {
    id = h;
    unset = n;
    home = a;
    used = d;
    group = o;
    rate = f;
    burst = e;
    gives = ap (stream_stored b i) (stream_taken_law i (stream_at b i) k (group_at b k) r u h n ∙ ap (taken (stream_at b i)) (stream_done k (group_at b k) r u a d o f e));
  }

  pub stream_view : KeptStream b i k r u ⊎ NewStream b i k r u
  unfolding stream_called stream_stored taken
  stream_view = at_15 (in_range StreamId i) refl
    where
      s : Stream
      s = stream_at b i

      g : Group
      g = group_at b k

      kept : (why : Refusal) → (number_of why ≡ number_of Unsound → (g.used ≡ true) × (sound_group g ≡ false)) → stream_placed i s k g r u ≡ record { answer = Err why; after = s } → KeptStream b i k r u ⊎ NewStream b i k r u
      kept why z e = inl (record { why = why; sound = z; gives = stream_kept why e })

      at_19 : (t : Bool) → in_range Burst u ≡ t → in_range StreamId i ≡ true → is_set_up s.regulator ≡ false → in_range GroupId k ≡ true → g.used ≡ true → sound_group g ≡ true → in_range StreamRate r ≡ true → KeptStream b i k r u ⊎ NewStream b i k r u
      at_19 false e h n a d o f = kept BurstRange (λ x. absurd (omega arith)) (stream_taken_law i s k g r u h n ∙ ap (taken s) (burst_out k g r u a d o f e))
      at_19 true e h n a d o f = inr (stream_makes h n a d o f e)

      at_18 : (t : Bool) → in_range StreamRate r ≡ t → in_range StreamId i ≡ true → is_set_up s.regulator ≡ false → in_range GroupId k ≡ true → g.used ≡ true → sound_group g ≡ true → KeptStream b i k r u ⊎ NewStream b i k r u
      at_18 false e h n a d o = kept RateRange (λ x. absurd (omega arith)) (stream_taken_law i s k g r u h n ∙ ap (taken s) (rate_out k g r u a d o e))
      at_18 true e h n a d o = at_19 (in_range Burst u) refl h n a d o e

      at_9 : (t : Bool) → sound_group g ≡ t → in_range StreamId i ≡ true → is_set_up s.regulator ≡ false → in_range GroupId k ≡ true → g.used ≡ true → KeptStream b i k r u ⊎ NewStream b i k r u
      at_9 false e h n a d = kept Unsound (λ x. (d, e)) (stream_taken_law i s k g r u h n ∙ ap (taken s) (group_unsound k g r u a d e))
      at_9 true e h n a d = at_18 (in_range StreamRate r) refl h n a d e

      used_17 : (t : Bool) → g.used ≡ t → in_range StreamId i ≡ true → is_set_up s.regulator ≡ false → in_range GroupId k ≡ true → KeptStream b i k r u ⊎ NewStream b i k r u
      used_17 false e h n a = kept NoGroup (λ x. absurd (omega arith)) (stream_taken_law i s k g r u h n ∙ ap (taken s) (group_unused k g r u e))
      used_17 true e h n a = at_9 (sound_group g) refl h n a e

      at_17 : (t : Bool) → in_range GroupId k ≡ t → in_range StreamId i ≡ true → is_set_up s.regulator ≡ false → KeptStream b i k r u ⊎ NewStream b i k r u
      at_17 false e h n = kept NoGroup (λ x. absurd (omega arith)) (stream_taken_law i s k g r u h n ∙ ap (taken s) (group_out k g r u e))
      at_17 true e h n = used_17 g.used refl h n e

      at_16 : (t : Bool) → is_set_up s.regulator ≡ t → in_range StreamId i ≡ true → KeptStream b i k r u ⊎ NewStream b i k r u
      at_16 true e h = kept SetUpBefore (λ x. absurd (omega arith)) (stream_before i s k g r u h e)
      at_16 false e h = at_17 (in_range GroupId k) refl h e

      at_15 : (t : Bool) → in_range StreamId i ≡ t → KeptStream b i k r u ⊎ NewStream b i k r u
      at_15 false e = kept IdRange (λ x. absurd (omega arith)) (stream_id_out i s k g r u e)
      at_15 true e = at_16 (is_set_up s.regulator) refl e

-- ---- a frame
pub record KeptFrame (b : Bridge) (i n A : ℕ) : Type 0 where
  pub why : Refusal
  pub sound : number_of why ≡ number_of Unsound → (is_set_up (stream_at b i).regulator ≡ true) × (sound (stream_at b i) (group_at b (stream_at b i).group) ≡ false)
  pub gives : frame_called b i n A ≡ record { answer = Answer.Refused why; bridge = b }

pub record JudgedFrame (b : Bridge) (i n A : ℕ) : Type 0 where
  pub id : in_range StreamId i ≡ true
  pub passes : Passes (stream_at b i) (group_at b (stream_at b i).group) n A
  pub gives : frame_called b i n A ≡ frame_stored b i (stream_at b i).group (process_frame (stream_at b i) (group_at b (stream_at b i).group) (charged n) A)

module _ (b : Bridge) (i n A : ℕ) where
  s : Stream
  s = stream_at b i

  g : Group
  g = group_at b (stream_at b i).group

  frame_kept : (why : Refusal) → judged_at i s g n A ≡ refused s g why → frame_called b i n A ≡ record { answer = Answer.Refused why; bridge = b }
  unfolding frame_called frame_stored s g
  frame_kept why e =
      ap (frame_stored b i s.group) e
      ∙ ap (λ (x : Bridge). record { answer = Answer.Refused why; bridge = with_group x s.group g }) (same_stream b i)
      ∙ ap (λ (x : Bridge). record { answer = Answer.Refused why; bridge = x }) (same_group b s.group)

  -- a stream that is not set up has its frames refused, whatever the tables hold
  pub frame_unset : is_set_up (stream_at b i).regulator ≡ false → frame_called b i n A ≡ record { answer = Answer.Refused NoStream; bridge = b }
  unfolding s g
  frame_unset u = frame_kept NoStream (by (in_range StreamId i) refl)
    where
      by : (t : Bool) → in_range StreamId i ≡ t → judged_at i s g n A ≡ refused s g NoStream
      by true e = frame_id_in i s g n A e ∙ not_set_up s g n A u
      by false e = frame_id_out i s g n A e

  pub frame_view : KeptFrame b i n A ⊎ JudgedFrame b i n A
  unfolding frame_called s g
  frame_view = at_10 (in_range StreamId i) refl
    where
      judging : in_range StreamId i ≡ true → Verdict s g n A → KeptFrame b i n A ⊎ JudgedFrame b i n A
      judging h (inl v) = inl (record { why = v.0; sound = v.2; gives = frame_kept v.0 (frame_id_in i s g n A h ∙ v.1) })
      judging h (inr v) = inr (record { id = h; passes = v.0; gives = ap (frame_stored b i s.group) (frame_id_in i s g n A h ∙ v.1) })

      at_10 : (t : Bool) → in_range StreamId i ≡ t → KeptFrame b i n A ⊎ JudgedFrame b i n A
      at_10 false e = inl (record { why = NoStream; sound = λ x. absurd (omega arith); gives = frame_kept NoStream (frame_id_out i s g n A e) })
      at_10 true e = judging e (verdict s g n A)
