-- Independence, proved: two bridges that group g cannot tell apart stay so, whether another group's frame is called on one of them or the same call on both. Assumes nothing.
use mathlib.Core.Path.{◌≡◌, refl, sym, ap, ◌∙◌, subst}
use mathlib.Core.Bool.{Bool, true, false, cond, ◌&&◌}
use mathlib.Core.List.{List, [], ◌∷◌}
use mathlib.Core.Logic.{◌⊎◌, inl, inr}
use Prim.Native.Nat.{ℕ}
use native.Mathlib.Omega.{arith}
use lib.Dec.{eqb}
use borrow.Author.Tests.{eqb-true, eq-eqb}
use Rattle.quantity.specs.Ranges.{in_range}
use Rattle.quantity.specs.declared.Item.TheVariants.{GroupId, StreamId}
use Rattle.shaper.specs.Frame.{eligibility_time}
use Rattle.setup.specs.SetUp.{fresh_group, fresh_stream}
use Rattle.records.specs.Numbers.{is_set_up, answer_number, answer_values}
use Rattle.quantity.specs.Charge.{charged}
use Rattle.records.specs.declared.Group.{Group}
use Rattle.records.specs.declared.Stream.{Stream}
use Rattle.records.specs.declared.Answer.{Answer}
use Rattle.bridge.specs.Tables.{fresh_bridge, group_at, stream_at, with_group, with_stream}
use Rattle.bridge.specs.Calls.{frame_stored, frame_called}
use Rattle.calls.specs.Calls.{judged_at}
use Rattle.bridge.specs.History.{Call, group, stream, frame, reply, after_call, after, bridge_after, Frame, Outcome, released, discarded, outcome_of, outcome}
use Rattle.bridge.specs.declared.Bridge.{Bridge}
use Rattle.bridge.specs.Calls.{BridgeSetUp}
use Rattle.bridge.specs.Calls.{Framed}
use Rattle.bridge.proofs.Views.{KeptGroup, NewGroup, group_makes, group_view, KeptStream, NewStream, stream_makes, stream_view, frame_unset}
use Rattle.promises.specs.Independence.{foreign, without_others, answers, Independence}
use Rattle.promises.proofs.Places.{sized_stream, streams_stay, groups_stay, stream_case, group_case}
use Rattle.promises.proofs.Calls.{stream_after, group_released, group_discarded, Step, stays, let_go, dropped, step}
use Rattle.promises.proofs.Steady.{Steady, home_in, steady_after}
use Rattle.promises.proofs.Histories.{set_up_kept}
use Rattle.promises.proofs.SoundBridges.{SoundBridge, sound_fresh, sound_call}

-- ---- what two bridges have in common that group g cannot tell apart
pub record Like (e : Bridge) (g : ℕ) (b c : Bridge) : Type 0 where
  pub left : SoundBridge b
  pub right : SoundBridge c
  pub group : group_at b g ≡ group_at c g
  pub used : (k : ℕ) → (group_at b k).used ≡ (group_at c k).used
  pub streams : (j : ℕ) → foreign e g j ≡ false → stream_at b j ≡ stream_at c j
  pub set_up : (j : ℕ) → is_set_up (stream_at b j).regulator ≡ is_set_up (stream_at c j).regulator

like_same : (e : Bridge) (g : ℕ) (b : Bridge) → SoundBridge b → Like e g b b
like_same e g b q = record { left = q; right = q; group = refl; used = λ k. refl; streams = λ j h. refl; set_up = λ j. refl }

-- a stream that is set up and not foreign is of group g
own_home : (e : Bridge) (g i : ℕ) → foreign e g i ≡ false → is_set_up (stream_at e i).regulator ≡ true → (stream_at e i).group ≡ g
unfolding foreign
own_home e g i h u = go (eqb (stream_at e i).group g) refl
  where
    go : (t : Bool) → eqb (stream_at e i).group g ≡ t → (stream_at e i).group ≡ g
    go true x = eqb-true _ _ x
    go false x = let z : true ≡ false = rw (u, x) at h in let n : ◌≡◌ {A = ℕ} 0 1 = cc in absurd (omega arith)

foreign_home : (e : Bridge) (g i : ℕ) → foreign e g i ≡ true → (stream_at e i).group ≡ g → ⊥
unfolding foreign
foreign_home e g i h p = go (is_set_up (stream_at e i).regulator) (rw (eq-eqb _ _ p) at h)
  where
    go : (t : Bool) → t && false ≡ true → ⊥
    go true x = let n : ◌≡◌ {A = ℕ} 0 1 = cc in omega arith
    go false x = let n : ◌≡◌ {A = ℕ} 0 1 = cc in omega arith

-- ---- one record stored in both
module _ (e : Bridge) (g : ℕ) (b c : Bridge) (q : Like e g b c) where
  both_group : (i : ℕ) (f : Group) → in_range GroupId i ≡ true → SoundBridge (with_group b i f) → SoundBridge (with_group c i f) → Like e g (with_group b i f) (with_group c i f)
  both_group i f h x y = record {
    left = x;
    right = y;
    group = pair g (λ (l r : Group). l ≡ r) (λ p. refl) (λ d. q.group);
    used = λ k. pair k (λ (l r : Group). l.used ≡ r.used) (λ p. refl) (λ d. q.used k);
    streams = λ j o. streams_stay b i f j ∙ q.streams j o ∙ sym (streams_stay c i f j);
    set_up = λ j. ap (λ (s : Stream). is_set_up s.regulator) (streams_stay b i f j) ∙ q.set_up j ∙ sym (ap (λ (s : Stream). is_set_up s.regulator) (streams_stay c i f j));
  }
    where
      pair : (k : ℕ) (Q : Group → Group → Type 0) → (i ≡ k → Q f f) → ((i ≡ k → ⊥) → Q (group_at b k) (group_at c k)) → Q (group_at (with_group b i f) k) (group_at (with_group c i f) k)
      pair k Q own rest =
          group_case b q.left.sized i h f k (λ l. Q l (group_at (with_group c i f) k))
          (λ p. group_case c q.right.sized i h f k (λ r. Q f r) (λ w. own p) (λ d. absurd (d p)))
          (λ d. group_case c q.right.sized i h f k (λ r. Q (group_at b k) r) (λ p. absurd (d p)) (λ w. rest d))

  both_stream : (i : ℕ) (s : Stream) → in_range StreamId i ≡ true → SoundBridge (with_stream b i s) → SoundBridge (with_stream c i s) → Like e g (with_stream b i s) (with_stream c i s)
  both_stream i s h x y = record {
    left = x;
    right = y;
    group = groups_stay b i s g ∙ q.group ∙ sym (groups_stay c i s g);
    used = λ k. ap (λ (f : Group). f.used) (groups_stay b i s k) ∙ q.used k ∙ sym (ap (λ (f : Group). f.used) (groups_stay c i s k));
    streams = λ j o. pair j (λ (l r : Stream). l ≡ r) (λ p. refl) (λ d. q.streams j o);
    set_up = λ j. pair j (λ (l r : Stream). is_set_up l.regulator ≡ is_set_up r.regulator) (λ p. refl) (λ d. q.set_up j);
  }
    where
      pair : (j : ℕ) (Q : Stream → Stream → Type 0) → (i ≡ j → Q s s) → ((i ≡ j → ⊥) → Q (stream_at b j) (stream_at c j)) → Q (stream_at (with_stream b i s) j) (stream_at (with_stream c i s) j)
      pair j Q own rest =
          stream_case b q.left.sized i h s j (λ l. Q l (stream_at (with_stream c i s) j))
          (λ p. stream_case c q.right.sized i h s j (λ r. Q s r) (λ w. own p) (λ d. absurd (d p)))
          (λ d. stream_case c q.right.sized i h s j (λ r. Q (stream_at b j) r) (λ p. absurd (d p)) (λ w. rest d))

never : {A : Type 0} (t : Bool) → t ≡ true → t ≡ false → A
never t p q = let z : true ≡ false = sym p ∙ q in let n : ◌≡◌ {A = ℕ} 0 1 = cc in absurd (omega arith)

clash : {A : Type 0} {o : Outcome} → [] ≡ o ∷ [] → A
clash p = let n : ◌≡◌ {A = ℕ} 0 1 = cc in absurd (omega arith)

apart : {A : Type 0} {f k : Frame} → released f ∷ [] ≡ discarded k ∷ [] → A
apart p = let n : ◌≡◌ {A = ℕ} 0 1 = cc in absurd (omega arith)

-- ---- the same set-up on both
module _ (e : Bridge) (g : ℕ) (b c : Bridge) (q : Like e g b c) where
  -- what makes a group or a stream in one makes it in the other
  group_there : (i m M : ℕ) → NewGroup b i m M → NewGroup c i m M
  group_there i m M v = group_makes c i m M v.id (sym (q.used i) ∙ v.unused) v.class v.residence

  group_here : (i m M : ℕ) → NewGroup c i m M → NewGroup b i m M
  group_here i m M v = group_makes b i m M v.id (q.used i ∙ v.unused) v.class v.residence

  stream_there : (i k r u : ℕ) → NewStream b i k r u → NewStream c i k r u
  stream_there i k r u v =
      let w = sym (q.used k) ∙ v.used in
      stream_makes c i k r u v.id (sym (q.set_up i) ∙ v.unset) v.home w (q.right.groups k w) v.rate v.burst

  stream_here : (i k r u : ℕ) → NewStream c i k r u → NewStream b i k r u
  stream_here i k r u v =
      let w = q.used k ∙ v.used in
      stream_makes b i k r u v.id (q.set_up i ∙ v.unset) v.home w (q.left.groups k w) v.rate v.burst

  stay_both : (x : Call) → after_call b x ≡ b → after_call c x ≡ c → Like e g (after_call b x) (after_call c x)
  stay_both x y z = rw (y, z) q

  after_group : (i m M : ℕ) → Like e g (after_call b (group i m M)) (after_call c (group i m M))
  unfolding after_call
  after_group i m M = go (group_view b i m M) (group_view c i m M)
    where
      x : Call
      x = group i m M

      made : NewGroup b i m M → NewGroup c i m M → Like e g (after_call b x) (after_call c x)
      made v w =
          let y : after_call b x ≡ with_group b i (fresh_group m M) = ap (λ (r : BridgeSetUp). r.bridge) v.gives in
          let z : after_call c x ≡ with_group c i (fresh_group m M) = ap (λ (r : BridgeSetUp). r.bridge) w.gives in
          rw (y, z) (both_group e g b c q i (fresh_group m M) v.id (rw y at (sound_call b q.left x)) (rw z at (sound_call c q.right x)))

      go : KeptGroup b i m M ⊎ NewGroup b i m M → KeptGroup c i m M ⊎ NewGroup c i m M → Like e g (after_call b x) (after_call c x)
      go (inl v) (inl w) = stay_both x (ap (λ (r : BridgeSetUp). r.bridge) v.gives) (ap (λ (r : BridgeSetUp). r.bridge) w.gives)
      go (inl v) (inr w) = made (group_here i m M w) w
      go (inr v) w = made v (group_there i m M v)

  after_stream : (i k r u : ℕ) → Like e g (after_call b (stream i k r u)) (after_call c (stream i k r u))
  unfolding after_call
  after_stream i k r u = go (stream_view b i k r u) (stream_view c i k r u)
    where
      x : Call
      x = stream i k r u

      made : NewStream b i k r u → NewStream c i k r u → Like e g (after_call b x) (after_call c x)
      made v w =
          let y : after_call b x ≡ with_stream b i (fresh_stream k r u) = ap (λ (a : BridgeSetUp). a.bridge) v.gives in
          let z : after_call c x ≡ with_stream c i (fresh_stream k r u) = ap (λ (a : BridgeSetUp). a.bridge) w.gives in
          rw (y, z) (both_stream e g b c q i (fresh_stream k r u) v.id (rw y at (sound_call b q.left x)) (rw z at (sound_call c q.right x)))

      go : KeptStream b i k r u ⊎ NewStream b i k r u → KeptStream c i k r u ⊎ NewStream c i k r u → Like e g (after_call b x) (after_call c x)
      go (inl v) (inl w) = stay_both x (ap (λ (a : BridgeSetUp). a.bridge) v.gives) (ap (λ (a : BridgeSetUp). a.bridge) w.gives)
      go (inl v) (inr w) = made (stream_here i k r u w) w
      go (inr v) w = made v (stream_there i k r u v)

-- ---- another group's frame on the first
module _ (e : Bridge) (g : ℕ) (b c : Bridge) (q : Like e g b c) (d : Steady b e) (i n A : ℕ) (h : foreign e g i ≡ true) where
  -- a frame's two records stored, of a stream that is set up before and after
  stored_foreign : (s : Stream) (f : Group) → in_range StreamId i ≡ true → in_range GroupId (stream_at b i).group ≡ true → is_set_up (stream_at b i).regulator ≡ true → is_set_up s.regulator ≡ true → (group_at b (stream_at b i).group).used ≡ f.used → SoundBridge (with_group (with_stream b i s) (stream_at b i).group f) → Like e g (with_group (with_stream b i s) (stream_at b i).group f) c
  stored_foreign s f hi hk u v w x = record {
    left = x;
    right = q.right;
    group = at_group g (λ l. l ≡ group_at c g) (λ p. absurd (elsewhere p)) (λ y. q.group);
    used = λ k. at_group k (λ l. l.used ≡ (group_at c k).used) (λ p. sym w ∙ ap (λ (m : ℕ). (group_at b m).used) p ∙ q.used k) (λ y. q.used k);
    streams = λ j o. at_stream j (λ l. l ≡ stream_at c j) (λ p. never (foreign e g j) (rw p at h) o) (λ y. q.streams j o);
    set_up = λ j. at_stream j (λ l. is_set_up l.regulator ≡ is_set_up (stream_at c j).regulator) (λ p. v ∙ sym (rw p at u) ∙ q.set_up j) (λ y. q.set_up j);
  }
    where
      elsewhere : (stream_at b i).group ≡ g → ⊥
      elsewhere p = foreign_home e g i h ((d.streams i u).group ∙ p)

      at_group : (k : ℕ) (Q : Group → Type 0) → ((stream_at b i).group ≡ k → Q f) → (((stream_at b i).group ≡ k → ⊥) → Q (group_at b k)) → Q (group_at (with_group (with_stream b i s) (stream_at b i).group f) k)
      at_group k Q own rest = group_case (with_stream b i s) (sized_stream b i s q.left.sized) (stream_at b i).group hk f k Q own (λ y. rw (groups_stay b i s k) (rest y))

      at_stream : (j : ℕ) (Q : Stream → Type 0) → (i ≡ j → Q s) → ((i ≡ j → ⊥) → Q (stream_at b j)) → Q (stream_at (with_group (with_stream b i s) (stream_at b i).group f) j)
      at_stream j Q own rest = rw (streams_stay (with_stream b i s) (stream_at b i).group f j) (stream_case b q.left.sized i hi s j Q own rest)

  after_foreign : Like e g (after_call b (frame i n A)) c
  after_foreign = go (step b (frame i n A)) (sound_call b q.left (frame i n A))
    where
      go : Step b (frame i n A) → SoundBridge (after_call b (frame i n A)) → Like e g (after_call b (frame i n A)) c
      go (stays y o) x = rw y q
      go (let_go T s p t l y o) x = rw y (stored_foreign _ _ s (home_in b i n A p) p.set_up (set_up_kept (stream_at b i).rate.0 (charged n) T (stream_at b i).regulator p.set_up) refl (rw y at x))
      go (dropped T s p t l y o) x = rw y (stored_foreign _ _ s (home_in b i n A p) p.set_up p.set_up refl (rw y at x))

-- ---- a frame's two records stored in both
module _ (e : Bridge) (g : ℕ) (b c : Bridge) (q : Like e g b c) (i k : ℕ) (s : Stream) (f : Group) (hi : in_range StreamId i ≡ true) (hk : in_range GroupId k ≡ true) where
  group_pair : (m : ℕ) (Q : Group → Group → Type 0) → Q f f → Q (group_at b m) (group_at c m) → Q (group_at (with_group (with_stream b i s) k f) m) (group_at (with_group (with_stream c i s) k f) m)
  group_pair m Q own rest =
      group_case (with_stream b i s) (sized_stream b i s q.left.sized) k hk f m (λ l. Q l (group_at (with_group (with_stream c i s) k f) m))
      (λ p. group_case (with_stream c i s) (sized_stream c i s q.right.sized) k hk f m (λ r. Q f r) (λ w. own) (λ d. absurd (d p)))
      (λ d. group_case (with_stream c i s) (sized_stream c i s q.right.sized) k hk f m (λ r. Q (group_at (with_stream b i s) m) r) (λ p. absurd (d p)) (λ w. rw (groups_stay b i s m, groups_stay c i s m) rest))

  stream_pair : (j : ℕ) (Q : Stream → Stream → Type 0) → Q s s → Q (stream_at b j) (stream_at c j) → Q (stream_at (with_group (with_stream b i s) k f) j) (stream_at (with_group (with_stream c i s) k f) j)
  stream_pair j Q own rest =
      rw (streams_stay (with_stream b i s) k f j, streams_stay (with_stream c i s) k f j)
      (stream_case b q.left.sized i hi s j (λ l. Q l (stream_at (with_stream c i s) j))
      (λ p. stream_case c q.right.sized i hi s j (λ r. Q s r) (λ w. own) (λ d. absurd (d p)))
      (λ d. stream_case c q.right.sized i hi s j (λ r. Q (stream_at b j) r) (λ p. absurd (d p)) (λ w. rest)))

  both_frame : SoundBridge (with_group (with_stream b i s) k f) → SoundBridge (with_group (with_stream c i s) k f) → Like e g (with_group (with_stream b i s) k f) (with_group (with_stream c i s) k f)
  both_frame x y = record {
    left = x;
    right = y;
    group = group_pair g (λ (l r : Group). l ≡ r) refl q.group;
    used = λ m. group_pair m (λ (l r : Group). l.used ≡ r.used) refl (q.used m);
    streams = λ j o. stream_pair j (λ (l r : Stream). l ≡ r) refl (q.streams j o);
    set_up = λ j. stream_pair j (λ (l r : Stream). is_set_up l.regulator ≡ is_set_up r.regulator) refl (q.set_up j);
  }

-- ---- a frame of the group itself on both
module _ (e : Bridge) (g : ℕ) (b c : Bridge) (q : Like e g b c) (d : Steady b e) (i n A : ℕ) (h : foreign e g i ≡ false) where
  x : Call
  x = frame i n A

  -- answered the same, and alike afterwards
  pub record Alike : Type 0 where
    pub replied : reply b (frame i n A) ≡ reply c (frame i n A)
    pub like : Like e g (after_call b (frame i n A)) (after_call c (frame i n A))

  same_stream : stream_at b i ≡ stream_at c i
  same_stream = q.streams i h

  reply_of : (frame_called b i n A).answer ≡ (frame_called c i n A).answer → reply b (frame i n A) ≡ reply c (frame i n A)
  unfolding reply
  reply_of p = ap (λ (a : Answer). record { number = answer_number a; values = answer_values a }) p

  unset : is_set_up (stream_at b i).regulator ≡ false → Alike
  unfolding after_call
  unset u =
      let y = frame_unset b i n A u in
      let z = frame_unset c i n A (sym (q.set_up i) ∙ u) in
      record {
        replied = reply_of (ap (λ (r : Framed). r.answer) y ∙ sym (ap (λ (r : Framed). r.answer) z));
        like = stay_both e g b c q (frame i n A) (ap (λ (r : Framed). r.bridge) y) (ap (λ (r : Framed). r.bridge) z);
      }

  module _ (u : is_set_up (stream_at b i).regulator ≡ true) where
    home : (stream_at b i).group ≡ g
    home = sym (d.streams i u).group ∙ own_home e g i h (d.streams i u).set_up

    same_group : group_at b (stream_at b i).group ≡ group_at c (stream_at c i).group
    same_group = ap (λ (m : ℕ). group_at b m) home ∙ q.group ∙ sym (ap (λ (m : ℕ). group_at c m) (ap (λ (s : Stream). s.group) (sym same_stream) ∙ home))

    same_answer : (frame_called b i n A).answer ≡ (frame_called c i n A).answer
    unfolding frame_called frame_stored
    same_answer =
        ap (λ (f : Group). (judged_at i (stream_at b i) f n A).answer) same_group
        ∙ ap (λ (s : Stream). (judged_at i s (group_at c (stream_at c i).group) n A).answer) same_stream

    same_outcome : outcome b (frame i n A) ≡ outcome c (frame i n A)
    unfolding outcome
    same_outcome =
        ap (λ (a : Answer). outcome_of i (stream_at b i).group (charged n) A a) same_answer
        ∙ ap (λ (s : Stream). outcome_of i s.group (charged n) A (frame_called c i n A).answer) same_stream

    same_time : eligibility_time (stream_at b i) (group_at b (stream_at b i).group) (charged n) A ≡ eligibility_time (stream_at c i) (group_at c (stream_at c i).group) (charged n) A
    same_time =
        ap (λ (f : Group). eligibility_time (stream_at b i) f (charged n) A) same_group
        ∙ ap (λ (s : Stream). eligibility_time s (group_at c (stream_at c i).group) (charged n) A) same_stream

    there_released : (T T' : ℕ) → T ≡ T' → after_call c (frame i n A) ≡ with_group (with_stream c i (stream_after (stream_at c i) (charged n) T')) (stream_at c i).group (group_released (group_at c (stream_at c i).group) A T') → after_call c (frame i n A) ≡ with_group (with_stream c i (stream_after (stream_at b i) (charged n) T)) (stream_at b i).group (group_released (group_at b (stream_at b i).group) A T)
    there_released T T' t z =
        z
        ∙ sym (ap (λ (s : Stream). with_group (with_stream c i (stream_after s (charged n) T')) s.group (group_released (group_at c (stream_at c i).group) A T')) same_stream)
        ∙ sym (ap (λ (f : Group). with_group (with_stream c i (stream_after (stream_at b i) (charged n) T')) (stream_at b i).group (group_released f A T')) same_group)
        ∙ sym (ap (λ (m : ℕ). with_group (with_stream c i (stream_after (stream_at b i) (charged n) m)) (stream_at b i).group (group_released (group_at b (stream_at b i).group) A m)) t)

    there_discarded : after_call c (frame i n A) ≡ with_group (with_stream c i (stream_at c i)) (stream_at c i).group (group_discarded (group_at c (stream_at c i).group) A) → after_call c (frame i n A) ≡ with_group (with_stream c i (stream_at b i)) (stream_at b i).group (group_discarded (group_at b (stream_at b i).group) A)
    there_discarded z =
        z
        ∙ sym (ap (λ (s : Stream). with_group (with_stream c i s) s.group (group_discarded (group_at c (stream_at c i).group) A)) same_stream)
        ∙ sym (ap (λ (f : Group). with_group (with_stream c i (stream_at b i)) (stream_at b i).group (group_discarded f A)) same_group)

    alike : Step b (frame i n A) → Step c (frame i n A) → SoundBridge (after_call b (frame i n A)) → SoundBridge (after_call c (frame i n A)) → Like e g (after_call b (frame i n A)) (after_call c (frame i n A))
    alike (stays y o) (stays z w) v r = stay_both e g b c q (frame i n A) y z
    alike (stays y o) (let_go T s p t l z w) v r = clash (sym o ∙ same_outcome ∙ w)
    alike (stays y o) (dropped T s p t l z w) v r = clash (sym o ∙ same_outcome ∙ w)
    alike (let_go T s p t l y o) (stays z w) v r = clash (sym w ∙ sym same_outcome ∙ o)
    alike (let_go T s p t l y o) (let_go T' s' p' t' l' z w) v r =
        let k = there_released T T' (t ∙ same_time ∙ sym t') z in
        rw (y, k) (both_frame e g b c q i (stream_at b i).group _ _ s (home_in b i n A p) (rw y at v) (rw k at r))
    alike (let_go T s p t l y o) (dropped T' s' p' t' l' z w) v r = apart (sym o ∙ same_outcome ∙ w)
    alike (dropped T s p t l y o) (stays z w) v r = clash (sym w ∙ sym same_outcome ∙ o)
    alike (dropped T s p t l y o) (let_go T' s' p' t' l' z w) v r = apart (sym w ∙ sym same_outcome ∙ o)
    alike (dropped T s p t l y o) (dropped T' s' p' t' l' z w) v r =
        let k = there_discarded z in
        rw (y, k) (both_frame e g b c q i (stream_at b i).group _ _ s (home_in b i n A p) (rw y at v) (rw k at r))

    set_up : Alike
    set_up = record { replied = reply_of same_answer; like = alike (step b (frame i n A)) (step c (frame i n A)) (sound_call b q.left (frame i n A)) (sound_call c q.right (frame i n A)) }

  after_own : Alike
  after_own = go (is_set_up (stream_at b i).regulator) refl
    where
      go : (t : Bool) → is_set_up (stream_at b i).regulator ≡ t → Alike
      go true u = set_up u
      go false u = unset u

-- ---- over a list of calls
pub record Ends (e : Bridge) (g : ℕ) (b c : Bridge) (xs ys : List Call) : Type 0 where
  pub group : group_at (after b xs) g ≡ group_at (after c ys) g
  pub streams : (i : ℕ) → foreign e g i ≡ false → stream_at (after b xs) i ≡ stream_at (after c ys) i
  pub answered : answers e g b xs ≡ answers e g c ys

ends : (e : Bridge) (g : ℕ) (xs : List Call) (b c : Bridge) → Like e g b c → after b xs ≡ e → Ends e g b c xs (without_others e g xs)
unfolding after without_others answers
ends e g [] b c q z = record { group = q.group; streams = q.streams; answered = refl }
ends e g (group i m M ∷ xs) b c q z =
    let k = ends e g xs (after_call b (group i m M)) (after_call c (group i m M)) (after_group e g b c q i m M) z in
    record { group = k.group; streams = k.streams; answered = k.answered }
ends e g (stream i m r u ∷ xs) b c q z =
    let k = ends e g xs (after_call b (stream i m r u)) (after_call c (stream i m r u)) (after_stream e g b c q i m r u) z in
    record { group = k.group; streams = k.streams; answered = k.answered }
ends e g (frame i n A ∷ xs) b c q z = go (foreign e g i) refl (ends e g xs)
  where
    d : Steady b e
    d = subst (λ (t : Bridge). Steady b t) z (steady_after b q.left.sized (frame i n A ∷ xs))

    Rest : List Call
    Rest = without_others e g xs

    go : (t : Bool) → foreign e g i ≡ t → ((v w : Bridge) → Like e g v w → after v xs ≡ e → Ends e g v w xs Rest) → Ends e g b c (frame i n A ∷ xs) (cond (foreign e g i) Rest (frame i n A ∷ Rest))
    go true f ih =
        let k = ih (after_call b (frame i n A)) c (after_foreign e g b c q d i n A f) z in
        rw f (record { group = k.group; streams = k.streams; answered = rw f k.answered })
    go false f ih =
        let a = after_own e g b c q d i n A f in
        let k = ih (after_call b (frame i n A)) (after_call c (frame i n A)) a.like z in
        rw f (record { group = k.group; streams = k.streams; answered = rw f (rw a.replied (ap (λ rs. reply c (frame i n A) ∷ rs) k.answered)) })

pub independence : Independence
unfolding Independence
independence xs g =
    let k = ends (bridge_after xs) g xs fresh_bridge fresh_bridge (like_same (bridge_after xs) g fresh_bridge sound_fresh) refl in
    record { group = k.group; streams = k.streams; answered = k.answered }
