-- The judged frames of one group in a history are a trace under the settings that its streams were given. Assumes nothing.
use mathlib.Core.Path.{◌≡◌, refl, sym, ◌∙◌, subst}
use mathlib.Core.Bool.{true, false, cond}
use mathlib.Core.List.{List, [], ◌∷◌, ◌++◌}
use Prim.Native.Nat.{ℕ, ◌+◌, ◌≤◌, ◌<◌}
use native.Mathlib.Decide.{ℕ_discrete}
use native.Mathlib.Omega.{arith}
use lib.Dec.{eqb}
use borrow.Author.Tests.{ltb-false, eq-eqb, ne_eqb}
use Rattle.quantity.specs.Ranges.{in_range}
use Rattle.quantity.specs.declared.Item.TheVariants.{StreamId, StreamRate}
use Rattle.quantity.proofs.Ranges.{at_least}
use Rattle.shaper.specs.Frame.{burst_of, after_release, eligibility_time}
use Rattle.setup.specs.SetUp.{fresh_group, fresh_stream}
use Rattle.records.specs.Numbers.{is_set_up}
use Rattle.admission.specs.Tests.{above_burst}
use Rattle.quantity.specs.Charge.{charged}
use Rattle.records.specs.declared.Group.{Group}
use Rattle.records.specs.declared.Stream.{Stream}
use Rattle.records.specs.declared.Regulator.{Regulator}
use Rattle.records.specs.declared.Regulator.TheVariants.{Unset, Bucket}
use Rattle.admission.proofs.Tests.{Passes}
use Rattle.records.proofs.Soundness.{SoundOk, sound_ok}
use Rattle.shaper.specs.Natural.{X}
use Rattle.shaper.proofs.Natural.{T_late, T_least, X_after, X_fresh}
use Rattle.bridge.specs.Tables.{fresh_bridge, group_at, stream_at, with_group, with_stream}
use Rattle.bridge.specs.History.{Call, group, stream, frame, after_call, after, Outcome, released, discarded, frame_of, outcome, outcomes}
use Rattle.bridge.specs.Spans.{burst_at, rate_at}
use Rattle.bridge.specs.declared.Bridge.{Bridge}
use Rattle.bridge.proofs.Views.{NewGroup, NewStream}
use Rattle.promises.proofs.Trace.{Settings, State, upd_same, upd_other, next, Judged, Ok, Trace}
use Rattle.promises.proofs.Trace as trace
use Rattle.promises.proofs.Places.{Sized, sized_fresh, sized_group, sized_stream, streams_stay, groups_stay, stream_case, group_case, fresh_group_law, fresh_stream_law}
use Rattle.promises.proofs.Calls.{stream_after, group_released, group_discarded, frame_at, Step, stays, group_made, stream_made, let_go, dropped, step}
use Rattle.promises.proofs.Steady.{Steady, SteadyStream, home_in, home_used, steady_after}

-- the settings of a group and of every stream in a bridge
abbrev pub settings_of : Bridge → ℕ → Settings
settings_of e g = record { rule = λ j. record { rate = rate_at e j; burst = burst_at e j }; stay = (group_at e g).residence.0 }

-- the judged frames of group g
unfoldable pub mine : ℕ → List Outcome → List Outcome
mine g [] = []
mine g (o ∷ os) = cond (eqb (frame_of o).group g) (o ∷ mine g os) (mine g os)

pub mine_in : (g : ℕ) (o : Outcome) (os : List Outcome) → (frame_of o).group ≡ g → mine g (o ∷ os) ≡ o ∷ mine g os
unfolding mine
mine_in g o os p = rw (eq-eqb _ _ p)

pub mine_out : (g : ℕ) (o : Outcome) (os : List Outcome) → ((frame_of o).group ≡ g → ⊥) → mine g (o ∷ os) ≡ mine g os
unfolding mine
mine_out g o os p = rw (ne_eqb _ _ p)

-- ---- the records of a bridge stand for the state s of group g
absurd_bool : {A : Type 0} → true ≡ false → A
absurd_bool e = let z : ◌≡◌ {A = ℕ} 0 1 = cc in absurd (omega arith)

-- x is the full time of a stream's record, as far as group g sees it
pub record Tells (g x : ℕ) (t : Stream) : Type 0 where
  pub unset : is_set_up t.regulator ≡ false → x ≡ 0
  pub own : is_set_up t.regulator ≡ true → t.group ≡ g → x ≡ X t.rate.0 t.regulator

pub record Shows (s : State) (t : Group) : Type 0 where
  pub time : t.time.0 ≡ s.time
  pub last : t.last.0 ≡ s.last
  pub unused : t.used ≡ false → (s.time ≡ 0) × (s.last ≡ 0)

pub record Rep (g : ℕ) (s : State) (b : Bridge) : Type 0 where
  pub sized : Sized b
  pub group : Shows s (group_at b g)
  pub streams : (j : ℕ) → Tells g (s.full j) (stream_at b j)

pub rep_fresh : (g : ℕ) → Rep g trace.fresh fresh_bridge
rep_fresh g = record {
  sized = sized_fresh;
  group = rw (fresh_group_law g) (record { time = refl; last = refl; unused = λ e. (refl, refl) });
  streams = λ j. rw (fresh_stream_law j) (record { unset = λ e. refl; own = λ e p. absurd_bool (sym e) });
}

-- ---- a group or a stream is set up
set_up_fresh : (k r u : ℕ) → is_set_up (fresh_stream k r u).regulator ≡ true
unfolding fresh_stream
set_up_fresh k r u = refl

rep_group : (g : ℕ) (s : State) (b : Bridge) (i c M : ℕ) → Rep g s b → NewGroup b i c M → Rep g s (with_group b i (fresh_group c M))
unfolding fresh_group
rep_group g s b i c M p v = record {
  sized = sized_group b i (fresh_group c M) p.sized;
  group = group_case b p.sized i v.id (fresh_group c M) g (λ t. Shows s t) own (λ d. p.group);
  streams = λ j. rw (streams_stay b i (fresh_group c M) j) (p.streams j);
}
  where
    own : i ≡ g → Shows s (fresh_group c M)
    own e =
        let z = p.group.unused (rw e at v.unused) in
        record { time = sym z.0; last = sym z.1; unused = λ x. absurd_bool x }

rep_stream : (g : ℕ) (s : State) (b : Bridge) (i k r u : ℕ) → Rep g s b → NewStream b i k r u → Rep g s (with_stream b i (fresh_stream k r u))
unfolding fresh_stream
rep_stream g s b i k r u p v = record {
  sized = sized_stream b i (fresh_stream k r u) p.sized;
  group = rw (groups_stay b i (fresh_stream k r u) g) p.group;
  streams = λ j. stream_case b p.sized i v.id (fresh_stream k r u) j (λ t. Tells g (s.full j) t) (λ e. subst (λ (m : ℕ). Tells g (s.full m) (fresh_stream k r u)) e own) (λ d. p.streams j);
}
  where
    own : Tells g (s.full i) (fresh_stream k r u)
    own = record {
      unset = λ x. absurd_bool (sym (set_up_fresh k r u) ∙ x);
      own = λ x y. (p.streams i).unset v.unset ∙ sym (X_fresh k r u (omega (arith, at_least StreamRate r v.rate)));
    }

-- ---- a frame is judged
small : (k : Regulator) (L : ℕ) → is_set_up k ≡ true → above_burst k L ≡ false → L ≤ burst_of k
unfolding above_burst burst_of
small Unset L h a = absurd_bool (sym h)
small (Bucket u e) L h a = ltb-false u.0 L a

pub set_up_kept : (r L T : ℕ) (k : Regulator) → is_set_up k ≡ true → is_set_up (after_release r k L T) ≡ true
unfolding after_release
set_up_kept r L T Unset h = h
set_up_kept r L T (Bucket u e) h = refl

module _ (b e : Bridge) (z : Sized b) (d : Steady b e) (i n A : ℕ) (p : Passes (stream_at b i) (group_at b (stream_at b i).group) n A) where
  abbrev T : ℕ
  T = eligibility_time (stream_at b i) (group_at b (stream_at b i).group) (charged n) A

  kept : SteadyStream (stream_at b i) (stream_at e i)
  kept = d.streams i p.set_up

  some : 0 < (stream_at b i).rate.0
  some = let k = sound_ok _ _ p.records in omega arith

  -- in the state of the frame's own group it is judged as a trace asks
  frame_judged : (s : State) → Rep (stream_at b i).group s b → Judged (settings_of e (stream_at b i).group) s (frame_at b i n A T)
  frame_judged s q =
      let x = (q.streams i).own p.set_up refl in
      let late = T_late (stream_at b i) (group_at b (stream_at b i).group) p.records (charged n) A in
      record {
        small = rw kept.burst (small (stream_at b i).regulator (charged n) p.set_up p.burst);
        order = rw (← q.group.last) p.order;
        arrived = late.0;
        fifo = rw (← q.group.time) late.1;
        room = rw (kept.burst, kept.rate, x) late.2;
        least = λ t a g r. T_least (stream_at b i) (group_at b (stream_at b i).group) p.records (charged n) A t a (rw q.group.time g) (rw (kept.burst, kept.rate, x) at r);
      }

  -- the state after it stands for the bridge after it
  rep_released : (h : in_range StreamId i ≡ true) (s : State) → Rep (stream_at b i).group s b → Rep (stream_at b i).group (next (settings_of e (stream_at b i).group) s (released (frame_at b i n A T))) (with_group (with_stream b i (stream_after (stream_at b i) (charged n) T)) (stream_at b i).group (group_released (group_at b (stream_at b i).group) A T))
  rep_released h s q = record {
    sized = sized_group _ _ _ (sized_stream b i _ z);
    group = group_case (with_stream b i s') (sized_stream b i s' z) (stream_at b i).group (home_in b i n A p) g' (stream_at b i).group (λ t. Shows after t) (λ x. shown) (λ x. absurd (x refl));
    streams = λ j. rw (streams_stay (with_stream b i s') (stream_at b i).group g' j) (stream_case b z i h s' j (λ t. Tells (stream_at b i).group (after.full j) t) (own j) (rest j));
  }
    where
      s' : Stream
      s' = stream_after (stream_at b i) (charged n) T

      g' : Group
      g' = group_released (group_at b (stream_at b i).group) A T

      after : State
      after = next (settings_of e (stream_at b i).group) s (released (frame_at b i n A T))

      shown : Shows after g'
      shown = record { time = refl; last = refl; unused = λ x. absurd_bool (sym (home_used b i n A p) ∙ x) }

      k : SoundOk (stream_at b i) (group_at b (stream_at b i).group)
      k = sound_ok _ _ p.records

      full : after.full i ≡ X (stream_at b i).rate.0 s'.regulator
      full =
          upd_same s.full i _
          ∙ rw (kept.rate, (q.streams i).own p.set_up refl) (sym (X_after (stream_at b i).rate.0 (group_at b (stream_at b i).group).time.0 some (charged n) T (stream_at b i).regulator k.regulator))

      own : (j : ℕ) → i ≡ j → Tells (stream_at b i).group (after.full j) s'
      own j x = subst (λ (m : ℕ). Tells (stream_at b i).group (after.full m) s') x (
          record { unset = λ y. absurd_bool (sym (set_up_kept (stream_at b i).rate.0 (charged n) T (stream_at b i).regulator p.set_up) ∙ y); own = λ y w. full }
          )

      rest : (j : ℕ) → (i ≡ j → ⊥) → Tells (stream_at b i).group (after.full j) (stream_at b j)
      rest j x = rw (upd_other s.full i _ j x) (q.streams j)

  rep_discarded : (h : in_range StreamId i ≡ true) (s : State) → Rep (stream_at b i).group s b → Rep (stream_at b i).group (next (settings_of e (stream_at b i).group) s (discarded (frame_at b i n A T))) (with_group (with_stream b i (stream_at b i)) (stream_at b i).group (group_discarded (group_at b (stream_at b i).group) A))
  rep_discarded h s q = record {
    sized = sized_group _ _ _ (sized_stream b i _ z);
    group = group_case (with_stream b i (stream_at b i)) (sized_stream b i (stream_at b i) z) (stream_at b i).group (home_in b i n A p) g' (stream_at b i).group (λ t. Shows after t) (λ x. shown) (λ x. absurd (x refl));
    streams = λ j. rw (streams_stay (with_stream b i (stream_at b i)) (stream_at b i).group g' j) (stream_case b z i h (stream_at b i) j (λ t. Tells (stream_at b i).group (s.full j) t) (λ x. subst (λ (m : ℕ). Tells (stream_at b i).group (s.full m) (stream_at b i)) x (q.streams i)) (λ x. q.streams j));
  }
    where
      g' : Group
      g' = group_discarded (group_at b (stream_at b i).group) A

      after : State
      after = next (settings_of e (stream_at b i).group) s (discarded (frame_at b i n A T))

      shown : Shows after g'
      shown = record { time = q.group.time; last = refl; unused = λ x. absurd_bool (sym (home_used b i n A p) ∙ x) }

  -- another group does not see it
  rep_foreign : (h : in_range StreamId i ≡ true) (g : ℕ) (s : State) (t : Stream) (f : Group) → ((stream_at b i).group ≡ g → ⊥) → is_set_up t.regulator ≡ true → t.group ≡ (stream_at b i).group → Rep g s b → Rep g s (with_group (with_stream b i t) (stream_at b i).group f)
  rep_foreign h g s t f x u w q = record {
    sized = sized_group _ _ _ (sized_stream b i _ z);
    group = group_case (with_stream b i t) (sized_stream b i t z) (stream_at b i).group (home_in b i n A p) f g (λ y. Shows s y) (λ y. absurd (x y)) (λ y. rw (groups_stay b i t g) q.group);
    streams = λ j. rw (streams_stay (with_stream b i t) (stream_at b i).group f j) (stream_case b z i h t j (λ y. Tells g (s.full j) y) (λ y. record { unset = λ v. absurd_bool (sym u ∙ v); own = λ v r. absurd (x (sym w ∙ r)) }) (λ y. q.streams j));
  }

-- ---- a history's judged frames of one group
abbrev Traced : ℕ → List Call → Type 0
Traced g xs = (b : Bridge) (s : State) → Rep g s b → Trace (settings_of (after b xs) g) s (mine g (outcomes b xs))

-- the trace goes on with one more call
module _ (g : ℕ) (xs : List Call) (ih : Traced g xs) (b : Bridge) (s : State) (q : Rep g s b) where
  -- a call that judges nothing
  quiet : (x : Call) → outcome b x ≡ [] → Rep g s (after_call b x) → Trace (settings_of (after (after_call b x) xs) g) s (mine g (outcome b x ++ outcomes (after_call b x) xs))
  quiet x o p = rw o (ih (after_call b x) s p)

  -- one that judges a frame of another group
  foreign : (x : Call) (o : Outcome) → outcome b x ≡ o ∷ [] → ((frame_of o).group ≡ g → ⊥) → Rep g s (after_call b x) → Trace (settings_of (after (after_call b x) xs) g) s (mine g (outcome b x ++ outcomes (after_call b x) xs))
  foreign x o e d p = rw (e, mine_out g o (outcomes (after_call b x) xs) d) (ih (after_call b x) s p)

  -- one that judges a frame of this group
  own : (x : Call) (o : Outcome) → outcome b x ≡ o ∷ [] → (frame_of o).group ≡ g → Ok (settings_of (after (after_call b x) xs) g) s o → Rep g (next (settings_of (after (after_call b x) xs) g) s o) (after_call b x) → Trace (settings_of (after (after_call b x) xs) g) s (mine g (outcome b x ++ outcomes (after_call b x) xs))
  own x o e d k p = rw (e, mine_in g o (outcomes (after_call b x) xs) d) (k, ih (after_call b x) (next (settings_of (after (after_call b x) xs) g) s o) p)

-- a frame of the group itself, released and discarded
module _ (xs : List Call) (b : Bridge) (s : State) (i n A : ℕ) (h : in_range StreamId i ≡ true) (p : Passes (stream_at b i) (group_at b (stream_at b i).group) n A) (d : Steady b (after (after_call b (frame i n A)) xs)) where
  Goes : ℕ → Type 0
  Goes g = Traced g xs → Rep g s b → Trace (settings_of (after (after_call b (frame i n A)) xs) g) s (mine g (outcome b (frame i n A) ++ outcomes (after_call b (frame i n A)) xs))

  stay : (group_at (after (after_call b (frame i n A)) xs) (stream_at b i).group).residence.0 ≡ (group_at b (stream_at b i).group).residence.0
  stay = (d.groups (stream_at b i).group (home_used b i n A p)).residence

  own_released : (T : ℕ) → eligibility_time (stream_at b i) (group_at b (stream_at b i).group) (charged n) A ≡ T → T ≤ A + (group_at b (stream_at b i).group).residence.0 → after_call b (frame i n A) ≡ with_group (with_stream b i (stream_after (stream_at b i) (charged n) T)) (stream_at b i).group (group_released (group_at b (stream_at b i).group) A T) → outcome b (frame i n A) ≡ released (frame_at b i n A T) ∷ [] → Goes (stream_at b i).group
  unfolding Goes
  own_released T t l e o ih q =
      let E = after (after_call b (frame i n A)) xs in
      own (stream_at b i).group xs ih b s q (frame i n A) (released (frame_at b i n A T)) o refl
      (subst (λ (m : ℕ). Judged (settings_of E (stream_at b i).group) s (frame_at b i n A m)) t (frame_judged b E q.sized d i n A p s q), rw stay l)
      (subst (λ (c : Bridge). Rep (stream_at b i).group (next (settings_of E (stream_at b i).group) s (released (frame_at b i n A T))) c) (sym e)
      (subst (λ (m : ℕ). Rep (stream_at b i).group (next (settings_of E (stream_at b i).group) s (released (frame_at b i n A m))) (with_group (with_stream b i (stream_after (stream_at b i) (charged n) m)) (stream_at b i).group (group_released (group_at b (stream_at b i).group) A m))) t (rep_released b E q.sized d i n A p h s q)))

  own_discarded : (T : ℕ) → eligibility_time (stream_at b i) (group_at b (stream_at b i).group) (charged n) A ≡ T → A + (group_at b (stream_at b i).group).residence.0 < T → after_call b (frame i n A) ≡ with_group (with_stream b i (stream_at b i)) (stream_at b i).group (group_discarded (group_at b (stream_at b i).group) A) → outcome b (frame i n A) ≡ discarded (frame_at b i n A T) ∷ [] → Goes (stream_at b i).group
  unfolding Goes
  own_discarded T t l e o ih q =
      let E = after (after_call b (frame i n A)) xs in
      own (stream_at b i).group xs ih b s q (frame i n A) (discarded (frame_at b i n A T)) o refl
      (subst (λ (m : ℕ). Judged (settings_of E (stream_at b i).group) s (frame_at b i n A m)) t (frame_judged b E q.sized d i n A p s q), rw stay l)
      (rw e (rep_discarded b E q.sized d i n A p h s q))

module _ (xs : List Call) (b : Bridge) (s : State) where
  goes_on : (g : ℕ) (x : Call) → Traced g xs → Rep g s b → Steady b (after (after_call b x) xs) → Step b x → Trace (settings_of (after (after_call b x) xs) g) s (mine g (outcome b x ++ outcomes (after_call b x) xs))
  unfolding Goes
  goes_on g x ih q d (stays e o) = quiet g xs ih b s q x o (rw e q)
  goes_on g (group i c M) ih q d (group_made v e o) = quiet g xs ih b s q (group i c M) o (rw e (rep_group g s b i c M q v))
  goes_on g (stream i k r u) ih q d (stream_made v e o) = quiet g xs ih b s q (stream i k r u) o (rw e (rep_stream g s b i k r u q v))
  goes_on g (frame i n A) ih q d (let_go T h p t l e o) = by (ℕ_discrete (stream_at b i).group g)
    where
      by : Dec ((stream_at b i).group ≡ g) → Trace (settings_of (after (after_call b (frame i n A)) xs) g) s (mine g (outcome b (frame i n A) ++ outcomes (after_call b (frame i n A)) xs))
      by (yes y) = subst (λ (m : ℕ). Goes xs b s i n A h p d m) y (own_released xs b s i n A h p d T (sym t) l e o) ih q
      by (no y) = foreign g xs ih b s q (frame i n A) (released (frame_at b i n A T)) o y (rw e (rep_foreign b _ q.sized d i n A p h g s _ _ y (set_up_kept (stream_at b i).rate.0 (charged n) T (stream_at b i).regulator p.set_up) refl q))
  goes_on g (frame i n A) ih q d (dropped T h p t l e o) = by (ℕ_discrete (stream_at b i).group g)
    where
      by : Dec ((stream_at b i).group ≡ g) → Trace (settings_of (after (after_call b (frame i n A)) xs) g) s (mine g (outcome b (frame i n A) ++ outcomes (after_call b (frame i n A)) xs))
      by (yes y) = subst (λ (m : ℕ). Goes xs b s i n A h p d m) y (own_discarded xs b s i n A h p d T (sym t) l e o) ih q
      by (no y) = foreign g xs ih b s q (frame i n A) (discarded (frame_at b i n A T)) o y (rw e (rep_foreign b _ q.sized d i n A p h g s _ _ y p.set_up refl q))

pub group_trace : (g : ℕ) (xs : List Call) → Traced g xs
unfolding outcomes after mine
group_trace g [] b s q = tt
group_trace g (x ∷ xs) b s q = goes_on xs b s g x (group_trace g xs) q (steady_after b q.sized (x ∷ xs)) (step b x)

-- from a fresh start
pub history_trace : (g : ℕ) (xs : List Call) → Trace (settings_of (after fresh_bridge xs) g) trace.fresh (mine g (outcomes fresh_bridge xs))
history_trace g xs = group_trace g xs fresh_bridge trace.fresh (rep_fresh g)
