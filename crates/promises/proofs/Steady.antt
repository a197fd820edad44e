-- What no call changes: the tables' sizes, a stream's group, rate and burst once it is set up, a group's residence limit once it is. Assumes nothing.
use mathlib.Core.Path.{◌≡◌, refl, ◌∙◌, subst}
use mathlib.Core.Bool.{Bool, true, false}
use mathlib.Core.List.{List, [], ◌∷◌}
use Prim.Native.Nat.{ℕ}
use native.Mathlib.Omega.{arith}
use Rattle.quantity.specs.Ranges.{in_range}
use Rattle.quantity.specs.declared.Item.TheVariants.{GroupId, StreamId}
use Rattle.quantity.proofs.Ranges.{within}
use Rattle.shaper.specs.Frame.{burst_of, after_release}
use Rattle.setup.specs.SetUp.{fresh_group, fresh_stream}
use Rattle.records.specs.Numbers.{is_set_up}
use Rattle.quantity.specs.Charge.{charged}
use Rattle.records.specs.declared.Group.{Group}
use Rattle.records.specs.declared.Stream.{Stream}
use Rattle.records.specs.declared.Regulator.{Regulator}
use Rattle.records.specs.declared.Regulator.TheVariants.{Unset, Bucket}
use Rattle.admission.proofs.Tests.{Passes}
use Rattle.records.proofs.Soundness.{sound_ok}
use Rattle.bridge.specs.Tables.{group_at, stream_at, with_group, with_stream}
use Rattle.bridge.specs.History.{Call, group, stream, frame, after_call, after}
use Rattle.bridge.specs.declared.Bridge.{Bridge}
use Rattle.promises.proofs.Places.{Sized, sized_group, sized_stream, streams_stay, groups_stay, stream_case, group_case}
use Rattle.promises.proofs.Calls.{stream_after, Step, stays, group_made, stream_made, let_go, dropped, step}

-- ---- one record after another
pub record SteadyStream (s t : Stream) : Type 0 where
  pub set_up : is_set_up t.regulator ≡ true
  pub group : t.group ≡ s.group
  pub rate : t.rate.0 ≡ s.rate.0
  pub burst : burst_of t.regulator ≡ burst_of s.regulator

pub record SteadyGroup (g h : Group) : Type 0 where
  pub used : h.used ≡ true
  pub residence : h.residence.0 ≡ g.residence.0

set_up_after : (r L T : ℕ) (k : Regulator) → is_set_up k ≡ true → is_set_up (after_release r k L T) ≡ true
unfolding after_release
set_up_after r L T Unset h = h
set_up_after r L T (Bucket b e) h = refl

burst_after : (r L T : ℕ) (k : Regulator) → burst_of (after_release r k L T) ≡ burst_of k
unfolding after_release burst_of
burst_after r L T Unset = refl
burst_after r L T (Bucket b e) = refl

same_stream : (s : Stream) → is_set_up s.regulator ≡ true → SteadyStream s s
same_stream s h = record { set_up = h; group = refl; rate = refl; burst = refl }

after_stream : (s : Stream) (L T : ℕ) → is_set_up s.regulator ≡ true → SteadyStream s (stream_after s L T)
after_stream s L T h = record { set_up = set_up_after s.rate.0 L T s.regulator h; group = refl; rate = refl; burst = burst_after s.rate.0 L T s.regulator }

-- ---- one bridge after another
pub record Steady (b c : Bridge) : Type 0 where
  pub streams : (j : ℕ) → is_set_up (stream_at b j).regulator ≡ true → SteadyStream (stream_at b j) (stream_at c j)
  pub groups : (j : ℕ) → (group_at b j).used ≡ true → SteadyGroup (group_at b j) (group_at c j)

steady_same : (b c : Bridge) → c ≡ b → Steady b c
steady_same b c e = record {
  streams = λ j h. rw e (same_stream (stream_at b j) h);
  groups = λ j h. rw e (record { used = h; residence = refl });
}

steady_then : (a b c : Bridge) → Steady a b → Steady b c → Steady a c
steady_then a b c p q = record {
  streams = λ j h.
      let x = p.streams j h in
      let y = q.streams j x.set_up in
      record { set_up = y.set_up; group = y.group ∙ x.group; rate = y.rate ∙ x.rate; burst = y.burst ∙ x.burst };
  groups = λ j h.
      let x = p.groups j h in
      let y = q.groups j x.used in
      record { used = y.used; residence = y.residence ∙ x.residence };
}

never : {A : Type 0} (t : Bool) → t ≡ true → t ≡ false → A
never true p q = let z : ◌≡◌ {A = ℕ} 0 1 = cc in absurd (omega arith)
never false p q = let z : ◌≡◌ {A = ℕ} 0 1 = cc in absurd (omega arith)

-- a group's id is in range where a frame was judged by it
pub home_in : (b : Bridge) (i n A : ℕ) → Passes (stream_at b i) (group_at b (stream_at b i).group) n A → in_range GroupId (stream_at b i).group ≡ true
home_in b i n A p = within GroupId (stream_at b i).group (omega arith) (sound_ok _ _ p.records).id

pub home_used : (b : Bridge) (i n A : ℕ) → Passes (stream_at b i) (group_at b (stream_at b i).group) n A → (group_at b (stream_at b i).group).used ≡ true
home_used b i n A p = (sound_ok _ _ p.records).group.used

-- ---- a frame's two records stored
module _ (b : Bridge) (z : Sized b) (i n A : ℕ) (s : Stream) (g : Group) where
  stored_steady : (h : in_range StreamId i ≡ true) (k : in_range GroupId (stream_at b i).group ≡ true) → SteadyStream (stream_at b i) s → SteadyGroup (group_at b (stream_at b i).group) g → Steady b (with_group (with_stream b i s) (stream_at b i).group g)
  stored_steady h k p q = record {
    streams = λ j e.
        rw (streams_stay (with_stream b i s) (stream_at b i).group g j)
        (stream_case b z i h s j (λ t. SteadyStream (stream_at b j) t) (λ x. subst (λ (m : ℕ). SteadyStream (stream_at b m) s) x p) (λ x. same_stream (stream_at b j) e));
    groups = λ j e.
        group_case (with_stream b i s) (sized_stream b i s z) (stream_at b i).group k g j (λ t. SteadyGroup (group_at b j) t) (λ x. subst (λ (m : ℕ). SteadyGroup (group_at b m) g) x q)
        (λ x. rw (groups_stay b i s j) (record { used = e; residence = refl }));
  }

steady_step : (b : Bridge) (z : Sized b) (x : Call) → Step b x → Steady b (after_call b x)
steady_step b z x (stays e o) = steady_same b _ e
steady_step b z (group i c M) (group_made v e o) =
    rw e (
    record {
      streams = λ j h. rw (streams_stay b i (fresh_group c M) j) (same_stream (stream_at b j) h);
      groups = λ j h. group_case b z i v.id (fresh_group c M) j (λ t. SteadyGroup (group_at b j) t) (λ p. never (group_at b j).used h (rw p at v.unused)) (λ p. record { used = h; residence = refl });
    }
    )
steady_step b z (stream i k r u) (stream_made v e o) =
    rw e (
    record {
      streams = λ j h. stream_case b z i v.id (fresh_stream k r u) j (λ t. SteadyStream (stream_at b j) t) (λ p. never (is_set_up (stream_at b j).regulator) h (rw p at v.unset)) (λ p. same_stream (stream_at b j) h);
      groups = λ j h. rw (groups_stay b i (fresh_stream k r u) j) (record { used = h; residence = refl });
    }
    )
steady_step b z (frame i n A) (let_go T h p t l e o) =
    rw e (stored_steady b z i n A _ _ h (home_in b i n A p) (after_stream (stream_at b i) (charged n) T p.set_up) (record { used = home_used b i n A p; residence = refl }))
steady_step b z (frame i n A) (dropped T h p t l e o) =
    rw e (stored_steady b z i n A _ _ h (home_in b i n A p) (same_stream (stream_at b i) p.set_up) (record { used = home_used b i n A p; residence = refl }))

sized_step : (b : Bridge) → Sized b → (x : Call) → Step b x → Sized (after_call b x)
sized_step b z x (stays e o) = rw e z
sized_step b z (group i c M) (group_made v e o) = rw e (sized_group b i (fresh_group c M) z)
sized_step b z (stream i k r u) (stream_made v e o) = rw e (sized_stream b i (fresh_stream k r u) z)
sized_step b z (frame i n A) (let_go T h p t l e o) = rw e (sized_group _ _ _ (sized_stream b i _ z))
sized_step b z (frame i n A) (dropped T h p t l e o) = rw e (sized_group _ _ _ (sized_stream b i _ z))

pub sized_call : (b : Bridge) → Sized b → (x : Call) → Sized (after_call b x)
sized_call b z x = sized_step b z x (step b x)

pub steady_call : (b : Bridge) → Sized b → (x : Call) → Steady b (after_call b x)
steady_call b z x = steady_step b z x (step b x)

pub steady_after : (b : Bridge) → Sized b → (xs : List Call) → Steady b (after b xs)
unfolding after
steady_after b z [] = steady_same b b refl
steady_after b z (x ∷ xs) = steady_then b (after_call b x) _ (steady_call b z x) (steady_after (after_call b x) (sized_call b z x) xs)
