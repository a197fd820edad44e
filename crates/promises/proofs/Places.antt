-- What stands at a place of the tables after one record was stored, by cases on the place. Assumes nothing.
use mathlib.Core.Path.{◌≡◌, refl, sym}
use mathlib.Core.Bool.{Bool, true, false}
use Prim.Native.Nat.{ℕ}
use native.Mathlib.Decide.{ℕ_discrete}
use native.Mathlib.Omega.{arith}
use lib.Dec.{ltb}
use borrow.Author.Tests.{ltb-true, ltb-false}
use lib.ListN.{length, get_or, set, replicate, length-set, length-replicate, get_or-replicate, get_or-eq_default}
use lib.Seq.{get_or-set_same, get_or-set_other}
use Rattle.quantity.specs.Ranges.{in_range}
use Rattle.quantity.specs.declared.Item.TheVariants.{GroupId, StreamId}
use Rattle.quantity.proofs.Ranges.{at_most}
use Rattle.records.specs.declared.Group.{Group}
use Rattle.records.specs.declared.Stream.{Stream}
use Rattle.bridge.specs.Tables.{no_group, no_stream, fresh_bridge, group_at, stream_at, with_group, with_stream}
use Rattle.bridge.specs.declared.Bridge.{Bridge}

-- a bridge's tables have their 16 and 64 places
pub record Sized (b : Bridge) : Type 0 where
  pub groups : length b.groups ≡ 16
  pub streams : length b.streams ≡ 64

pub sized_fresh : Sized fresh_bridge
unfolding fresh_bridge
sized_fresh = record { groups = length-replicate 16 no_group; streams = length-replicate 64 no_stream }

pub sized_group : (b : Bridge) (i : ℕ) (g : Group) → Sized b → Sized (with_group b i g)
unfolding with_group
sized_group b i g z = record { groups = simp length-set z.groups; streams = z.streams }

pub sized_stream : (b : Bridge) (i : ℕ) (s : Stream) → Sized b → Sized (with_stream b i s)
unfolding with_stream
sized_stream b i s z = record { groups = z.groups; streams = simp length-set z.streams }

-- a table is not touched by a store in the other
pub streams_stay : (b : Bridge) (i : ℕ) (g : Group) (j : ℕ) → stream_at (with_group b i g) j ≡ stream_at b j
unfolding stream_at with_group
streams_stay b i g j = refl

pub groups_stay : (b : Bridge) (i : ℕ) (s : Stream) (j : ℕ) → group_at (with_stream b i s) j ≡ group_at b j
unfolding group_at with_stream
groups_stay b i s j = refl

module _ (b : Bridge) (z : Sized b) (i : ℕ) where
  module _ (h : in_range StreamId i ≡ true) (s : Stream) (j : ℕ) where
    pub stream_case : (Q : Stream → Type 0) → (i ≡ j → Q s) → ((i ≡ j → ⊥) → Q (stream_at b j)) → Q (stream_at (with_stream b i s) j)
    unfolding stream_at with_stream
    stream_case Q own rest = go (ℕ_discrete i j)
      where
        go : Dec (i ≡ j) → Q (get_or (set b.streams i s) j no_stream)
        go (yes p) = rw (← p) (rw (get_or-set_same b.streams i s no_stream (omega (arith, z.streams, at_most StreamId i h))) (own p))
        go (no d) = rw (get_or-set_other b.streams i j s no_stream (λ e. d (sym e))) (rest d)

  module _ (h : in_range GroupId i ≡ true) (g : Group) (j : ℕ) where
    pub group_case : (Q : Group → Type 0) → (i ≡ j → Q g) → ((i ≡ j → ⊥) → Q (group_at b j)) → Q (group_at (with_group b i g) j)
    unfolding group_at with_group
    group_case Q own rest = go (ℕ_discrete i j)
      where
        go : Dec (i ≡ j) → Q (get_or (set b.groups i g) j no_group)
        go (yes p) = rw (← p) (rw (get_or-set_same b.groups i g no_group (omega (arith, z.groups, at_most GroupId i h))) (own p))
        go (no d) = rw (get_or-set_other b.groups i j g no_group (λ e. d (sym e))) (rest d)

-- a fresh bridge has nothing but empty records
stands : {A : Type 0} (n i : ℕ) (a : A) → get_or (replicate n a) i a ≡ a
stands n i a = go (ltb i n) refl
  where
    go : (t : Bool) → ltb i n ≡ t → get_or (replicate n a) i a ≡ a
    go true e = get_or-replicate n i a a (ltb-true i n e)
    go false e = get_or-eq_default (replicate n a) a (omega (arith, length-replicate n a, ltb-false i n e))

pub fresh_group_law : (i : ℕ) → group_at fresh_bridge i ≡ no_group
unfolding group_at fresh_bridge
fresh_group_law i = stands 16 i no_group

pub fresh_stream_law : (i : ℕ) → stream_at fresh_bridge i ≡ no_stream
unfolding stream_at fresh_bridge
fresh_stream_law i = stands 64 i no_stream
