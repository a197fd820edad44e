-- Laws of what the calls make of a record: each is the return of its code. Assumes nothing.
use mathlib.Core.Path.{◌≡◌}
use mathlib.Core.Bool.{true, false}
use Prim.Native.Nat.{ℕ}
use Rattle.quantity.specs.Ranges.{in_range}
use Rattle.quantity.specs.declared.Item.TheVariants.{GroupId, StreamId}
use Rattle.quantity.specs.declared.Refusal.TheVariants.{IdRange, SetUpBefore, NoStream}
use Rattle.records.specs.Numbers.{is_set_up}
use Rattle.setup.specs.SetUp.{group_set_up, stream_set_up}
use Rattle.records.specs.declared.Group.{Group}
use Rattle.records.specs.declared.Stream.{Stream}
use Rattle.shaper.specs.Numbers.{judged, refused}
use Rattle.calls.specs.Calls.{taken, group_placed, stream_placed, judged_at}
use Rattle.std.proofs.Common.{Err}

-- ---- the returns of the calls on one record
module _ (i : ℕ) (g : Group) (c M : ℕ) where
  pub group_id_out : in_range GroupId i ≡ false → group_placed i g c M ≡ record { answer = Err IdRange; after = g }
  unfolding group_placed
  group_id_out e = simp e

  module _ (h : in_range GroupId i ≡ true) where
    pub group_before : g.used ≡ true → group_placed i g c M ≡ record { answer = Err SetUpBefore; after = g }
    unfolding group_placed
    group_before e = simp (h, e)

    pub group_taken_law : g.used ≡ false → group_placed i g c M ≡ taken g (group_set_up c M)
    unfolding group_placed
    group_taken_law e = simp (h, e)

module _ (i : ℕ) (s : Stream) (k : ℕ) (g : Group) (r u : ℕ) where
  pub stream_id_out : in_range StreamId i ≡ false → stream_placed i s k g r u ≡ record { answer = Err IdRange; after = s }
  unfolding stream_placed
  stream_id_out e = simp e

  module _ (h : in_range StreamId i ≡ true) where
    pub stream_before : is_set_up s.regulator ≡ true → stream_placed i s k g r u ≡ record { answer = Err SetUpBefore; after = s }
    unfolding stream_placed
    stream_before e = simp (h, e)

    pub stream_taken_law : is_set_up s.regulator ≡ false → stream_placed i s k g r u ≡ taken s (stream_set_up k g r u)
    unfolding stream_placed
    stream_taken_law e = simp (h, e)

module _ (i : ℕ) (s : Stream) (g : Group) (n A : ℕ) where
  pub frame_id_out : in_range StreamId i ≡ false → judged_at i s g n A ≡ refused s g NoStream
  unfolding judged_at
  frame_id_out e = simp e

  pub frame_id_in : in_range StreamId i ≡ true → judged_at i s g n A ≡ judged s g n A
  unfolding judged_at
  frame_id_in e = simp e
