-- Laws of putting and taking out: one for each way out of a call. Assumes nothing.
use mathlib.Core.Path.{◌≡◌, refl}
use mathlib.Core.Bool.{true, false}
use mathlib.Core.List.{List}
use Prim.Native.Nat.{ℕ, ◌+◌, ◌*◌, ◌-◌, ◌≤◌, ◌<◌}
use native.Mathlib.Omega.{arith}
use lib.ListN.{get_or, set}
use borrow.Author.Tests.{lt-ltb, le-ltb}
use Rattle.quantity.specs.declared.Item.TheVariants.{Class}
use Rattle.quantity.proofs.Ranges.{within, too_high}
use Rattle.places.specs.declared.Waiting.{Waiting}
use Rattle.places.specs.declared.Entry.{Entry}
use Rattle.std.specs.Prelude.{Some, None}
use Rattle.places.specs.Queue.{places, lists, count_of, entry_at}
use Rattle.places.specs.Places.{with_last, has_room, put_gives, closed, without, take_gives}
use Rattle.places.proofs.Counts.{none_beyond, none_overfull, count_is}

-- ---- putting
module _ (w : Waiting) (c : ℕ) (e : Entry) where
  pub put_nowhere : 7 < c → record { placed = false; waiting = w } ≡ put_gives w c e
  unfolding put_gives
  put_nowhere x = rw (too_high Class c x) refl

  module _ (x : c ≤ 7) where
    pub put_full : places ≤ get_or w.fills c 0 → record { placed = false; waiting = w } ≡ put_gives w c e
    unfolding put_gives has_room
    put_full y = rw (within Class c (omega arith) x, le-ltb (get_or w.fills c 0) places y) refl

    pub put_done : get_or w.fills c 0 < places → record { placed = true; waiting = with_last w c e } ≡ put_gives w c e
    unfolding put_gives has_room
    put_done y = rw (within Class c (omega arith) x, lt-ltb (get_or w.fills c 0) places y) refl

-- ---- taking out
module _ (w : Waiting) (c k : ℕ) where
  none : count_of w.fills c ≤ k → record { left = None; waiting = w } ≡ take_gives w c k
  unfolding take_gives
  none h = rw (le-ltb k (count_of w.fills c) h) refl

  pub take_nowhere : 7 < c → record { left = None; waiting = w } ≡ take_gives w c k
  take_nowhere x = none (let z = none_beyond w.fills c x in omega arith)

  module _ (x : c ≤ 7) where
    pub take_overfull : places < get_or w.fills c 0 → record { left = None; waiting = w } ≡ take_gives w c k
    take_overfull y = none (let z = none_overfull w.fills c x y in omega arith)

    module _ (y : get_or w.fills c 0 ≤ places) where
      pub take_none : get_or w.fills c 0 ≤ k → record { left = None; waiting = w } ≡ take_gives w c k
      take_none h = none (let z = count_is w.fills c x y in omega arith)

      abbrev at : ℕ
      at = c * places + k

      abbrev end : ℕ
      end = c * places + get_or w.fills c 0

      pub take_done : (e : Entry) (ts hs bs : List ℕ) → k < get_or w.fills c 0 → e ≡ entry_at w at
          → ts ≡ closed w.times at end → hs ≡ closed w.handles at end → bs ≡ closed w.bits at end
          → record { left = Some e; waiting = lists ts hs bs (set w.fills c (get_or w.fills c 0 - 1)) } ≡ take_gives w c k
      unfolding take_gives without
      take_done e ts hs bs l q t h b =
          let z = count_is w.fills c x y in
          let g : k < count_of w.fills c = omega arith in
          rw (q, t, h, b, lt-ltb k (count_of w.fills c) g) refl
