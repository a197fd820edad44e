-- Document 01, 'Waiting and picking': what putting an entry into a class and taking one out leave in the arrays, for every argument.
-- w is the waiting places, fs their fills; c a class, k a place in it, e an entry; l is a list of numbers.
use Rattle.std.specs.Prelude.{ℕ, zero, suc, ◌+◌, ◌*◌, ◌-◌, Bool, true, false, cond, ◌&&◌, List, Option, Some, None, ltb, get_or, set}
use Rattle.quantity.specs.Ranges.{in_range}
use Rattle.quantity.specs.declared.Item.TheVariants.{Class}
use Rattle.places.specs.declared.Waiting.{Waiting}
use Rattle.places.specs.declared.Entry.{Entry}
use Rattle.places.specs.Queue.{places, count_of, entry_at}

-- ---- putting an entry in
-- w with the entry e at the first free place of class c
unfoldable pub with_last : Waiting → ℕ → Entry → Waiting
with_last w c e = record {
  times = set w.times (c * places + get_or w.fills c 0) e.time.0;
  handles = set w.handles (c * places + get_or w.fills c 0) e.handle;
  bits = set w.bits (c * places + get_or w.fills c 0) e.bits.0;
  fills = set w.fills c (get_or w.fills c 0 + 1);
}

-- a place of class c is free
unfoldable pub has_room : List ℕ → ℕ → Bool
has_room fs c = ltb (get_or fs c 0) places

-- whether an entry was put into its class, and the places after it
pub record AfterPut : Type 0 where
  pub placed : Bool
  pub waiting : Waiting

-- put last, where there is such a class and it has room; else nothing changes
unfoldable pub put_gives : Waiting → ℕ → Entry → AfterPut
put_gives w c e =
    cond (in_range Class c && has_room w.fills c)
    (record { placed = true; waiting = with_last w c e })
    (record { placed = false; waiting = w })

-- ---- taking an entry out
-- n numbers move one place down, to the places from i on
unfoldable pub moved : List ℕ → ℕ → ℕ → List ℕ
moved l i zero = l
moved l i (suc n) = moved (set l i (get_or l (i + 1) 0)) (i + 1) n

-- the gap at a place closed: what stands after it and before the end moves one place down, and the last one stays where it was, too
unfoldable pub closed : List ℕ → ℕ → ℕ → List ℕ
closed l at end = moved l at (end - (at + 1))

-- w without the entry at place k of class c
unfoldable pub without : Waiting → ℕ → ℕ → Waiting
without w c k = record {
  times = closed w.times (c * places + k) (c * places + get_or w.fills c 0);
  handles = closed w.handles (c * places + k) (c * places + get_or w.fills c 0);
  bits = closed w.bits (c * places + k) (c * places + get_or w.fills c 0);
  fills = set w.fills c (get_or w.fills c 0 - 1);
}

-- the entry that left, where there was one, and the places after it
pub record AfterTake : Type 0 where
  pub left : Option Entry
  pub waiting : Waiting

-- the entry at place k of class c leaves, where there is one; else nothing changes
unfoldable pub take_gives : Waiting → ℕ → ℕ → AfterTake
take_gives w c k =
    cond (ltb k (count_of w.fills c))
    (record { left = Some (entry_at w (c * places + k)); waiting = without w c k })
    (record { left = None; waiting = w })
