-- Laws of the reader's order: how many bytes are left, then the mark. Assumes nothing.
use mathlib.Core.Path.{◌≡◌, refl}
use mathlib.Core.List.{List, [], ◌∷◌}
use mathlib.Core.Bool.{true, false}
use mathlib.Core.Option.{none, some}
use Prim.Native.Nat.{ℕ, suc, ◌+◌, ◌-◌, ◌≤◌}
use native.Mathlib.Numerals.{add-one, add-two}
use native.Mathlib.Omega.{arith}
use borrow.Author.Tests.{eqb-true}
use lib.Dec.{eqb}
use lib.ListN.{length, get_or, drop, drop_of_length-le}
use lib.Seq.{drop-cons}
use Rattle.quantity.specs.declared.Refusal.TheVariants.{UnknownMark, CutShort}
use Rattle.quantity.proofs.Booleans.{both}
use Rattle.tablefile.specs.Layout.{Kind, GR, GD, ST, FR, kinds, mark}
use Rattle.tablefile.specs.declared.Reading.TheVariants.{NothingLeft, Refused}
use Rattle.reader.specs.Reader.{is_mark, marked_among, read_fields, read_marked, read_left, read_at}

-- the marks differ, so a mark is found as its own kind
known : (k : Kind) → marked_among kinds (get_or (mark k) 0 0) (get_or (mark k) 1 0) ≡ some k
unfolding kinds marked_among is_mark
known GR = refl
known GD = refl
known ST = refl
known FR = refl

pub marked_as : (k : Kind) (a b : ℕ) → is_mark (mark k) a b ≡ true → marked_among kinds a b ≡ some k
unfolding is_mark
marked_as k a b e =
    let m = mark k in
    let t = both (eqb a (get_or m 0 0)) (eqb b (get_or m 1 0)) e in
    rw (eqb-true a (get_or m 0 0) t.0, eqb-true b (get_or m 1 0) t.1) (known k)

pub not_marked : (ks : List Kind) (a b : ℕ) → ((k : Kind) → is_mark (mark k) a b ≡ false) → marked_among ks a b ≡ none
unfolding marked_among
not_marked [] a b h = refl
not_marked (k ∷ ks) a b h = rw (h k) (not_marked ks a b h)

module _ (l : List ℕ) (p : ℕ) where
  pub none_left : length l ≤ p → NothingLeft ≡ read_at l p
  unfolding read_at read_left
  none_left h = rw (drop_of_length-le l h)

  pub one_left : length l - p ≡ 1 → Refused CutShort ≡ read_at l p
  unfolding read_at read_left
  one_left h = rw (drop-cons l p 0 (omega arith), drop_of_length-le l {i = suc p} (omega arith))

  module _ (h : p + 2 ≤ length l) where
    two_left : drop p l ≡ get_or l p 0 ∷ get_or l (p + 1) 0 ∷ drop (p + 2) l
    two_left = rw (add-one p, add-two p, drop-cons l p 0 (omega arith), drop-cons l (suc p) 0 (omega arith))

    pub marked : (k : Kind) → is_mark (mark k) (get_or l p 0) (get_or l (p + 1) 0) ≡ true → read_fields k (drop (p + 2) l) p ≡ read_at l p
    unfolding read_at read_left read_marked
    marked k e = rw (two_left, marked_as k _ _ e)

    pub unknown : ((k : Kind) → is_mark (mark k) (get_or l p 0) (get_or l (p + 1) 0) ≡ false) → Refused UnknownMark ≡ read_at l p
    unfolding read_at read_left read_marked
    unknown e = rw (two_left, not_marked kinds _ _ e)
