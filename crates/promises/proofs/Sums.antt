-- Laws of the bits of a stream within a span. Assumes nothing.
use mathlib.Core.Path.{◌≡◌, refl}
use mathlib.Core.Bool.{Bool, true, false, ◌&&◌, cond}
use mathlib.Core.List.{List, [], ◌∷◌}
use Prim.Native.Nat.{ℕ, ◌+◌, ◌≤◌}
use native.Mathlib.Nat.{le_refl}
use native.Mathlib.Omega.{arith}
use lib.Dec.{leb, eqb}
use borrow.Author.Tests.{leb-true, eqb-true, eq-eqb, ne_eqb, le-leb}
use Rattle.bridge.specs.Spans.{Sent, bits_in}

-- one more entry: it counts, or it does not
pub data Seen (j lo hi : ℕ) (e : Sent) (n m : ℕ) : Type 0 where
  counted : e.stream ≡ j → lo ≤ e.tick → e.tick ≤ hi → n ≡ e.bits + m → Seen j lo hi e n m
  passed : n ≡ m → Seen j lo hi e n m

pub seen : (j lo hi : ℕ) (e : Sent) (es : List Sent) → Seen j lo hi e (bits_in j lo hi (e ∷ es)) (bits_in j lo hi es)
unfolding bits_in
seen j lo hi e es = go (eqb e.stream j) (leb lo e.tick) (leb e.tick hi) refl refl refl
  where
    m : ℕ
    m = bits_in j lo hi es

    go : (x y z : Bool) → eqb e.stream j ≡ x → leb lo e.tick ≡ y → leb e.tick hi ≡ z → Seen j lo hi e (cond (x && y && z) e.bits 0 + m) m
    go true true true p q r = counted (eqb-true _ _ p) (leb-true _ _ q) (leb-true _ _ r) refl
    go true true false p q r = passed (omega arith)
    go true false z p q r = passed (omega arith)
    go false y z p q r = passed (omega arith)

module _ (j lo hi : ℕ) (e : Sent) (es : List Sent) where
  pub bits_hit : e.stream ≡ j → lo ≤ e.tick → e.tick ≤ hi → bits_in j lo hi (e ∷ es) ≡ e.bits + bits_in j lo hi es
  unfolding bits_in
  bits_hit p q r = rw (eq-eqb _ _ p, le-leb _ _ q, le-leb _ _ r)

  pub bits_other : (e.stream ≡ j → ⊥) → bits_in j lo hi (e ∷ es) ≡ bits_in j lo hi es
  unfolding bits_in
  bits_other p = rw (ne_eqb _ _ p) (omega arith)

  pub bits_tail : bits_in j lo hi es ≤ bits_in j lo hi (e ∷ es)
  unfolding bits_in
  bits_tail = omega arith

-- a later start counts no more
pub bits_later : (j lo lo' hi : ℕ) (es : List Sent) → lo ≤ lo' → bits_in j lo' hi es ≤ bits_in j lo hi es
unfolding bits_in
bits_later j lo lo' hi [] h = le_refl _
bits_later j lo lo' hi (e ∷ es) h = go (seen j lo' hi e es) (bits_later j lo lo' hi es h)
  where
    go : Seen j lo' hi e (bits_in j lo' hi (e ∷ es)) (bits_in j lo' hi es) → bits_in j lo' hi es ≤ bits_in j lo hi es → bits_in j lo' hi (e ∷ es) ≤ bits_in j lo hi (e ∷ es)
    go (counted p q r n) ih = omega (arith, bits_hit j lo hi e es p (omega arith) r)
    go (passed n) ih = omega (arith, bits_tail j lo hi e es)
