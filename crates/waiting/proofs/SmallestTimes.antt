-- Laws of the smallest waiting time, class by class. Assumes nothing.
use mathlib.Core.Path.{◌≡◌, refl, sym, ap, ◌∙◌}
use mathlib.Core.Bool.{Bool, true, false}
use mathlib.Core.List.{List, [], ◌∷◌, ◌++◌}
use Prim.Native.Nat.{ℕ, zero, suc, ◌<◌, min}
use native.Mathlib.Omega.{arith}
use lib.Dec.{ltb, leb}
use borrow.Author.Tests.{ltb-true, ltb-false, leb-true, leb-false}
use Rattle.quantity.specs.Kinds.{ticks}
use Rattle.quantity.specs.declared.Ticks.{Ticks}
use Rattle.places.specs.declared.Waiting.{Waiting}
use Rattle.places.specs.declared.Entry.{Entry}
use Rattle.firsts.specs.declared.First.{First}
use Rattle.std.specs.Prelude.{Option, Some, None}
use Rattle.places.specs.Queue.{queue}
use Rattle.waiting.specs.Rules.{Each, none, NotBefore}
use Rattle.firsts.specs.Firsts.{first_of, smaller, smallest_below}
use Rattle.waiting.proofs.Lines.{none_before, each_more}
use Rattle.waiting.proofs.Choosing.{leads_class, empty_class}

-- a fact of every class below j, and of class j
pub up_to : (P : ℕ → Type 0) (j : ℕ) → ((d : ℕ) → d < j → P d) → P j → (d : ℕ) → d < suc j → P d
up_to P j lower here d l = go (ltb d j) refl where
  go : (t : Bool) → ltb d j ≡ t → P d
  go true q = lower d (ltb-true d j q)
  go false q = let z = ltb-false d j q in let y : d ≡ j = omega arith in rw y here

-- t is the smallest time of the classes below n
pub record Least (w : Waiting) (n t : ℕ) : Type 0 where
  pub class : ℕ
  pub ahead : List Entry
  pub entry : Entry
  pub behind : List Entry
  pub waits : queue w class ≡ ahead ++ (entry ∷ behind)
  pub has : entry.time.0 ≡ t
  pub smallest : (d : ℕ) → d < n → Each (NotBefore t) (queue w d)

module _ (w : Waiting) where
  pub nothing_below : (n : ℕ) → smallest_below w.times w.fills n ≡ None → (d : ℕ) → d < n → queue w d ≡ []
  unfolding smallest_below smaller
  nothing_below zero h d l = absurd (omega arith)
  nothing_below (suc j) h d l = go (nothing_below j) (smallest_below w.times w.fills j) (first_of w.times w.fills j) refl refl where
    go : (smallest_below w.times w.fills j ≡ None → (i : ℕ) → i < j → queue w i ≡ []) → (s : Option Ticks) (o : Option First)
        → smallest_below w.times w.fills j ≡ s → first_of w.times w.fills j ≡ o → queue w d ≡ []
    go lower None None p q = up_to (λ (i : ℕ). queue w i ≡ []) j (lower p) (empty_class w j q) d l
    go lower None (Some f) p q = let g : Some f.time ≡ None = rw (p, q) at h in absurd (cc)
    go lower (Some s) None p q = let g : Some s ≡ None = rw (p, q) at h in absurd (cc)
    go lower (Some s) (Some f) p q = let g : Some (ticks (min s.0 f.time.0)) ≡ None = rw (p, q) at h in absurd (cc)

  -- class j's smallest time is that of all below suc j
  here : (j : ℕ) (f : First) → first_of w.times w.fills j ≡ Some f → ((d : ℕ) → d < j → Each (NotBefore f.time.0) (queue w d)) → Least w (suc j) f.time.0
  here j f e lower =
      let l = leads_class w j f e in
      record {
        class = j;
        ahead = l.ahead;
        entry = l.entry;
        behind = l.behind;
        waits = l.is;
        has = l.time;
        smallest = up_to (λ (i : ℕ). Each (NotBefore f.time.0) (queue w i)) j lower (none_before l);
      }

  -- that of the classes below j is
  kept : (j t : ℕ) → Least w j t → Each (NotBefore t) (queue w j) → Least w (suc j) t
  kept j t l own = record {
    class = l.class;
    ahead = l.ahead;
    entry = l.entry;
    behind = l.behind;
    waits = l.waits;
    has = l.has;
    smallest = up_to (λ (i : ℕ). Each (NotBefore t) (queue w i)) j l.smallest own;
  }

  pub smallest_below_law : (n : ℕ) (t : Ticks) → smallest_below w.times w.fills n ≡ Some t → Least w n t.0
  unfolding smallest_below smaller
  smallest_below_law zero t h = absurd (cc)
  smallest_below_law (suc j) t h = go (smallest_below_law j) (smallest_below w.times w.fills j) (first_of w.times w.fills j) refl refl where
    go : ((x : Ticks) → smallest_below w.times w.fills j ≡ Some x → Least w j x.0) → (s : Option Ticks) (o : Option First)
        → smallest_below w.times w.fills j ≡ s → first_of w.times w.fills j ≡ o → Least w (suc j) t.0
    go lower None None p q = let g : None ≡ Some t = rw (p, q) at h in absurd (cc)
    go lower None (Some f) p q =
        let g : Some f.time ≡ Some t = rw (p, q) at h in
        let z : f.time ≡ t = cc in
        rw (sym z) (here j f q (λ d l. rw (nothing_below j p d l) none))
    go lower (Some s) None p q =
        let g : Some s ≡ Some t = rw (p, q) at h in
        let z : s ≡ t = cc in
        kept j t.0 (lower t (p ∙ ap Some z)) (rw (empty_class w j q) none)
    go lower (Some s) (Some f) p q =
        let g : Some (ticks (min s.0 f.time.0)) ≡ Some t = rw (p, q) at h in
        let z : ticks (min s.0 f.time.0) ≡ t = cc in
        let y : min s.0 f.time.0 ≡ t.0 = ap (λ (x : Ticks). x.0) z in
        go' y (leb s.0 f.time.0) refl where
          go' : min s.0 f.time.0 ≡ t.0 → (b : Bool) → leb s.0 f.time.0 ≡ b → Least w (suc j) t.0
          go' y true b =
              let l = leb-true s.0 f.time.0 b in
              let x : s.0 ≡ t.0 = omega arith in
              rw (sym x) (kept j s.0 (lower s p) (each_more (λ i n. omega arith) (none_before (leads_class w j f q))))
          go' y false b =
              let l = leb-false s.0 f.time.0 b in
              let x : f.time.0 ≡ t.0 = omega arith in
              rw (sym x) (here j f q (λ d n. each_more (λ i o. omega arith) ((lower s p).smallest d n)))
