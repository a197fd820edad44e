-- Laws of the choice: which class is due, what that says of its entries and of the higher classes, and the smallest time. Assumes nothing.
use mathlib.Core.Path.{◌≡◌, refl, sym, ap, ◌∙◌}
use mathlib.Core.Bool.{Bool, true, false}
use mathlib.Core.List.{List, []}
use Prim.Native.Nat.{ℕ, zero, suc, ◌≤◌, ◌<◌}
use native.Mathlib.Omega.{arith}
use lib.Dec.{ltb, leb}
use borrow.Author.Tests.{leb-true, leb-false, ltb-true, ltb-false}
use Rattle.std.specs.Prelude.{Option, Some, None}
use Rattle.places.specs.declared.Waiting.{Waiting}
use Rattle.firsts.specs.declared.First.{First}
use Rattle.classes.specs.declared.Due.{Due}
use Rattle.places.specs.Queue.{classes, queue}
use Rattle.waiting.specs.Rules.{Each, none, After}
use Rattle.firsts.specs.Firsts.{first_in, first_of}
use Rattle.classes.specs.Calls.{due_or, due_below}
use Rattle.waiting.proofs.Lines.{times_of, Leads, leads, no_one, none_before, each_more}
use Rattle.waiting.proofs.Standing.{queue_times, queue_beyond}

-- ---- what the search through the classes finds
-- the entry that goes first, if there is one, is after m
abbrev pub NotYet : ℕ → Option First → Type 0
NotYet m o = (f : First) → o ≡ Some f → m < f.time.0

pub record Chosen (ts fs : List ℕ) (m n : ℕ) (d : Due) : Type 0 where
  pub below : d.class < n
  pub entry : First
  pub first : first_of ts fs d.class ≡ Some entry
  pub place : entry.place ≡ d.place
  pub early : entry.time.0 ≤ m
  pub higher : (c : ℕ) → d.class < c → c < n → NotYet m (first_of ts fs c)

module _ (ts fs : List ℕ) (m : ℕ) where
  not_below : (j c : ℕ) → ((d : ℕ) → c < d → d < j → NotYet m (first_of ts fs d)) → NotYet m (first_of ts fs j) → (d : ℕ) → c < d → d < suc j → NotYet m (first_of ts fs d)
  not_below j c lower here d a b = go (ltb d j) refl where
    go : (t : Bool) → ltb d j ≡ t → NotYet m (first_of ts fs d)
    go true q = lower d a (ltb-true d j q)
    go false q = let z = ltb-false d j q in let y : d ≡ j = omega arith in rw y here

  pub chosen : (n : ℕ) (d : Due) → due_below ts fs m n ≡ Some d → Chosen ts fs m n d
  unfolding due_below due_or
  chosen zero d h = absurd (cc)
  chosen (suc j) d h = go (chosen j d) (first_of ts fs j) refl where
    widen : NotYet m (first_of ts fs j) → Chosen ts fs m j d → Chosen ts fs m (suc j) d
    widen here x = let b = x.below in record {
      below = omega arith;
      entry = x.entry;
      first = x.first;
      place = x.place;
      early = x.early;
      higher = not_below j d.class x.higher here;
    }

    go : (due_below ts fs m j ≡ Some d → Chosen ts fs m j d) → (o : Option First) → first_of ts fs j ≡ o → Chosen ts fs m (suc j) d
    go lower None e = widen (λ f q. absurd (cc)) (lower (rw e at h))
    go lower (Some f) e = go' (leb f.time.0 m) refl where
      go' : (b : Bool) → leb f.time.0 m ≡ b → Chosen ts fs m (suc j) d
      go' true q =
          let g : Some (record { class = j; place = f.place }) ≡ Some d = rw (e, q) at h in
          let v : record { class = j; place = f.place } ≡ d = cc in
          let u : j ≡ d.class = ap (λ (x : Due). x.class) v in
          record {
            below = omega arith;
            entry = f;
            first = ap (first_of ts fs) (sym u) ∙ e;
            place = ap (λ (x : Due). x.place) v;
            early = leb-true f.time.0 m q;
            higher = λ c a b. absurd (omega arith);
          }
      go' false q =
          let l = leb-false f.time.0 m q in
          widen (λ x p. let z : f ≡ x = cc in rw z at l) (lower (rw (e, q) at h))

  pub none_chosen : (n : ℕ) → due_below ts fs m n ≡ None → (d : ℕ) → d < n → NotYet m (first_of ts fs d)
  unfolding due_below due_or
  none_chosen zero h d l = absurd (omega arith)
  none_chosen (suc j) h d l = go (none_chosen j) (first_of ts fs j) refl where
    join : NotYet m (first_of ts fs j) → ((i : ℕ) → i < j → NotYet m (first_of ts fs i)) → NotYet m (first_of ts fs d)
    join here lower = go'' (ltb d j) refl where
      go'' : (t : Bool) → ltb d j ≡ t → NotYet m (first_of ts fs d)
      go'' true q = lower d (ltb-true d j q)
      go'' false q = let z = ltb-false d j q in let y : d ≡ j = omega arith in rw y here

    go : (due_below ts fs m j ≡ None → (i : ℕ) → i < j → NotYet m (first_of ts fs i)) → (o : Option First) → first_of ts fs j ≡ o → NotYet m (first_of ts fs d)
    go lower None e = join (λ f q. absurd (cc)) (lower (rw e at h))
    go lower (Some f) e = go' (leb f.time.0 m) refl where
      go' : (b : Bool) → leb f.time.0 m ≡ b → NotYet m (first_of ts fs d)
      go' true q = let g : ◌≡◌ {A = Option Due} (Some (record { class = j; place = f.place })) None = rw (e, q) at h in absurd (cc)
      go' false q = let x = leb-false f.time.0 m q in join (λ y p. let z : f ≡ y = cc in rw z at x) (lower (rw (e, q) at h))

-- ---- what that says of the entries
module _ (w : Waiting) (c : ℕ) where
  pub first_in_law : first_of w.times w.fills c ≡ first_in (times_of (queue w c))
  unfolding first_of
  first_in_law = ap first_in (sym (queue_times w c))

  pub leads_class : (f : First) → first_of w.times w.fills c ≡ Some f → Leads (queue w c) f.place f.time.0
  leads_class f e = leads (queue w c) f (sym first_in_law ∙ e)

  pub empty_class : first_of w.times w.fills c ≡ None → queue w c ≡ []
  empty_class e = no_one (queue w c) (sym first_in_law ∙ e)

  pub all_after : (m : ℕ) → NotYet m (first_of w.times w.fills c) → Each (After m) (queue w c)
  all_after m n = go (first_of w.times w.fills c) refl where
    go : (o : Option First) → first_of w.times w.fills c ≡ o → Each (After m) (queue w c)
    go None e = rw (empty_class e) none
    go (Some f) e = let l = n f e in each_more (λ x y. omega arith) (none_before (leads_class f e))

-- from the last class on there is no entry
pub all_classes_after : (w : Waiting) (m c : ℕ) → ((d : ℕ) → c ≤ d → d < classes → Each (After m) (queue w d)) → (d : ℕ) → c ≤ d → Each (After m) (queue w d)
all_classes_after w m c h d l = go (ltb d classes) refl where
  go : (t : Bool) → ltb d classes ≡ t → Each (After m) (queue w d)
  go true q = h d l (ltb-true d classes q)
  go false q = let z = ltb-false d classes q in rw (queue_beyond w d (omega arith)) none
