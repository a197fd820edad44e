-- Laws of lists of entries: what holds of each, and which one goes first. Assumes nothing.
use mathlib.Core.Path.{◌≡◌, refl, sym, ap, ap₂, ◌∙◌}
use mathlib.Core.Bool.{Bool, true, false}
use mathlib.Core.List.{List, [], ◌∷◌, ◌++◌, map, append-nil, append_assoc}
use Prim.Native.Nat.{ℕ, ◌+◌, ◌≤◌, ◌<◌}
use native.Mathlib.Omega.{arith}
use lib.Dec.{ltb}
use lib.ListN.{length, length-append}
use borrow.Author.Tests.{ltb-true, ltb-false}
use Rattle.std.specs.Prelude.{Some, None}
use Rattle.places.specs.declared.Entry.{Entry}
use Rattle.firsts.specs.declared.First.{First}
use Rattle.waiting.specs.Rules.{Each, none, one, After, NotBefore}
use Rattle.firsts.specs.Firsts.{first_from, first_in}

-- ---- each
pub each_more : {P Q : Entry → Type 0} {q : List Entry} → ((e : Entry) → P e → Q e) → Each P q → Each Q q
each_more f none = none
each_more f (one p r) = one (f _ p) (each_more f r)

pub each_join : {P : Entry → Type 0} {q r : List Entry} → Each P q → Each P r → Each P (q ++ r)
each_join none s = s
each_join (one p t) s = one p (each_join t s)

pub each_split : {P : Entry → Type 0} (q r : List Entry) → Each P (q ++ r) → Each P q × Each P r
each_split [] r s = (none, s)
each_split (e ∷ q) r (one p s) = let z = each_split q r s in (one p z.0, z.1)

pub each_head : {P : Entry → Type 0} {e : Entry} {q : List Entry} → Each P (e ∷ q) → P e × Each P q
each_head (one p s) = (p, s)

-- ---- lists with the same front
pub same_front : (a b : List Entry) (x y : Entry) (r s : List Entry) → length a ≡ length b → a ++ (x ∷ r) ≡ b ++ (y ∷ s) → (a ≡ b) × ((x ≡ y) × (r ≡ s))
same_front [] [] x y r s h e = (refl, (cc, cc))
same_front [] (b ∷ v) x y r s h e = absurd (omega arith)
same_front (a ∷ u) [] x y r s h e = absurd (omega arith)
same_front (a ∷ u) (b ∷ v) x y r s h e =
    let f : u ++ (x ∷ r) ≡ v ++ (y ∷ s) = cc in
    let g : a ≡ b = cc in
    let z = same_front u v x y r s (omega arith) f in
    (ap₂ (λ (i : Entry) (l : List Entry). i ∷ l) g z.0, z.1)

-- ---- which one goes first
abbrev pub times_of : List Entry → List ℕ
times_of q = map (λ (e : Entry). e.time.0) q

-- the entry with the time t that stands behind k others goes first
pub record Leads (q : List Entry) (k t : ℕ) : Type 0 where
  pub ahead : List Entry
  pub entry : Entry
  pub behind : List Entry
  pub is : q ≡ ahead ++ (entry ∷ behind)
  pub place : length ahead ≡ k
  pub time : entry.time.0 ≡ t
  pub first : Each (After t) ahead
  pub smallest : Each (NotBefore t) behind

grown : (q : List Entry) (z : Entry) (n : ℕ) → n ≡ length q → n + 1 ≡ length (q ++ (z ∷ []))
grown q z n h = omega (arith, length-append q (z ∷ []))

regroup : (a : List Entry) (e : Entry) (b : List Entry) (z : Entry) (r : List Entry) → (a ++ (e ∷ (b ++ (z ∷ [])))) ++ r ≡ (a ++ (e ∷ b)) ++ (z ∷ r)
regroup a e b z r = simp append_assoc

-- of those seen, the one behind a is the first; r are those to come
leads_from : (a : List Entry) (e : Entry) (b r : List Entry) (p n : ℕ) (f : First)
    → Each (After e.time.0) a → Each (NotBefore e.time.0) b → p ≡ length a → n ≡ length (a ++ (e ∷ b))
    → first_from p e.time.0 n (times_of r) ≡ f → Leads ((a ++ (e ∷ b)) ++ r) f.place f.time.0
unfolding first_from
leads_from a e b [] p n f x y i j h =
    let u : p ≡ f.place = ap (λ (g : First). g.place) h in
    let v : e.time.0 ≡ f.time.0 = ap (λ (g : First). g.time.0) h in
    record {
      ahead = a;
      entry = e;
      behind = b;
      is = append-nil (a ++ (e ∷ b));
      place = sym i ∙ u;
      time = v;
      first = rw v at x;
      smallest = rw v at y;
    }
leads_from a e b (z ∷ r) p n f x y i j h =
    go
    (λ l g.
    leads_from (a ++ (e ∷ b)) z [] r n (n + 1) f
    (each_join (each_more (λ d m. omega arith) x) (one l (each_more (λ d m. omega arith) y))) none j (grown (a ++ (e ∷ b)) z n j) g)
    (λ l g.
    leads_from a e (b ++ (z ∷ [])) r p (n + 1) f x (each_join y (one l none)) i
    (grown (a ++ (e ∷ b)) z n j ∙ ap length (append_assoc a (e ∷ b) (z ∷ []))) g)
    (ltb z.time.0 e.time.0)
    refl where
      go : (z.time.0 < e.time.0 → first_from n z.time.0 (n + 1) (times_of r) ≡ f → Leads (((a ++ (e ∷ b)) ++ (z ∷ [])) ++ r) f.place f.time.0)
          → (e.time.0 ≤ z.time.0 → first_from p e.time.0 (n + 1) (times_of r) ≡ f → Leads ((a ++ (e ∷ (b ++ (z ∷ [])))) ++ r) f.place f.time.0)
          → (s : Bool) → ltb z.time.0 e.time.0 ≡ s → Leads ((a ++ (e ∷ b)) ++ (z ∷ r)) f.place f.time.0
      go new old true q = let w = new (ltb-true z.time.0 e.time.0 q) (rw q at h) in rw (append_assoc (a ++ (e ∷ b)) (z ∷ []) r) at w
      go new old false q = let w = old (ltb-false z.time.0 e.time.0 q) (rw q at h) in rw (regroup a e b z r) at w

-- the first of the smallest times
pub leads : (q : List Entry) (f : First) → first_in (times_of q) ≡ Some f → Leads q f.place f.time.0
unfolding first_in
leads [] f h = absurd (cc)
leads (e ∷ q) f h = leads_from [] e [] q 0 1 f none none refl refl (cc)

pub no_one : (q : List Entry) → first_in (times_of q) ≡ None → q ≡ []
unfolding first_in
no_one [] h = refl
no_one (e ∷ q) h = absurd (cc)

-- none of them is before what goes first
pub none_before : {q : List Entry} {k t : ℕ} → Leads q k t → Each (NotBefore t) q
none_before {q} {k} {t} l =
    let i = l.is in
    let h = l.time in
    rw i (each_join (each_more (λ d x. omega arith) l.first) (one (omega arith) l.smallest))

-- the one that goes first is one only
pub same_first : (a : List Entry) (e : Entry) (b a' : List Entry) (e' : Entry) (b' : List Entry) → a ++ (e ∷ b) ≡ a' ++ (e' ∷ b')
    → Each (After e.time.0) a → Each (NotBefore e.time.0) b → Each (After e'.time.0) a' → Each (NotBefore e'.time.0) b'
    → (a ≡ a') × ((e ≡ e') × (b ≡ b'))
same_first [] e b [] e' b' h x y x' y' = (refl, (cc, cc))
same_first [] e b (i ∷ a') e' b' h x y (one l x') y' =
    let f : e ≡ i = cc in
    let g : b ≡ a' ++ (e' ∷ b') = cc in
    let t : e.time.0 ≡ i.time.0 = ap (λ (q : Entry). q.time.0) f in
    let z = (each_head (each_split a' (e' ∷ b') (rw g at y)).1).0 in
    absurd (omega arith)
same_first (i ∷ a) e b [] e' b' h (one l x) y x' y' =
    let f : i ≡ e' = cc in
    let g : b' ≡ a ++ (e ∷ b) = cc in
    let t : i.time.0 ≡ e'.time.0 = ap (λ (q : Entry). q.time.0) f in
    let z = (each_head (each_split a (e ∷ b) (rw g at y')).1).0 in
    absurd (omega arith)
same_first (i ∷ a) e b (i' ∷ a') e' b' h (one l x) y (one l' x') y' =
    let f : i ≡ i' = cc in
    let g : a ++ (e ∷ b) ≡ a' ++ (e' ∷ b') = cc in
    let z = same_first a e b a' e' b' g x y x' y' in
    (ap₂ (λ (j : Entry) (q : List Entry). j ∷ q) f z.0, z.1)
