-- Laws of how the arrays hold the entries: what entering and taking out do to the lists of the classes. Assumes nothing.
use mathlib.Core.Path.{◌≡◌, refl, sym, ap, ap₂, ◌∙◌}
use mathlib.Core.Bool.{Bool, true, false}
use mathlib.Core.List.{List, [], ◌∷◌, ◌++◌}
use mathlib.Core.Logic.{◌⊎◌, inl, inr, ⊎_elim}
use Prim.Native.Nat.{ℕ, zero, suc, ◌+◌, ◌*◌, ◌-◌, ◌≤◌, ◌<◌}
use native.Mathlib.Omega.{arith}
use lib.Dec.{ltb}
use lib.ListN.{length, get_or, set, length-set}
use lib.Seq.{get_or-set_same, get_or-set_other}
use borrow.Author.Tests.{ltb-true, ltb-false}
use Rattle.places.specs.declared.Waiting.{Waiting}
use Rattle.places.specs.declared.Entry.{Entry}
use Rattle.places.specs.Queue.{places, count_of, entry_at, entries_from, queue, Shaped}
use Rattle.firsts.specs.Firsts.{part}
use Rattle.places.specs.Places.{with_last, without}
use Rattle.places.proofs.Counts.{count_is, count_all, none_beyond}
use Rattle.places.proofs.Gaps.{gap_length, gap_other, gap_down}
use Rattle.waiting.proofs.Lines.{times_of}

-- ---- stretches of entries
pub entries_move : (w v : Waiting) (i j n : ℕ) → ((d : ℕ) → d < n → entry_at v (i + d) ≡ entry_at w (j + d)) → entries_from v i n ≡ entries_from w j n
unfolding entries_from
entries_move w v i j zero h = refl
entries_move w v i j (suc n) h =
    let z : i + 0 ≡ i = omega arith in
    let y : j + 0 ≡ j = omega arith in
    let e : entry_at v i ≡ entry_at w j = rw (z, y) at (h 0 (omega arith)) in
    ap₂ (λ (a : Entry) (l : List Entry). a ∷ l) e (entries_move w v (i + 1) (j + 1) n (λ d l.
    let u : (i + 1) + d ≡ i + (d + 1) = omega arith in
    let x : (j + 1) + d ≡ j + (d + 1) = omega arith in
    rw (u, x) (h (d + 1) (omega arith))))

pub entries_split : (w : Waiting) (i a b : ℕ) → entries_from w i (a + b) ≡ entries_from w i a ++ entries_from w (i + a) b
unfolding entries_from
entries_split w i zero b = let z : 0 + b ≡ b = omega arith in let y : i + 0 ≡ i = omega arith in rw (z, y) refl
entries_split w i (suc a) b =
    let z : suc a + b ≡ suc (a + b) = omega arith in
    let y : (i + 1) + a ≡ i + suc a = omega arith in
    rw z (ap (λ (l : List Entry). entry_at w i ∷ l) (entries_split w (i + 1) a b ∙ rw y refl))

entries_length : (w : Waiting) (i n : ℕ) → length (entries_from w i n) ≡ n
unfolding entries_from
entries_length w i zero = refl
entries_length w i (suc n) = ap suc (entries_length w (i + 1) n)

pub queue_length : (w : Waiting) (c : ℕ) → length (queue w c) ≡ count_of w.fills c
unfolding queue
queue_length w c = entries_length w (c * places) (count_of w.fills c)

entries_times : (w : Waiting) (i n : ℕ) → times_of (entries_from w i n) ≡ part w.times i n
unfolding entries_from part entry_at
entries_times w i zero = refl
entries_times w i (suc n) = ap (λ (l : List ℕ). get_or w.times i 0 ∷ l) (entries_times w (i + 1) n)

pub queue_times : (w : Waiting) (c : ℕ) → times_of (queue w c) ≡ part w.times (c * places) (count_of w.fills c)
unfolding queue
queue_times w c = entries_times w (c * places) (count_of w.fills c)

pub queue_beyond : (w : Waiting) (c : ℕ) → 7 < c → queue w c ≡ []
unfolding queue entries_from
queue_beyond w c h = rw (sym (none_beyond w.fills c h)) refl

-- ---- a change within one class
count_other : (fs : List ℕ) (c x d : ℕ) → (d ≡ c → ⊥) → count_of (set fs c x) d ≡ count_of fs d
unfolding count_of
count_other fs c x d n = rw (get_or-set_other fs c d x 0 n) refl

pub count_set : (fs : List ℕ) (c x : ℕ) → c ≤ 7 → x ≤ places → length fs ≡ 8 → count_of (set fs c x) c ≡ x
count_set fs c x h l e =
    let z = get_or-set_same fs c x 0 (omega arith) in
    sym (sym z ∙ count_is (set fs c x) c h (omega arith))

-- two tables that differ in class c only
module _ (w v : Waiting) (c x : ℕ) (fills : v.fills ≡ set w.fills c x)
    (apart : (j : ℕ) → (j < c * places) ⊎ (c * places + places ≤ j) → entry_at v j ≡ entry_at w j) where
  pub queue_other : (d : ℕ) → (d ≡ c → ⊥) → queue v d ≡ queue w d
  unfolding queue
  queue_other d n =
      let e : count_of v.fills d ≡ count_of w.fills d = rw fills (count_other w.fills c x d n) in
      rw e (entries_move w v (d * places) (d * places) (count_of w.fills d) (λ k l.
      let y = count_all w.fills d (omega arith) in
      apart (d * places + k) (go k l y (ltb d c) (ltb c d) refl refl))) where
        go : (k : ℕ) → k < count_of w.fills d → (count_of w.fills d ≡ get_or w.fills d 0) × ((d ≤ 7) × (get_or w.fills d 0 ≤ places))
            → (t u : Bool) → ltb d c ≡ t → ltb c d ≡ u → (d * places + k < c * places) ⊎ (c * places + places ≤ d * places + k)
        go k l y true u t f = let z = ltb-true d c t in let a = y.0 in let b = y.1.1 in inl (omega arith)
        go k l y false true t f = let z = ltb-true c d f in inr (omega arith)
        go k l y false false t f = let z = ltb-false d c t in let a = ltb-false c d f in absurd (n (omega arith))

-- ---- entering
module _ (w : Waiting) (c : ℕ) (e : Entry) (s : Shaped w) (h : c ≤ 7) (room : get_or w.fills c 0 < places) where
  abbrev at : ℕ
  at = c * places + get_or w.fills c 0

  elsewhere : (k : ℕ) → (k ≡ at → ⊥) → entry_at (with_last w c e) k ≡ entry_at w k
  unfolding entry_at with_last
  elsewhere k n = rw (get_or-set_other w.times at k e.time.0 0 n, get_or-set_other w.handles at k e.handle 0 n, get_or-set_other w.bits at k e.bits.0 0 n) refl

  new : entry_at (with_last w c e) at ≡ e
  unfolding entry_at with_last
  new =
      let a = s.times in
      let b = s.handles in
      let d = s.bits in
      rw (get_or-set_same w.times at e.time.0 0 (omega arith), get_or-set_same w.handles at e.handle 0 (omega arith), get_or-set_same w.bits at e.bits.0 0 (omega arith)) refl

  filled : count_of (with_last w c e).fills c ≡ count_of w.fills c + 1
  unfolding with_last
  filled = count_set w.fills c (get_or w.fills c 0 + 1) h (omega arith) s.fills ∙ ap (λ (n : ℕ). n + 1) (count_is w.fills c h (omega arith))

  pub last_entered : queue (with_last w c e) c ≡ queue w c ++ (e ∷ [])
  unfolding queue entries_from
  last_entered =
      let y = count_is w.fills c h (omega arith) in
      rw (filled, sym y)
      (entries_split (with_last w c e) (c * places) (get_or w.fills c 0) 1
      ∙ ap₂ (λ (l m : List Entry). l ++ m)
      (entries_move w (with_last w c e) (c * places) (c * places) (get_or w.fills c 0) (λ d l. elsewhere (c * places + d) (λ q. omega arith)))
      (ap (λ (x : Entry). x ∷ []) new))

  pub others_stay : (d : ℕ) → (d ≡ c → ⊥) → queue (with_last w c e) d ≡ queue w d
  unfolding with_last
  others_stay = queue_other w (with_last w c e) c (get_or w.fills c 0 + 1) refl (λ j q. elsewhere j (λ z. ⊎_elim (λ a. omega arith) (λ a. omega arith) q))

-- ---- taking out
module _ (w : Waiting) (c k : ℕ) (s : Shaped w) (h : k < count_of w.fills c) where
  abbrev gap : ℕ
  gap = c * places + k

  abbrev end : ℕ
  end = c * places + get_or w.fills c 0

  some : (count_of w.fills c ≡ get_or w.fills c 0) × ((c ≤ 7) × (get_or w.fills c 0 ≤ places))
  some = count_all w.fills c (omega arith)

  same : (j : ℕ) → (j < gap) ⊎ (end ≤ j) → entry_at (without w c k) j ≡ entry_at w j
  unfolding entry_at without
  same j q =
      let a = some.0 in
      let x : gap < end = omega arith in
      rw (gap_other w.times gap end j x q, gap_other w.handles gap end j x q, gap_other w.bits gap end j x q) refl

  down : (j : ℕ) → gap ≤ j → j + 1 < end → entry_at (without w c k) j ≡ entry_at w (j + 1)
  unfolding entry_at without
  down j p q =
      let a = some.0 in
      let b = some.1.0 in
      let d = some.1.1 in
      let t = s.times in
      let u = s.handles in
      let v = s.bits in
      rw (gap_down w.times gap end j (omega arith) p q, gap_down w.handles gap end j (omega arith) p q, gap_down w.bits gap end j (omega arith) p q) refl

  abbrev rest : ℕ
  rest = get_or w.fills c 0 - (k + 1)

  left_count : count_of (without w c k).fills c ≡ k + rest
  unfolding without
  left_count =
      let a = some.0 in
      let z : get_or w.fills c 0 - 1 ≡ k + rest = omega arith in
      count_set w.fills c (get_or w.fills c 0 - 1) some.1.0 (omega (arith, some.1.1)) s.fills ∙ z

  -- those ahead of the entry and those behind it
  pub stood : queue w c ≡ entries_from w (c * places) k ++ (entry_at w gap ∷ entries_from w (gap + 1) rest)
  unfolding queue entries_from
  stood =
      let a = some.0 in
      let z : count_of w.fills c ≡ k + suc rest = omega arith in
      ap (entries_from w (c * places)) z ∙ entries_split w (c * places) k (suc rest)

  pub ahead_length : length (entries_from w (c * places) k) ≡ k
  ahead_length = entries_length w (c * places) k

  pub stands : queue (without w c k) c ≡ entries_from w (c * places) k ++ entries_from w (gap + 1) rest
  unfolding queue
  stands =
      let a = some.0 in
      ap (entries_from (without w c k) (c * places)) left_count
      ∙ entries_split (without w c k) (c * places) k rest
      ∙ ap₂ (λ (l m : List Entry). l ++ m)
      (entries_move w (without w c k) (c * places) (c * places) k (λ d l. same (c * places + d) (inl (omega arith))))
      (entries_move w (without w c k) gap (gap + 1) rest (λ d l.
      let y : (gap + 1) + d ≡ (gap + d) + 1 = omega arith in
      rw y (down (gap + d) (omega arith) (omega arith))))

  pub others_remain : (d : ℕ) → (d ≡ c → ⊥) → queue (without w c k) d ≡ queue w d
  unfolding without
  others_remain =
      let a = some.0 in
      let b = some.1.1 in
      queue_other w (without w c k) c (get_or w.fills c 0 - 1) refl (λ j q. same j (⊎_elim (λ x. inl (omega arith)) (λ x. inr (omega arith)) q))

-- ---- the arrays keep their lengths
pub shaped_entered : (w : Waiting) (c : ℕ) (e : Entry) → Shaped w → Shaped (with_last w c e)
unfolding with_last
shaped_entered w c e s = record {
  times = length-set w.times _ _ ∙ s.times;
  handles = length-set w.handles _ _ ∙ s.handles;
  bits = length-set w.bits _ _ ∙ s.bits;
  fills = length-set w.fills _ _ ∙ s.fills;
}

pub shaped_left : (w : Waiting) (c k : ℕ) → Shaped w → Shaped (without w c k)
unfolding without
shaped_left w c k s = record {
  times = gap_length w.times _ _ ∙ s.times;
  handles = gap_length w.handles _ _ ∙ s.handles;
  bits = gap_length w.bits _ _ ∙ s.bits;
  fills = length-set w.fills _ _ ∙ s.fills;
}
