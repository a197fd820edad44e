-- Laws of which entry goes first: one step of the search in a class, and of the search for the smallest time of all. Assumes nothing.
use mathlib.Core.Path.{◌≡◌, refl, sym, ap, ◌∙◌}
use mathlib.Core.List.{List, ◌∷◌}
use Prim.Native.Nat.{ℕ, suc, ◌+◌, ◌*◌, ◌-◌, ◌≤◌, ◌<◌}
use native.Mathlib.Omega.{arith}
use native.Mathlib.Numerals.{add-one}
use lib.ListN.{get_or}
use borrow.Author.Tests.{lt-ltb, le-ltb}
use Rattle.quantity.specs.Kinds.{ticks}
use Rattle.quantity.specs.declared.Ticks.{Ticks}
use Rattle.places.specs.Queue.{places, classes, count_of}
use Rattle.places.proofs.Counts.{left, over}
use Rattle.firsts.specs.declared.First.{First}
use Rattle.std.specs.Prelude.{Option, Some, None}
use Rattle.firsts.specs.Firsts.{part, first_from, first_in, first_of, smaller, smallest_below, smallest_of}

-- ---- the search in a class whose entries stand from a place b on: one step, and the end
abbrev from : List ℕ → ℕ → ℕ → ℕ → ℕ → ℕ → First
from ts b n place t k = first_from place t k (part ts (b + k) (n - k))

module _ (ts : List ℕ) (b n place t k : ℕ) where
  stands : k < n → part ts (b + k) (n - k) ≡ get_or ts (b + k) 0 ∷ part ts (b + (k + 1)) (n - (k + 1))
  unfolding part
  stands h = let z : b + (k + 1) ≡ (b + k) + 1 = omega arith in rw (left k n h, z) refl

  pub step_new : k < n → get_or ts (b + k) 0 < t → from ts b n k (get_or ts (b + k) 0) (k + 1) ≡ from ts b n place t k
  unfolding first_from
  step_new h x = rw (stands h, lt-ltb (get_or ts (b + k) 0) t x) refl

  pub step_old : k < n → t ≤ get_or ts (b + k) 0 → from ts b n place t (k + 1) ≡ from ts b n place t k
  unfolding first_from
  step_old h x = rw (stands h, le-ltb (get_or ts (b + k) 0) t x) refl

  pub step_done : n ≤ k → from ts b n place t k ≡ record { place = place; time = ticks t }
  unfolding first_from part
  step_done h = rw (over k n h) refl

-- one turn of the loop, which keeps the place p and the time x of the best so far
module _ (ts : List ℕ) (b n place t k p x : ℕ) (h : k < n) where
  pub next_new : get_or ts (b + k) 0 < t → p ≡ k → x ≡ get_or ts (b + k) 0 → from ts b n p x (k + 1) ≡ from ts b n place t k
  next_new y e f = rw (e, f) (step_new ts b n place t k h y)

  pub next_old : t ≤ get_or ts (b + k) 0 → p ≡ place → x ≡ t → from ts b n p x (k + 1) ≡ from ts b n place t k
  next_old y e f = rw (e, f) (step_old ts b n place t k h y)

-- ---- the class
module _ (ts fs : List ℕ) (c n : ℕ) (is : n ≡ count_of fs c) where
  pub no_entry : n < 1 → None ≡ first_of ts fs c
  unfolding first_of first_in part
  no_entry h = let z : count_of fs c ≡ 0 = omega arith in rw z refl

  pub first_start : 0 < n → Some (first_from 0 (get_or ts (c * places) 0) 1 (part ts (c * places + 1) (n - 1))) ≡ first_of ts fs c
  unfolding first_of first_in part
  first_start h = let z : count_of fs c ≡ suc (n - 1) = omega arith in rw z refl

-- ---- the classes in turn, upwards: the smallest time of those below c
module _ (ts fs : List ℕ) (c : ℕ) where
  pub smallest_start : None ≡ smallest_below ts fs 0
  unfolding smallest_below
  smallest_start = refl

  pub smallest_goes : (s r : Option Ticks) (f : Option First) → s ≡ smallest_below ts fs c → f ≡ first_of ts fs c → r ≡ smaller s f → r ≡ smallest_below ts fs (c + 1)
  unfolding smallest_below
  smallest_goes s r f p q e = e ∙ rw (p, q) (sym (ap (smallest_below ts fs) (add-one c)))

  pub smallest_done : (s : Option Ticks) → c ≡ classes → s ≡ smallest_below ts fs c → s ≡ smallest_of ts fs
  unfolding smallest_of
  smallest_done s h e = e ∙ ap (smallest_below ts fs) h
