-- Laws of the search for the class that is due: one step of it, and its end. Assumes nothing.
use mathlib.Core.Path.{◌≡◌, refl, sym, ◌∙◌}
use mathlib.Core.List.{List}
use Prim.Native.Nat.{ℕ, ◌+◌, ◌≤◌, ◌<◌}
use native.Mathlib.Omega.{arith}
use native.Mathlib.Numerals.{add-one}
use borrow.Author.Tests.{lt-leb, le-leb}
use Rattle.firsts.specs.declared.First.{First}
use Rattle.std.specs.Prelude.{Option, Some, None}
use Rattle.firsts.specs.Firsts.{first_of}
use Rattle.classes.specs.Calls.{due_or, due_below}

-- the classes in turn, downwards: of those up to c the highest is looked at
module _ (ts fs : List ℕ) (m c : ℕ) (f : Option First) (is : f ≡ first_of ts fs c) where
  due_step : due_below ts fs m (c + 1) ≡ due_or m c f (due_below ts fs m c)
  unfolding due_below
  due_step = rw (add-one, is) refl

  pub due_here : (x : First) → f ≡ Some x → x.time.0 ≤ m → Some (record { class = c; place = x.place }) ≡ due_below ts fs m (c + 1)
  unfolding due_or
  due_here x e h = sym (due_step ∙ rw (e, le-leb x.time.0 m h) refl)

  pub due_later : (x : First) → f ≡ Some x → m < x.time.0 → due_below ts fs m c ≡ due_below ts fs m (c + 1)
  unfolding due_or
  due_later x e h = sym (due_step ∙ rw (e, lt-leb x.time.0 m h) refl)

  pub due_none : f ≡ None → due_below ts fs m c ≡ due_below ts fs m (c + 1)
  unfolding due_or
  due_none e = sym (due_step ∙ rw e refl)

-- below the class that is looked at last there is none
pub none_due : (ts fs : List ℕ) (m c : ℕ) → c ≤ 0 → None ≡ due_below ts fs m c
unfolding due_below
none_due ts fs m c h = let z : c ≡ 0 = omega arith in rw z refl
