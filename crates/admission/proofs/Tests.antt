-- The tests before judging: what each return says, and what a frame has passed that none refuses. Assumes nothing.
use mathlib.Core.Path.{◌≡◌, refl, sym, subst}
use mathlib.Core.Bool.{Bool, true, false}
use Prim.Native.Nat.{ℕ, ◌≤◌, ◌<◌}
use native.Mathlib.Omega.{arith}
use lib.Dec.{ltb}
use borrow.Author.Tests.{lt-ltb, le-ltb, ltb-true, ltb-false}
use Rattle.quantity.specs.Kinds.{bits}
use Rattle.quantity.specs.Charge.{charged}
use Rattle.quantity.specs.Ranges.{in_range}
use Rattle.quantity.specs.Numbers.{number_of}
use Rattle.quantity.specs.declared.Item.TheVariants.{Octets, Arrival}
use Rattle.quantity.specs.declared.Refusal.TheVariants.{Unsound, NoStream, LengthRange, AboveBurst, TooLate, BeforeLast}
use Rattle.records.specs.Sound.{sound}
use Rattle.records.specs.Numbers.{is_set_up}
use Rattle.records.specs.declared.Group.{Group}
use Rattle.records.specs.declared.Stream.{Stream}
use Rattle.admission.specs.Tests.{above_burst, tested}
use Rattle.std.proofs.Common.{Result, Ok, Err}
use Rattle.quantity.specs.declared.Bits.{Bits}
use Rattle.quantity.specs.declared.Refusal.{Refusal}

-- ---- the tests in their order
module _ (s : Stream) (g : Group) (n A : ℕ) where
  pub test_10 : is_set_up s.regulator ≡ false → tested s g n A ≡ Err NoStream
  unfolding tested
  test_10 e = simp e

  module _ (u : is_set_up s.regulator ≡ true) where
    pub test_9 : sound s g ≡ false → tested s g n A ≡ Err Unsound
    unfolding tested
    test_9 e = simp (u, e)

    module _ (k : sound s g ≡ true) where
      pub test_11 : in_range Octets n ≡ false → tested s g n A ≡ Err LengthRange
      unfolding tested
      test_11 e = simp (u, k, e)

      module _ (o : in_range Octets n ≡ true) where
        pub test_12 : above_burst s.regulator (charged n) ≡ true → tested s g n A ≡ Err AboveBurst
        unfolding tested
        test_12 e = simp (u, k, o, e)

        module _ (b : above_burst s.regulator (charged n) ≡ false) where
          pub test_13 : in_range Arrival A ≡ false → tested s g n A ≡ Err TooLate
          unfolding tested
          test_13 e = simp (u, k, o, b, e)

          module _ (a : in_range Arrival A ≡ true) where
            pub test_14 : A < g.last.0 → tested s g n A ≡ Err BeforeLast
            unfolding tested
            test_14 h = simp (u, k, o, b, a, lt-ltb _ _ h)

            pub none_refuses : g.last.0 ≤ A → tested s g n A ≡ Ok (bits (charged n))
            unfolding tested
            none_refuses h = simp (u, k, o, b, a, le-ltb _ _ h)

-- ---- what a frame that is judged has passed
pub record Passes (s : Stream) (g : Group) (n A : ℕ) : Type 0 where
  pub set_up : is_set_up s.regulator ≡ true
  pub records : sound s g ≡ true
  pub octets : in_range Octets n ≡ true
  pub burst : above_burst s.regulator (charged n) ≡ false
  pub arrival : in_range Arrival A ≡ true
  pub order : g.last.0 ≤ A

-- what the tests say: a refusal, as unsound only where the records are; or the frame passes them all, and L is its charge
unfoldable pub Said : Stream → Group → ℕ → ℕ → Result Bits Refusal → Type 0
Said s g n A (Err why) = number_of why ≡ number_of Unsound → (is_set_up s.regulator ≡ true) × (sound s g ≡ false)
Said s g n A (Ok L) = Passes s g n A × (L.0 ≡ charged n)

pub said : (s : Stream) (g : Group) (n A : ℕ) → Said s g n A (tested s g n A)
unfolding Said
said s g n A = at_10 (is_set_up s.regulator) refl
  where
    To : Result Bits Refusal → Type 0
    To t = Said s g n A t

    at_14 : (t : Bool) → ltb A g.last.0 ≡ t → is_set_up s.regulator ≡ true → sound s g ≡ true → in_range Octets n ≡ true → above_burst s.regulator (charged n) ≡ false → in_range Arrival A ≡ true → To (tested s g n A)
    at_14 true e u k o b a = subst To (sym (test_14 s g n A u k o b a (ltb-true A g.last.0 e))) (λ x. absurd (omega arith))
    at_14 false e u k o b a =
        let l : g.last.0 ≤ A = ltb-false A g.last.0 e in
        subst To (sym (none_refuses s g n A u k o b a l)) (record { set_up = u; records = k; octets = o; burst = b; arrival = a; order = l }, refl)

    at_13 : (t : Bool) → in_range Arrival A ≡ t → is_set_up s.regulator ≡ true → sound s g ≡ true → in_range Octets n ≡ true → above_burst s.regulator (charged n) ≡ false → To (tested s g n A)
    at_13 false e u k o b = subst To (sym (test_13 s g n A u k o b e)) (λ x. absurd (omega arith))
    at_13 true e u k o b = at_14 (ltb A g.last.0) refl u k o b e

    at_12 : (t : Bool) → above_burst s.regulator (charged n) ≡ t → is_set_up s.regulator ≡ true → sound s g ≡ true → in_range Octets n ≡ true → To (tested s g n A)
    at_12 true e u k o = subst To (sym (test_12 s g n A u k o e)) (λ x. absurd (omega arith))
    at_12 false e u k o = at_13 (in_range Arrival A) refl u k o e

    at_11 : (t : Bool) → in_range Octets n ≡ t → is_set_up s.regulator ≡ true → sound s g ≡ true → To (tested s g n A)
    at_11 false e u k = subst To (sym (test_11 s g n A u k e)) (λ x. absurd (omega arith))
    at_11 true e u k = at_12 (above_burst s.regulator (charged n)) refl u k e

    at_9 : (t : Bool) → sound s g ≡ t → is_set_up s.regulator ≡ true → To (tested s g n A)
    at_9 false e u = subst To (sym (test_9 s g n A u e)) (λ x. (u, e))
    at_9 true e u = at_11 (in_range Octets n) refl u e

    at_10 : (t : Bool) → is_set_up s.regulator ≡ t → To (tested s g n A)
    at_10 false e = subst To (sym (test_10 s g n A e)) (λ x. absurd (omega arith))
    at_10 true e = at_9 (sound s g) refl e
