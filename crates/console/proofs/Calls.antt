-- Laws of what went to a writer, call after call. Assumes nothing.
use Rattle.std.proofs.Common.{◌≡◌, ℕ, ◌+◌, ◌-◌, ◌≤◌, min, ℤ, pos, List, ◌++◌, length, take, drop, Option, Result, Ok, Err, refl, sym, ap, ◌∙◌, subst}
use Rattle.std.specs.Prelude.{⊤}
use Rattle.std.proofs.Math.Seq.{take-append-add}
use Rattle.std.proofs.lemmas.List.{take-append-drop, length-take-le, take_min, length-drop, take_all}
use Rattle.std.specs.Io.KnownBytes.{Appends}
use Rattle.std.proofs.KnownBytes.{Appends-trans, Appends-kept}
use Rattle.std.proofs.lemmas.Bool.{le-leb}
use Rattle.std.proofs.Math.Nat.{le_refl}
use lib.Dec.{leb}
use borrow.Author.Tests.{leb-true, leb-false}
use mathlib.Core.Bool.{Bool, true, false, cond}
use Rattle.console.specs.declared.Unwritten.{Unwritten}
use Rattle.console.specs.Calls.{further, WentTo, written_to, count_of, error_of, Wrote}

take_and : (n m : ℕ) (xs : List ℕ) → n ≤ length xs → take n xs ++ take m (drop n xs) ≡ take (n + m) xs
take_and n m xs h =
    sym (take-append-add (take n xs) (drop n xs) m)
    ∙ ap (λ k. take (k + m) (take n xs ++ drop n xs)) (length-take-le n xs h)
    ∙ ap (take (n + m)) (take-append-drop n xs)

-- those before a place went to the writer, and then those that a call took
pub went_on : (a b c : Option (List ℕ)) (xs : List ℕ) (at r : ℕ) (got : Result ℕ ℤ) → at ≤ length xs → Appends a b (take at xs)
    → WentTo b c got (drop at xs) → r ≡ further at got (length xs) → Appends a c (take r xs)
went_on a b c xs at r (Ok n) h f w e =
    let m : min n (length (drop at xs)) ≡ min n (length xs - at) = ap (min n) (length-drop at xs) in
    let t : take n (drop at xs) ≡ take (min n (length xs - at)) (drop at xs) = sym (take_min n (drop at xs)) ∙ ap (λ k. take k (drop at xs)) m in
    subst (Appends a c) (ap (λ l. take at xs ++ l) t ∙ take_and at (min n (length xs - at)) xs h ∙ ap (λ k. take k xs) (sym e)) (Appends-trans a b c (take at xs) (take n (drop at xs)) f w)
went_on a b c xs at r (Err e') h f w e = subst (λ k. Appends a c (take k xs)) (sym e) (Appends-kept a b c (take at xs) f w)

-- what a writing came to that stopped at a place
pub wrote : (a b : Option (List ℕ)) (xs : List ℕ) (at : ℕ) (e : ℤ) (r : Result ⊤ Unwritten) → at ≤ length xs → Appends a b (take at xs) → r ≡ written_to at (length xs) e → Wrote a b xs r
wrote a b xs at e r h f w = subst (Wrote a b xs) (sym w) (go (leb (length xs) at) refl)
  where
    go : (t : Bool) → leb (length xs) at ≡ t → Wrote a b xs (cond t (Ok tt) (Err (record { count = at; error = e })))
    go true z = subst (Appends a b) (take_all at xs (leb-true (length xs) at z)) f
    go false z = (leb-false (length xs) at z, f)

-- by what it hands back it is one
pub handed_back : (size at : ℕ) (e : ℤ) (r : Result ⊤ Unwritten) → r ≡ written_to at size e → r ≡ written_to (count_of size r) size (error_of r)
handed_back size at e r w = subst (λ (x : Result ⊤ Unwritten). x ≡ written_to (count_of size x) size (error_of x)) (sym w) (go (leb size at) refl)
  where
    result : Bool → Result ⊤ Unwritten
    result t = cond t (Ok tt) (Err (record { count = at; error = e }))

    go : (t : Bool) → leb size at ≡ t → result t ≡ written_to (count_of size (result t)) size (error_of (result t))
    go true z = sym (ap (λ t. cond t (Ok tt) (Err (record { count = size; error = pos 0 }))) (le-leb size size (le_refl size)))
    go false z = sym (ap result z)
