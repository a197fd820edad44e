-- Laws of the line that says what failed: it is short. Assumes nothing.
use mathlib.Core.Path.{◌≡◌, sym, ap, ◌∙◌}
use mathlib.Core.List.{List}
use Prim.Native.Nat.{ℕ, ◌≤◌}
use native.Mathlib.Nat.{zero-add}
use native.Mathlib.Omega.{arith}
use lib.ListN.{length, take, length-append}
use lib.Seq.{length-sets, length-take-le}
use Rattle.text.specs.Places.{Placed}
use Rattle.text.specs.Puts.{joined, puts}
use Rattle.text.proofs.Stores.{fits}
use Rattle.text.proofs.Putting.{puts_fit}
use Rattle.text.proofs.Widths.{twenty}
use Rattle.console.specs.declared.Edge.{Edge}
use Rattle.console.specs.declared.Edge.TheVariants.{Reading, Writing}
use Rattle.console.specs.declared.Failure.{Failure}
use Rattle.console.specs.Failures.{edge_word, failure_parts}

edge_short : (e : Edge) → length (edge_word e) ≡ 22
unfolding edge_word
edge_short Reading = omega arith
edge_short Writing = omega arith

short : (f : Failure) → length (joined (failure_parts f)) ≤ 78
unfolding failure_parts joined
short f = simp length-append (omega (arith, edge_short f.edge, twenty f.records, twenty f.bytes))

-- it stands in a line of 4,096 bytes
pub record Stands (n : ℕ) (out : List ℕ) (f : Failure) : Type 0 where
  pub is : n ≡ length (joined (failure_parts f))
  pub inside : n ≤ length out
  pub counts : n ≡ length (take n out)

pub stands : (l out : List ℕ) (n : ℕ) (f : Failure) → 4096 ≡ length l → record { next = n; bytes = out } ≡ puts l 0 (failure_parts f) → Stands n out f
stands l out n f long e =
    let ts = joined (failure_parts f) in
    let small = short f in
    let all = e ∙ puts_fit (failure_parts f) l 0 (omega arith) ∙ sym (fits l 0 ts (omega arith)) in
    let next : n ≡ length ts = ap (λ (x : Placed). x.next) all ∙ zero-add (length ts) in
    let bytes : length out ≡ length l = ap (λ (x : Placed). length x.bytes) all ∙ length-sets l 0 ts in
    let here : n ≤ length out = omega arith in
    record { is = next; inside = here; counts = sym (length-take-le n out here) }
