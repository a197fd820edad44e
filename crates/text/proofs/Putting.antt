-- Laws of texts put one after the other. Assumes nothing.
use mathlib.Core.Path.{◌≡◌, refl, sym, ap, ◌∙◌}
use mathlib.Core.List.{List, [], ◌∷◌, ◌++◌}
use Prim.Native.Nat.{ℕ, suc, ◌+◌, ◌≤◌}
use native.Mathlib.Nat.{add-zero}
use native.Mathlib.Omega.{arith}
use lib.ListN.{length, set, length-append}
use lib.Seq.{sets, length-sets}
use Rattle.text.specs.Places.{Placed, placed}
use Rattle.text.specs.Puts.{joined, puts}
use Rattle.text.proofs.Stores.{fits}

pub sets_append : (a b l : List ℕ) (at : ℕ) → sets (sets l at a) (at + length a) b ≡ sets l at (a ++ b)
sets_append [] b l at = rw (add-zero at)
sets_append (x ∷ a) b l at =
    let e : at + suc (length a) ≡ suc at + length a = omega arith in
    rw e (sets_append a b (set l at x) (suc at))

-- texts that fit together stand as one
pub puts_fit : (ts : List (List ℕ)) (l : List ℕ) (at : ℕ) → at + length (joined ts) ≤ length l → puts l at ts ≡ placed l at (joined ts)
unfolding puts joined
puts_fit [] l at h = rw (add-zero at) at (fits l at [] h)
puts_fit (t ∷ ts) l at h =
    let long = length-append t (joined ts) in
    let end : ℕ = at + length t in
    let first : placed l at t ≡ record { next = end; bytes = sets l at t } = sym (fits l at t (omega arith)) in
    let room : end + length (joined ts) ≤ length (sets l at t) = rw (length-sets l at t) (omega arith) in
    let count : end + length (joined ts) ≡ at + length (t ++ joined ts) = omega arith in
    ap (λ (x : Placed). puts x.bytes x.next ts) first
    ∙ puts_fit ts (sets l at t) end room
    ∙ sym (fits (sets l at t) end (joined ts) room)
    ∙ rw (count, sets_append t (joined ts) l at) (fits l at (t ++ joined ts) h)

puts_append : (ts us : List (List ℕ)) (l : List ℕ) (at : ℕ) → puts (puts l at ts).bytes (puts l at ts).next us ≡ puts l at (ts ++ us)
unfolding puts
puts_append [] us l at = refl
puts_append (t ∷ ts) us l at = puts_append ts us (placed l at t).bytes (placed l at t).next

-- texts put after others; o and r are the bytes and the place after these
pub and_then : (ts us : List (List ℕ)) (l o : List ℕ) (at r : ℕ) → record { next = r; bytes = o } ≡ puts l at ts → puts o r us ≡ puts l at (ts ++ us)
and_then ts us l o at r e = ap (λ (x : Placed). puts x.bytes x.next us) e ∙ puts_append ts us l at
