-- Laws of moving bytes to the front: those that stood at the place. Assumes nothing.
use mathlib.Core.Path.{◌≡◌, sym, ap, ◌∙◌}
use mathlib.Core.List.{List, ◌++◌}
use Prim.Native.Nat.{ℕ, ◌-◌, ◌≤◌}
use native.Mathlib.Nat.{zero-add}
use native.Mathlib.Omega.{arith}
use lib.ListN.{length, take, drop, length-drop}
use lib.Seq.{sets, sets-eq, length-take-le}
use Rattle.std.specs.List.{copy_within}
use Rattle.intake.specs.declared.Held.{Held}
use Rattle.intake.specs.Holding.{held_in, brought_kept}

-- so many bytes from a place on
pub length_part : (l : List ℕ) (place filled : ℕ) → place ≤ filled → filled ≤ length l → length (take (filled - place) (drop place l)) ≡ filled - place
length_part l place filled h k = length-take-le (filled - place) (drop place l) (omega (arith, length-drop place l))

-- all of them: they stand at the front, and the others as they stood
pub kept_is : (l m : List ℕ) (h : Held) → h.place ≤ h.filled → h.filled ≤ length l → m ≡ copy_within l h.place h.filled 0
    → record { held = record { place = 0; filled = h.filled - h.place; told = h.told }; bytes = m } ≡ brought_kept h l
unfolding brought_kept held_in
kept_is l m h a b e =
    let n = h.filled - h.place in
    let part = take n (drop h.place l) in
    let long : length part ≡ n = length_part l h.place h.filled a b in
    let same : m ≡ sets l 0 part = e ∙ ap (λ (i : ℕ). part ++ drop i l) (zero-add n ∙ sym long ∙ sym (zero-add (length part))) ∙ sym (sets-eq part l 0 (omega (arith, long))) in
    ap (λ (x : List ℕ). record { held = record { place = 0; filled = n; told = h.told }; bytes = x }) same
