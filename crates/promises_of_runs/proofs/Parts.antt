-- A list of bits that is part of another, in order: it has no more bits of a stream in any span. Assumes nothing.
use mathlib.Core.Path.{◌≡◌}
use mathlib.Core.List.{List, [], ◌∷◌, ◌++◌}
use Prim.Native.Nat.{ℕ, ◌+◌, ◌≤◌}
use native.Mathlib.Omega.{arith}
use Rattle.bridge.specs.Spans.{Sent, bits_in, WithinBurstAndRate}

pub data Part : List Sent → List Sent → Type 0 where
  none : Part [] []
  both : {e f : Sent} {es fs : List Sent} → e ≡ f → Part es fs → Part (e ∷ es) (f ∷ fs)
  skip : {f : Sent} {es fs : List Sent} → Part es fs → Part es (f ∷ fs)

pub part_after : (ds : List Sent) {es fs : List Sent} → Part es fs → Part es (ds ++ fs)
part_after [] p = p
part_after (d ∷ ds) p = skip (part_after ds p)

pub part_append : {cs ds es fs : List Sent} → Part cs ds → Part es fs → Part (cs ++ es) (ds ++ fs)
part_append none q = q
part_append (both e p) q = both e (part_append p q)
part_append (skip p) q = skip (part_append p q)

part_bits : (j lo hi : ℕ) {es fs : List Sent} → Part es fs → bits_in j lo hi es ≤ bits_in j lo hi fs
unfolding bits_in
part_bits j lo hi none = omega arith
part_bits j lo hi (both e p) = let z = part_bits j lo hi p in rw e (omega arith)
part_bits j lo hi (skip p) = let z = part_bits j lo hi p in omega arith

pub part_within : (u r j : ℕ) {es fs : List Sent} → Part es fs → WithinBurstAndRate u r j fs → WithinBurstAndRate u r j es
unfolding WithinBurstAndRate
part_within u r j p h lo d = let z = part_bits j lo (lo + d) p in let y = h lo d in omega arith
