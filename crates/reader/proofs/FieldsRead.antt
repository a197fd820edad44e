-- Laws of fields one after the other: at which places their numbers are read. Assumes nothing.
use mathlib.Core.Path.{◌≡◌, refl, sym, ap, ◌∙◌}
use mathlib.Core.List.{List, [], ◌∷◌}
use Prim.Native.Nat.{ℕ, suc, ◌+◌, ◌-◌, ◌≤◌, ◌<◌}
use native.Mathlib.Nat.{add_assoc}
use native.Mathlib.Numerals.{add-one}
use native.Mathlib.Omega.{arith}
use borrow.Author.Tests.{lt-ltb, le-ltb}
use lib.ListN.{length, take, drop, get_or, length-drop}
use Rattle.std.specs.Int.{from_be_bytes}
use Rattle.std.proofs.Common.{w16, w32, w64}
use lib.Seq.{drop-cons, drop-drop, length-take-le}
use Rattle.quantity.specs.declared.Refusal.TheVariants.{CutShort}
use Rattle.tablefile.specs.BigEndian.{number, number_at}
use Rattle.tablefile.specs.Layout.{Kind, mark_width, widths, record_of, total, field_numbers, size}
use Rattle.tablefile.specs.declared.Reading.TheVariants.{Found, Refused}
use Rattle.reader.specs.Reader.{read_fields}

-- the numbers in fields of these widths, the first of them so many bytes after a place
abbrev pub numbers_at : List ℕ → ℕ → ℕ → List ℕ → List ℕ
numbers_at l p at [] = []
numbers_at l p at (w ∷ ws) = number_at l (p + at) w ∷ numbers_at l p (at + w) ws

fields_at : (l : List ℕ) (p at : ℕ) (ws : List ℕ) → numbers_at l p at ws ≡ field_numbers ws (drop (p + at) l)
unfolding field_numbers number_at
fields_at l p at [] = refl
fields_at l p at (w ∷ ws) = rw (drop-drop w (p + at) l, add_assoc p at w, fields_at l p (at + w) ws)

module _ (k : Kind) (l : List ℕ) (p : ℕ) where
  pub cut_short : p + mark_width ≤ length l → length l - p < size k → Refused CutShort ≡ read_fields k (drop (p + mark_width) l) p
  unfolding read_fields size
  cut_short m h = rw (lt-ltb (length (drop (p + 2) l)) (total (widths k)) (rw length-drop (omega arith)))

  pub found : size k ≤ length l - p
      → Found (record_of k (numbers_at l p mark_width (widths k))) (p + size k) ≡ read_fields k (drop (p + mark_width) l) p
  unfolding read_fields size
  found h =
      rw (le-ltb (length (drop (p + 2) l)) (total (widths k)) (rw length-drop (omega arith)), fields_at l p 2 (widths k))

-- ---- the library's number of some bytes is the document's, in each width that a field has
two : (bs : List ℕ) → length bs ≡ 2 → from_be_bytes w16 bs ≡ number bs
unfolding number
two (a ∷ b ∷ []) n = omega arith
two [] n = absurd (omega (arith, n))
two (a ∷ []) n = absurd (omega (arith, n))
two (a ∷ b ∷ x ∷ bs) n = absurd (omega (arith, n))

four : (bs : List ℕ) → length bs ≡ 4 → from_be_bytes w32 bs ≡ number bs
unfolding number
four (a ∷ b ∷ c ∷ d ∷ []) n = omega arith
four [] n = absurd (omega (arith, n))
four (a ∷ []) n = absurd (omega (arith, n))
four (a ∷ b ∷ []) n = absurd (omega (arith, n))
four (a ∷ b ∷ c ∷ []) n = absurd (omega (arith, n))
four (a ∷ b ∷ c ∷ d ∷ x ∷ bs) n = absurd (omega (arith, n))

eight : (bs : List ℕ) → length bs ≡ 8 → from_be_bytes w64 bs ≡ number bs
unfolding number
eight (a ∷ b ∷ c ∷ d ∷ e ∷ f ∷ g ∷ h ∷ []) n = omega arith
eight [] n = absurd (omega (arith, n))
eight (a ∷ []) n = absurd (omega (arith, n))
eight (a ∷ b ∷ []) n = absurd (omega (arith, n))
eight (a ∷ b ∷ c ∷ []) n = absurd (omega (arith, n))
eight (a ∷ b ∷ c ∷ d ∷ []) n = absurd (omega (arith, n))
eight (a ∷ b ∷ c ∷ d ∷ e ∷ []) n = absurd (omega (arith, n))
eight (a ∷ b ∷ c ∷ d ∷ e ∷ f ∷ []) n = absurd (omega (arith, n))
eight (a ∷ b ∷ c ∷ d ∷ e ∷ f ∷ g ∷ []) n = absurd (omega (arith, n))
eight (a ∷ b ∷ c ∷ d ∷ e ∷ f ∷ g ∷ h ∷ x ∷ bs) n = absurd (omega (arith, n))

module _ (l : List ℕ) (p : ℕ) where
  taken : (w : ℕ) → p + w ≤ length l → length (take w (drop p l)) ≡ w
  taken w m = length-take-le w (drop p l) (rw length-drop (omega arith))

  pub in_two : p + 2 ≤ length l → from_be_bytes w16 (take 2 (drop p l)) ≡ number_at l p 2
  unfolding number_at
  in_two m = two (take 2 (drop p l)) (taken 2 m)

  -- the same of the bytes of two places
  pub two_at : (q : ℕ) → q ≡ p + 1 → p + 2 ≤ length l → from_be_bytes w16 (get_or l p 0 ∷ get_or l q 0 ∷ []) ≡ number_at l p 2
  two_at q e m =
      let here : drop p l ≡ get_or l p 0 ∷ drop (p + 1) l = rw (add-one p) (drop-cons l p 0 (omega arith)) in
      let behind : drop (p + 1) l ≡ get_or l (p + 1) 0 ∷ drop (suc (p + 1)) l = drop-cons l (p + 1) 0 (omega arith) in
      let both : take 2 (drop p l) ≡ get_or l p 0 ∷ get_or l (p + 1) 0 ∷ [] = ap (take 2) (here ∙ ap (λ bs. get_or l p 0 ∷ bs) behind) in
      rw e (ap (from_be_bytes w16) (sym both) ∙ in_two m)

  pub in_four : p + 4 ≤ length l → from_be_bytes w32 (take 4 (drop p l)) ≡ number_at l p 4
  unfolding number_at
  in_four m = four (take 4 (drop p l)) (taken 4 m)

  pub in_eight : p + 8 ≤ length l → from_be_bytes w64 (take 8 (drop p l)) ≡ number_at l p 8
  unfolding number_at
  in_eight m = eight (take 8 (drop p l)) (taken 8 m)
