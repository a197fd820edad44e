-- Laws of the reader: what stands before a place only moves it, and what follows changes neither a record nor a mark that is none; and of how much is left where more could change the reading. Assumes nothing.
use mathlib.Core.Path.{◌≡◌, refl, sym, ap, ◌∙◌, subst}
use mathlib.Core.Bool.{Bool, true, false, cond}
use mathlib.Core.Option.{Option, none, some}
use mathlib.Core.List.{List, [], ◌∷◌, ◌++◌}
use Prim.Native.Nat.{ℕ, ◌+◌, ◌≤◌, ◌<◌}
use native.Mathlib.Nat.{add_assoc, zero-add}
use native.Mathlib.Omega.{arith}
use borrow.Author.Tests.{ltb-true}
use lib.Dec.{ltb}
use lib.ListN.{length, drop, length-append, length-drop}
use lib.Seq.{drop-append-add, drop-append-le}
use Rattle.quantity.specs.Numbers.{number_of}
use Rattle.quantity.specs.declared.Refusal.{Refusal}
use Rattle.quantity.specs.declared.Refusal.TheVariants.{CutShort}
use Rattle.quantity.proofs.Refusals.{refusal_number}
use Rattle.tablefile.specs.Answers.{reading_number}
use Rattle.tablefile.specs.BigEndian.{AreBytes}
use Rattle.tablefile.specs.Layout.{Kind, kinds, mark, widths, total, size, record_of, field_numbers, GR, GD, ST, FR}
use Rattle.tablefile.specs.declared.Record.{Record}
use Rattle.tablefile.specs.declared.Reading.{Reading}
use Rattle.tablefile.specs.declared.Reading.TheVariants.{Found, NothingLeft, Refused}
use Rattle.tablefile.proofs.Fields.{mark_width_law}
use Rattle.reader.specs.Reader.{marked_among, read_fields, read_marked, read_left, read_at}
use Rattle.reader.proofs.OneRecord.{Front, whole, front}
use Rattle.reader.proofs.RoundTrip.{found_in_the_whole}

-- ---- a file from a place on is the file without what stands before it

-- what the reader gives at a place that is d further on
unfoldable pub moved : ℕ → Reading → Reading
moved d (Found r next) = Found r (d + next)
moved d NothingLeft = NothingLeft
moved d (Refused why) = Refused why

pub moved_left : (l : List ℕ) (d p : ℕ) → read_left l (d + p) ≡ moved d (read_left l p)
unfolding read_left read_marked read_fields moved
moved_left [] d p = refl
moved_left (a ∷ []) d p = refl
moved_left (a ∷ b ∷ left) d p = by_mark (marked_among kinds a b)
  where
    by_length : (k : Kind) (r : Record) (t : Bool) → cond t (Refused CutShort) (Found r (d + p + size k)) ≡ moved d (cond t (Refused CutShort) (Found r (p + size k)))
    by_length k r true = refl
    by_length k r false = ap (Found r) (add_assoc d p (size k))

    by_mark : (m : Option Kind) → read_marked m left (d + p) ≡ moved d (read_marked m left p)
    by_mark none = refl
    by_mark (some k) = by_length k _ (ltb (length left) (total (widths k)))

pub moved_at : (before bytes : List ℕ) (p : ℕ) → read_at (before ++ bytes) (length before + p) ≡ moved (length before) (read_at bytes p)
unfolding read_at
moved_at before bytes p = rw (drop-append-add before bytes p) (moved_left (drop p bytes) (length before) p)

-- ---- a record that is found ends at a later place, within the bytes

further : (bytes : List ℕ) (p : ℕ) {r : Record} {next : ℕ} → Front (drop p bytes) p (Found r next) → (p < next) × (next ≤ length bytes)
unfolding size
further bytes p (whole k left is long) =
    (omega arith, omega (arith, length-drop p bytes, ap length is, length-append (mark k) left, mark_width_law k))

pub found_further : (bytes : List ℕ) (p : ℕ) (r : Record) (next : ℕ) → read_at bytes p ≡ Found r next → (p < next) × (next ≤ length bytes)
unfolding read_at
found_further bytes p r next e = further bytes p (subst (Front (drop p bytes) p) e (front (drop p bytes) p))

-- ---- what follows

pub found_there : (part after : List ℕ) → AreBytes part → (p : ℕ) (r : Record) (next : ℕ) → read_at part p ≡ Found r next → read_at (part ++ after) p ≡ Found r next
found_there part after h p r next e = simp zero-add at (found_in_the_whole [] part after h p r next e)

-- ---- two bytes that are no known mark are none, whatever follows them

module _ (why : Refusal) (n : number_of why ≡ number_of CutShort → ⊥) where
  cut_else : Refused CutShort ≡ Refused why → ⊥
  cut_else e = n (sym (ap reading_number e))

  by_length : (t : Bool) (r : Record) (next : ℕ) → cond t (Refused CutShort) (Found r next) ≡ Refused why → ⊥
  by_length true r next e = cut_else e
  by_length false r next e = omega (arith, ap reading_number e, (refusal_number why).0)

  by_mark : (m : Option Kind) (l rest : List ℕ) (p q : ℕ) → read_marked m l p ≡ Refused why → read_marked m rest q ≡ Refused why
  unfolding read_marked read_fields
  by_mark none l rest p q e = e
  by_mark (some k) l rest p q e = absurd (by_length (ltb (length l) (total (widths k))) (record_of k (field_numbers (widths k) l)) (p + size k) e)

  pub refused_for_good : (l rest : List ℕ) (p q : ℕ) → read_left l p ≡ Refused why → read_left (l ++ rest) q ≡ Refused why
  unfolding read_left
  refused_for_good [] rest p q e = absurd (omega (arith, ap reading_number e, (refusal_number why).0))
  refused_for_good (a ∷ []) rest p q e = absurd (cut_else e)
  refused_for_good (a ∷ b ∷ l) rest p q e = by_mark (marked_among kinds a b) l (l ++ rest) p q e

  -- and so at a place
  pub refused_there : (part after : List ℕ) (p : ℕ) → p ≤ length part → read_at part p ≡ Refused why → read_at (part ++ after) p ≡ Refused why
  unfolding read_at
  refused_there part after p i e = ap (λ (l : List ℕ). read_left l p) (drop-append-le p part after i) ∙ refused_for_good (drop p part) after p p e

-- ---- a record that is cut short has fewer bytes than the longest has

no_longer : (k : Kind) → 2 + total (widths k) ≤ size ST
unfolding total size
no_longer GR = omega arith
no_longer GD = omega arith
no_longer ST = omega arith
no_longer FR = omega arith

module _ (why : Refusal) (n : number_of why ≡ number_of CutShort) where
  cut_fields : (k : Kind) (l : List ℕ) (p : ℕ) → read_fields k l p ≡ Refused why → 2 + length l < size ST
  unfolding read_fields
  cut_fields k l p e = go (ltb (length l) (total (widths k))) refl e
    where
      go : (t : Bool) → ltb (length l) (total (widths k)) ≡ t → cond t (Refused CutShort) (Found (record_of k (field_numbers (widths k) l)) (p + size k)) ≡ Refused why → 2 + length l < size ST
      go true h q = omega (arith, ltb-true (length l) (total (widths k)) h, no_longer k)
      go false h q = absurd (omega (arith, ap reading_number q, (refusal_number why).0))

  cut_marked : (m : Option Kind) (l : List ℕ) (p : ℕ) → read_marked m l p ≡ Refused why → 2 + length l < size ST
  unfolding read_marked
  cut_marked none l p e = absurd (omega (arith, ap reading_number e, n))
  cut_marked (some k) l p e = cut_fields k l p e

  cut_left : (l : List ℕ) (p : ℕ) → read_left l p ≡ Refused why → length l < size ST
  unfolding read_left total size
  cut_left [] p e = omega arith
  cut_left (a ∷ []) p e = omega arith
  cut_left (a ∷ b ∷ l) p e = omega (arith, cut_marked (marked_among kinds a b) l p e)

-- ---- where nothing is left, there is no byte

some_marked : (m : Option Kind) (l : List ℕ) (p : ℕ) → read_marked m l p ≡ NothingLeft → ⊥
unfolding read_marked read_fields
some_marked none l p e = omega (arith, ap reading_number e)
some_marked (some k) l p e = go (ltb (length l) (total (widths k))) e
  where
    go : (t : Bool) → cond t (Refused CutShort) (Found (record_of k (field_numbers (widths k) l)) (p + size k)) ≡ NothingLeft → ⊥
    go true q = omega (arith, ap reading_number q)
    go false q = omega (arith, ap reading_number q)

nothing_is_left : (l : List ℕ) (p : ℕ) → read_left l p ≡ NothingLeft → length l ≡ 0
unfolding read_left
nothing_is_left [] p e = refl
nothing_is_left (a ∷ []) p e = absurd (omega (arith, ap reading_number e))
nothing_is_left (a ∷ b ∷ l) p e = absurd (some_marked (marked_among kinds a b) l p e)

-- ---- so what is left at a place, where a record is cut short or nothing is left, is less than a longest record

pub cut_is_short : (bytes : List ℕ) (p : ℕ) (why : Refusal) → number_of why ≡ number_of CutShort → read_at bytes p ≡ Refused why → length (drop p bytes) < size ST
unfolding read_at
cut_is_short bytes p why n e = cut_left why n (drop p bytes) p e

pub end_is_short : (bytes : List ℕ) (p : ℕ) → read_at bytes p ≡ NothingLeft → length (drop p bytes) < size ST
unfolding read_at total size
end_is_short bytes p e = omega (arith, nothing_is_left (drop p bytes) p e)
