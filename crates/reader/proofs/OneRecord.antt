-- Laws of one record between its bytes and its reading, both ways. Assumes nothing.
use mathlib.Core.Path.{◌≡◌, refl, sym, ap, ◌∙◌, subst}
use mathlib.Core.List.{List, [], ◌∷◌, ◌++◌, append_assoc}
use mathlib.Core.Bool.{Bool, true, false, cond}
use mathlib.Core.Option.{Option, none, some}
use Prim.Native.Nat.{ℕ, ◌+◌, ◌-◌, ◌≤◌}
use native.Mathlib.Nat.{add-sub_cancel_left}
use native.Mathlib.Omega.{arith}
use borrow.Author.Tests.{ltb-false, le-ltb, eqb-true}
use lib.Dec.{ltb, eqb}
use lib.ListN.{length, get_or, take, drop, length-append, length-drop, take-append-drop}
use lib.Seq.{drop-append_seam, take_at, drop_at, take-add, take-append-add, drop-drop, length-take-le}
use Rattle.quantity.specs.declared.Refusal.TheVariants.{UnknownMark, CutShort}
use Rattle.quantity.proofs.Booleans.{both}
use Rattle.tablefile.specs.declared.Record.{Record}
use Rattle.tablefile.specs.declared.Record.TheVariants.{Group, GroupDefault, Stream, Frame}
use Rattle.tablefile.specs.BigEndian.{big_endian, number, AreBytes}
use Rattle.tablefile.specs.Layout.{Kind, GR, GD, ST, FR, kinds, mark_width, mark, widths, kind_of, numbers_of, record_of, total, field_bytes, field_numbers, Fit, no_field, and_field, Fits, bytes_of, size}
use Rattle.tablefile.proofs.Numbers.{length_big_endian, number_big_endian, big_endian_number, number_below, bytes_take, bytes_drop}
use Rattle.tablefile.proofs.Fields.{mark_is, mark_width_law, fields_size, bytes_size}
use Rattle.tablefile.specs.declared.Reading.{Reading}
use Rattle.tablefile.specs.declared.Reading.TheVariants.{Found, NothingLeft, Refused}
use Rattle.reader.specs.Reader.{is_mark, marked_among, read_fields, read_marked, read_left, read_at}
use Rattle.reader.specs.RoundTrip.{Whole}

-- ---- each kind

-- a record is made of its kind and its numbers
remade : (r : Record) → record_of (kind_of r) (numbers_of r) ≡ r
remade (Group group class residence) = refl
remade (GroupDefault group class) = refl
remade (Stream stream group rate burst) = refl
remade (Frame stream octets arrival) = refl

kind_of_made : (k : Kind) (n : List ℕ) → kind_of (record_of k n) ≡ k
kind_of_made GR n = refl
kind_of_made GD n = refl
kind_of_made ST n = refl
kind_of_made FR n = refl

numbers_of_made : (k : Kind) (left : List ℕ) → numbers_of (record_of k (field_numbers (widths k) left)) ≡ field_numbers (widths k) left
unfolding field_numbers
numbers_of_made GR left = refl
numbers_of_made GD left = refl
numbers_of_made ST left = refl
numbers_of_made FR left = refl

-- after its mark a record of a kind is read
mark_read : (k : Kind) (left : List ℕ) (p : ℕ) → read_left (mark k ++ left) p ≡ read_fields k left p
unfolding read_left read_marked marked_among kinds is_mark
mark_read GR left p = refl
mark_read GD left p = refl
mark_read ST left p = refl
mark_read FR left p = refl

-- ---- from the record to its bytes and back

numbers_back : {ws vs : List ℕ} → Fit ws vs → (after : List ℕ) → field_numbers ws (field_bytes ws vs ++ after) ≡ vs
unfolding field_numbers field_bytes
numbers_back no_field after = refl
numbers_back (and_field {w} {v} {ws} {vs} h rest) after =
    rw (
      append_assoc (big_endian w v) (field_bytes ws vs) after,
      take_at (big_endian w v) (field_bytes ws vs ++ after) w (length_big_endian w v),
      drop_at (big_endian w v) (field_bytes ws vs ++ after) w (length_big_endian w v),
      number_big_endian w v h,
      numbers_back rest after,
    )

read_whole : (r : Record) → Fits r → (after : List ℕ) (p : ℕ) → read_left (bytes_of r ++ after) p ≡ Found r (p + length (bytes_of r))
unfolding bytes_of read_fields
read_whole r h after p =
    let k = kind_of r in
    let f = field_bytes (widths k) (numbers_of r) in
    let long : total (widths k) ≤ length (f ++ after) = rw (length-append f after, fields_size r) (omega arith) in
    ap (λ (l : List ℕ). read_left l p) (append_assoc (mark k) f after)
    ∙ mark_read k (f ++ after) p
    ∙ rw (le-ltb (length (f ++ after)) (total (widths k)) long, numbers_back h after, remade r, bytes_size r)

pub read_back : (r : Record) → Fits r → (before after : List ℕ)
    → read_at (before ++ (bytes_of r ++ after)) (length before) ≡ Found r (length before + length (bytes_of r))
unfolding read_at
read_back r h before after = rw (drop-append_seam before (bytes_of r ++ after)) (read_whole r h after (length before))

-- ---- from the bytes to their record and back

-- the two bytes that were found as a kind's mark are that mark
mark_tested : (k : Kind) (a b : ℕ) → is_mark (mark k) a b ≡ true → mark k ≡ a ∷ b ∷ []
unfolding is_mark
mark_tested k a b e =
    let m = mark k in
    let t = both (eqb a (get_or m 0 0)) (eqb b (get_or m 1 0)) e in
    rw (eqb-true a (get_or m 0 0) t.0, eqb-true b (get_or m 1 0) t.1) (sym (mark_is k))

first_or_later : (k first : Kind) (later : Option Kind) (a b : ℕ) (t : Bool) → is_mark (mark first) a b ≡ t
    → (later ≡ some k → mark k ≡ a ∷ b ∷ []) → cond t (some first) later ≡ some k → mark k ≡ a ∷ b ∷ []
first_or_later k first later a b true t h e = let same : first ≡ k = cc in rw (← same) (mark_tested first a b t)
first_or_later k first later a b false t h e = h e

mark_found : (ks : List Kind) (a b : ℕ) (k : Kind) → marked_among ks a b ≡ some k → mark k ≡ a ∷ b ∷ []
unfolding marked_among
mark_found [] a b k e = let z : ◌≡◌ {A = ℕ} 0 1 = cc in absurd (omega arith)
mark_found (first ∷ ks) a b k e =
    first_or_later k first (marked_among ks a b) a b (is_mark (mark first) a b) refl (mark_found ks a b k) e

-- fields that are not cut short fit, and hold the bytes that were there
fields_fit : (ws left : List ℕ) → AreBytes left → total ws ≤ length left → Fit ws (field_numbers ws left)
unfolding total field_numbers
fields_fit [] left bytes h = no_field
fields_fit (w ∷ ws) left bytes h =
    and_field
    (rw (length-take-le w left (omega arith)) at (number_below (take w left) (bytes_take w left bytes)))
    (fields_fit ws (drop w left) (bytes_drop w left bytes) (rw length-drop (omega arith)))

fields_same : (ws left : List ℕ) → AreBytes left → total ws ≤ length left → field_bytes ws (field_numbers ws left) ≡ take (total ws) left
unfolding total field_numbers field_bytes
fields_same [] left bytes h = refl
fields_same (w ∷ ws) left bytes h =
    rw (
      take-add w (total ws) left,
      ← fields_same ws (drop w left) (bytes_drop w left bytes) (rw length-drop (omega arith)),
    )
    (ap (λ (l : List ℕ). l ++ field_bytes ws (field_numbers ws (drop w left)))
    (ap (λ (n : ℕ). big_endian n (number (take w left))) (sym (length-take-le w left (omega arith)))
    ∙ big_endian_number (take w left) (bytes_take w left bytes)))

-- what an answer says of the bytes left
pub data Front (l : List ℕ) (p : ℕ) : Reading → Type 0 where
  empty : l ≡ [] → Front l p NothingLeft
  cut : Front l p (Refused CutShort)
  strange : Front l p (Refused UnknownMark)
  whole : (k : Kind) (left : List ℕ) → l ≡ mark k ++ left → total (widths k) ≤ length left
      → Front l p (Found (record_of k (field_numbers (widths k) left)) (p + size k))

pub front : (l : List ℕ) (p : ℕ) → Front l p (read_left l p)
unfolding read_left read_marked read_fields
front [] p = empty refl
front (a ∷ []) p = cut
front (a ∷ b ∷ left) p = by_mark (marked_among kinds a b) refl
  where
    by_length : (k : Kind) → mark k ≡ a ∷ b ∷ [] → (t : Bool) → ltb (length left) (total (widths k)) ≡ t
        → Front (a ∷ b ∷ left) p (read_fields k left p)
    by_length k m true e = rw e cut
    by_length k m false e = rw e (whole k left (ap (λ (x : List ℕ). x ++ left) (sym m)) (ltb-false _ _ e))

    by_mark : (m : Option Kind) → marked_among kinds a b ≡ m → Front (a ∷ b ∷ left) p (read_marked m left p)
    by_mark none e = strange
    by_mark (some k) e = by_length k (mark_found kinds a b k e) (ltb (length left) (total (widths k))) refl

-- a record that was found stands in the bytes
pub found_whole : (bytes : List ℕ) → AreBytes bytes → (p : ℕ) {r : Record} {next : ℕ}
    → Front (drop p bytes) p (Found r next) → Whole bytes p r next
unfolding bytes_of size
found_whole bytes h p (whole k left is long) =
    let after-mark : drop mark_width (drop p bytes) ≡ left =
    ap (drop mark_width) is ∙ drop_at (mark k) left mark_width (mark_width_law k) in
    let left-bytes : AreBytes left =
    subst (λ (l : List ℕ). AreBytes l) after-mark (bytes_drop mark_width (drop p bytes) (bytes_drop p bytes h)) in
    let n = field_numbers (widths k) left in
    let all = total (widths k) in
    let front_of : mark k ++ take all left ≡ take (mark_width + all) (mark k ++ left) =
    sym (take-append-add (mark k) left all) ∙ ap (λ (w : ℕ). take (w + all) (mark k ++ left)) (mark_width_law k) in
    let long-enough : p + size k ≤ length bytes =
    omega (arith, length-drop p bytes, ap length is, length-append (mark k) left, mark_width_law k) in
    record {
      fits = rw (kind_of_made k n, numbers_of_made k left) (fields_fit (widths k) left left-bytes long);
      same =
          rw (kind_of_made k n, numbers_of_made k left, fields_same (widths k) left left-bytes long, add-sub_cancel_left p (size k), is)
          front_of;
      later = omega arith;
      inside = long-enough;
    }

pub written_back : (bytes : List ℕ) → AreBytes bytes → (p : ℕ) (r : Record) (next : ℕ) → read_at bytes p ≡ Found r next → Whole bytes p r next
unfolding read_at
written_back bytes h p r next e = found_whole bytes h p (subst (Front (drop p bytes) p) e (front (drop p bytes) p))

-- the bytes of a record that was found, counted
pub found_length : {bytes : List ℕ} {p : ℕ} {r : Record} {next : ℕ} → Whole bytes p r next → length (bytes_of r) ≡ next - p
found_length {bytes} {p} {r} {next} w =
    ap length w.same ∙ length-take-le (next - p) (drop p bytes) (rw length-drop (omega (arith, w.inside)))

-- the list around a record that was found
found_between : {bytes : List ℕ} {p : ℕ} {r : Record} {next : ℕ} → Whole bytes p r next
    → bytes ≡ take p bytes ++ (bytes_of r ++ drop next bytes)
found_between {bytes} {p} {r} {next} w =
    let to-next : p + (next - p) ≡ next = omega (arith, w.later) in
    let after : drop next bytes ≡ drop (next - p) (drop p bytes) =
    ap (λ (n : ℕ). drop n bytes) (sym to-next) ∙ sym (drop-drop (next - p) p bytes) in
    let rest : bytes_of r ++ drop next bytes ≡ drop p bytes =
    rw (w.same, after) (take-append-drop (next - p) (drop p bytes)) in
    rw rest (sym (take-append-drop p bytes))

pub found_in_longer : (before bytes after : List ℕ) → AreBytes bytes → (p : ℕ) (r : Record) (next : ℕ) → read_at bytes p ≡ Found r next
    → read_at (before ++ (bytes ++ after)) (length before + p) ≡ Found r (length before + next)
found_in_longer before bytes after h p r next e =
    let w = written_back bytes h p r next e in
    let front_part = before ++ take p bytes in
    let rest = drop next bytes ++ after in
    let around : before ++ (bytes ++ after) ≡ front_part ++ (bytes_of r ++ rest) =
    ap (λ (l : List ℕ). before ++ (l ++ after)) (found_between w) ∙ simp append_assoc in
    let place : length front_part ≡ length before + p =
    length-append before (take p bytes)
    ∙ ap (λ (n : ℕ). length before + n) (length-take-le p bytes (omega (arith, w.later, w.inside))) in
    let next_place : length front_part + length (bytes_of r) ≡ length before + next =
    omega (arith, place, found_length w, w.later) in
    ap (λ (l : List ℕ). read_at l (length before + p)) around
    ∙ ap (read_at (front_part ++ (bytes_of r ++ rest))) (sym place)
    ∙ read_back r w.fits front_part rest
    ∙ ap (Found r) next_place
