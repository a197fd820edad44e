-- Laws of fields one after the other: at which places their numbers are stored. Assumes nothing.
use mathlib.Core.Path.{◌≡◌, refl, sym, ap, ◌∙◌}
use mathlib.Core.List.{List, [], ◌∷◌, ◌++◌}
use Prim.Native.Nat.{ℕ, suc, ◌+◌, ◌≤◌, ◌<◌}
use native.Mathlib.Nat.{mod-eq_of_lt, div-one, zero-add}
use native.Mathlib.Omega.{arith}
use borrow.Author.Tests.{lt-ltb, le-ltb}
use lib.ListN.{length, set, take, drop}
use lib.Seq.{sets, sets-eq, drop-drop}
use Rattle.std.proofs.lemmas.List.{append_assoc}
use borrow.Rule.Slice.PartMut.{put_mid}
use Rattle.quantity.specs.declared.Refusal.TheVariants.{NoRoom}
use Rattle.tablefile.specs.declared.Record.{Record}
use Rattle.tablefile.specs.BigEndian.{byte_values, big_endian}
use Rattle.tablefile.specs.Layout.{mark_width, mark, widths, kind_of, numbers_of, field_bytes, bytes_of, size}
use Rattle.tablefile.proofs.Numbers.{length_big_endian}
use Rattle.tablefile.proofs.Fields.{mark_width_law, bytes_size}
use Rattle.writer.specs.Writer.{write_of, write_to}
use Rattle.std.proofs.Common.{Ok, Err, ◌-◌, w16, w32, w64}
use Rattle.std.specs.Int.{to_be_bytes}

pub sets_append : (a b l : List ℕ) (i : ℕ) → sets (sets l i a) (i + length a) b ≡ sets l i (a ++ b)
sets_append [] b l i = ap (λ (j : ℕ). sets l j b) (omega arith)
sets_append (x ∷ a) b l i =
    ap (λ (j : ℕ). sets (sets (set l i x) (suc i) a) j b) (omega arith) ∙ sets_append a b (set l i x) (suc i)

-- bytes copied into a part from a place on, where they have room, are stored there
pub copied_stored : (i n : ℕ) (l bs : List ℕ) → length bs ≡ n → i + n ≤ length l → put_mid i (i + n - i) l bs ≡ sets l i bs
copied_stored i n l bs e h =
    let k : i + n - i ≡ length bs = omega (arith, e) in
    ap (λ (m : ℕ). take i l ++ (bs ++ drop m (drop i l))) k
    ∙ ap (λ (t : List ℕ). take i l ++ (bs ++ t)) (drop-drop (length bs) i l)
    ∙ sym (append_assoc (take i l) bs (drop (i + length bs) l))
    ∙ sym (sets-eq bs l i (omega (arith, e, h)))

-- a field of one byte is one store
pub sets_byte : (l : List ℕ) (i n : ℕ) → n < byte_values → set l i n ≡ sets l i (big_endian 1 n)
unfolding big_endian
sets_byte l i n h = rw (div-one n, mod-eq_of_lt h)

-- the library's bytes of a number are the document's, in each width that a field has
pub two_bytes : (n : ℕ) → to_be_bytes w16 n ≡ big_endian 2 n
unfolding big_endian
two_bytes n = rw (div-one n) refl

pub four_bytes : (n : ℕ) → to_be_bytes w32 n ≡ big_endian 4 n
unfolding big_endian
four_bytes n = rw (div-one n) refl

pub eight_bytes : (n : ℕ) → to_be_bytes w64 n ≡ big_endian 8 n
unfolding big_endian
eight_bytes n = rw (div-one n) refl

-- numbers stored in fields of these widths, the first of them at a place
abbrev pub stores : List ℕ → ℕ → List ℕ → List ℕ → List ℕ
stores l i [] vs = l
stores l i (w ∷ ws) [] = l
stores l i (w ∷ ws) (v ∷ vs) = stores (sets l i (big_endian w v)) (i + w) ws vs

fields_stored : (ws vs l : List ℕ) (i : ℕ) → stores l i ws vs ≡ sets l i (field_bytes ws vs)
unfolding field_bytes
fields_stored [] vs l i = refl
fields_stored (w ∷ ws) [] l i = refl
fields_stored (w ∷ ws) (v ∷ vs) l i =
    fields_stored ws vs (sets l i (big_endian w v)) (i + w)
    ∙ ap (λ (n : ℕ). sets (sets l i (big_endian w v)) (i + n) (field_bytes ws vs)) (sym (length_big_endian w v))
    ∙ sets_append (big_endian w v) (field_bytes ws vs) l i

module _ (r : Record) (l : List ℕ) where
  pub no_room : length l < size (kind_of r) → record { answer = Err NoRoom; part = l } ≡ write_to r l
  unfolding write_to write_of
  no_room h = rw (lt-ltb (length l) (length (bytes_of r)) (rw (bytes_size r) h))

  -- the mark and then the fields, stored from the front on, are the bytes of the record
  marked_stored : stores (sets l 0 (mark (kind_of r))) mark_width (widths (kind_of r)) (numbers_of r) ≡ sets l 0 (bytes_of r)
  unfolding bytes_of
  marked_stored =
      let m = mark (kind_of r) in
      let f = field_bytes (widths (kind_of r)) (numbers_of r) in
      fields_stored (widths (kind_of r)) (numbers_of r) (sets l 0 m) mark_width
      ∙ ap (λ (i : ℕ). sets (sets l 0 m) i f) (sym (zero-add (length m) ∙ mark_width_law (kind_of r)))
      ∙ sets_append m f l 0

  pub room : size (kind_of r) ≤ length l
      → record { answer = Ok (size (kind_of r)); part = sets l 0 (bytes_of r) } ≡ write_to r l
  unfolding write_to write_of
  room h =
      let n = length (bytes_of r) in
      rw (le-ltb (length l) n (rw (bytes_size r) h), ← bytes_size r, sets-eq (bytes_of r) l 0 (rw (zero-add, bytes_size r) h), zero-add n)

-- the same where the record is known as s, and its mark as m
pub all_stored : (r s : Record) (m l : List ℕ) → r ≡ s → m ≡ mark (kind_of r)
    → stores (sets l 0 m) mark_width (widths (kind_of s)) (numbers_of s) ≡ sets l 0 (bytes_of r)
all_stored r s m l e h =
    ap (λ (x : List ℕ). stores (sets l 0 x) mark_width (widths (kind_of s)) (numbers_of s)) h
    ∙ rw (← e) (marked_stored r l)
