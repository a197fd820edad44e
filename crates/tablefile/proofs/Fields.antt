-- Laws of a mark and the fields after it: how many bytes they have. Assumes nothing.
use mathlib.Core.Path.{◌≡◌, refl, ◌∙◌}
use mathlib.Core.List.{List, [], ◌∷◌}
use Prim.Native.Nat.{ℕ}
use native.Mathlib.Omega.{arith}
use lib.ListN.{length, get_or, length-append}
use Rattle.tablefile.specs.declared.Record.{Record}
use Rattle.tablefile.specs.declared.Record.TheVariants.{Group, GroupDefault, Stream, Frame}
use Rattle.tablefile.specs.BigEndian.{big_endian}
use Rattle.tablefile.specs.Layout.{Kind, GR, GD, ST, FR, mark_width, mark, widths, kind_of, numbers_of, total, field_bytes, bytes_of, size}
use Rattle.tablefile.proofs.Numbers.{length_big_endian}

-- two bytes that are the mark of a kind
pub mark_is : (k : Kind) → get_or (mark k) 0 0 ∷ get_or (mark k) 1 0 ∷ [] ≡ mark k
mark_is GR = refl
mark_is GD = refl
mark_is ST = refl
mark_is FR = refl

pub mark_width_law : (k : Kind) → length (mark k) ≡ mark_width
mark_width_law GR = refl
mark_width_law GD = refl
mark_width_law ST = refl
mark_width_law FR = refl

fields_width : (ws vs : List ℕ) → length ws ≡ length vs → length (field_bytes ws vs) ≡ total ws
unfolding field_bytes total
fields_width [] vs e = refl
fields_width (w ∷ ws) [] e = absurd (omega arith)
fields_width (w ∷ ws) (v ∷ vs) e =
    length-append (big_endian w v) (field_bytes ws vs) ∙ rw (length_big_endian w v, fields_width ws vs (omega arith))

field_count : (r : Record) → length (widths (kind_of r)) ≡ length (numbers_of r)
field_count (Group group class residence) = refl
field_count (GroupDefault group class) = refl
field_count (Stream stream group rate burst) = refl
field_count (Frame stream octets arrival) = refl

pub fields_size : (r : Record) → length (field_bytes (widths (kind_of r)) (numbers_of r)) ≡ total (widths (kind_of r))
fields_size r = fields_width (widths (kind_of r)) (numbers_of r) (field_count r)

pub bytes_size : (r : Record) → length (bytes_of r) ≡ size (kind_of r)
unfolding bytes_of size
bytes_size r =
    length-append (mark (kind_of r)) (field_bytes (widths (kind_of r)) (numbers_of r)) ∙ rw (mark_width_law (kind_of r), fields_size r)
