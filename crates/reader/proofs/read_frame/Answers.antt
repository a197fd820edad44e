-- `reader::read_frame` meets its contract: the length decides, and the fields stand where the layout has them.
-- Assumes nothing.
use mathlib.Core.Path.{ap, ◌∙◌}
use Prim.Native.Nat.{◌+◌}
use native.Mathlib.Omega.{arith}
use Rattle.std.proofs.Common.{w64}
use Rattle.std.specs.Int.{from_be_bytes}
use Rattle.tablefile.proofs.Numbers.{number_one}
use Rattle.tablefile.specs.Layout.{FR, total, size}
use Rattle.reader.proofs.FieldsRead.{cut_short, found, two_at, in_eight}
use Rattle.reader.proofs.read_frame.Goals as goal

pub returns-then-bytes-place-lt-FRAME_BYTES : goal.returns-then-bytes-place-lt-FRAME_BYTES
unfolding total size
returns-then-bytes-place-lt-FRAME_BYTES c =
    let a = c.args in
    cut_short FR a.bytes.now a.place (omega arith) (omega arith)

pub returns : goal.returns
unfolding total size
returns c =
    let a = c.args in
    rw (
      ← number_one a.bytes.now (a.place + 2) (omega arith),
      c.from_be_bytes.ensures ∙ two_at a.bytes.now (a.place + 3) (a.place + 4) (omega arith) (omega arith),
      c.from_be_bytes-2.ensures ∙ ap (λ bs. from_be_bytes w64 bs) c.field.ensures ∙ in_eight a.bytes.now (a.place + 5) (omega arith),
    )
    (found FR a.bytes.now a.place (omega arith))
