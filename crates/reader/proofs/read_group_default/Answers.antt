-- `reader::read_group_default` meets its contract: the length decides, and the fields stand where the layout has them.
-- Assumes nothing.
use Prim.Native.Nat.{◌+◌}
use native.Mathlib.Omega.{arith}
use Rattle.tablefile.proofs.Numbers.{number_one}
use Rattle.tablefile.specs.Layout.{GD, total, size}
use Rattle.reader.proofs.FieldsRead.{cut_short, found}
use Rattle.reader.proofs.read_group_default.Goals as goal

pub returns-then-bytes-place-lt-GROUP_DEFAULT_BYTES : goal.returns-then-bytes-place-lt-GROUP_DEFAULT_BYTES
unfolding total size
returns-then-bytes-place-lt-GROUP_DEFAULT_BYTES c =
    let a = c.args in
    cut_short GD a.bytes.now a.place (omega arith) (omega arith)

pub returns : goal.returns
unfolding total size
returns c =
    let a = c.args in
    rw (
      ← number_one a.bytes.now (a.place + 2) (omega arith),
      ← number_one a.bytes.now (a.place + 3) (omega arith),
    )
    (found GD a.bytes.now a.place (omega arith))
