-- `writer::put` meets its contract. Assumes nothing.
use mathlib.Core.Path.{ap, ◌∙◌}
use mathlib.Core.List.{List}
use Prim.Native.Nat.{ℕ, ◌+◌, ◌-◌}
use borrow.Rule.Slice.PartMut.{put_mid}
use Rattle.writer.proofs.FieldsStored.{copied_stored}
use Rattle.std.proofs.Common.{rules}
use Rattle.writer.proofs.put.Goals as goal

pub returns : goal.returns
returns g c =
    let a = c.args in
    ap (λ (bs : List ℕ). put_mid a.at (a.at + g.row.N - a.at) a.part.now bs) c.copy_from_slice.ensures.after
    ∙ copied_stored a.at g.row.N a.part.now a.field (search rules) c.requires
