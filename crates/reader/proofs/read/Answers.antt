-- `reader::read` meets its contract: the reader takes the bytes left, the mark and the fields in the document's order.
-- Assumes nothing.
use native.Mathlib.Omega.{arith}
use mathlib.Core.Path.{sym, ◌∙◌}
use Rattle.tablefile.specs.Layout.{GR, GD, ST, FR}
use mathlib.Core.Path.{◌≡◌}
use mathlib.Core.Bool.{false}
use Prim.Native.Nat.{◌+◌}
use lib.ListN.{get_or}
use Rattle.reader.specs.Reader.{is_mark}
use Rattle.tablefile.specs.Layout.{mark}
use Rattle.reader.proofs.Marks.{none_left, one_left, marked, unknown}
use Rattle.reader.proofs.read.Goals as goal

pub returns-then-bytes-place : goal.returns-then-bytes-place
returns-then-bytes-place c =
    let a = c.args in
    none_left a.bytes.now a.place (omega arith)

pub returns-then-bytes-place-eq1 : goal.returns-then-bytes-place-eq1
returns-then-bytes-place-eq1 c =
    let a = c.args in
    one_left a.bytes.now a.place (omega arith)

pub returns-then-is_marked : goal.returns-then-is_marked
returns-then-is_marked c =
    let a = c.args in
    c.read_frame.ensures ∙ marked a.bytes.now a.place (omega arith) FR (sym c.is_marked.ensures ∙ c.if-is_marked.true)

pub returns-then-is_marked-2 : goal.returns-then-is_marked-2
returns-then-is_marked-2 c =
    let a = c.args in
    c.read_group.ensures ∙ marked a.bytes.now a.place (omega arith) GR (sym c.is_marked-2.ensures ∙ c.if-is_marked-2.true)

pub returns-then-is_marked-3 : goal.returns-then-is_marked-3
returns-then-is_marked-3 c =
    let a = c.args in
    c.read_group_default.ensures ∙ marked a.bytes.now a.place (omega arith) GD (sym c.is_marked-3.ensures ∙ c.if-is_marked-3.true)

pub returns-then-is_marked-4 : goal.returns-then-is_marked-4
returns-then-is_marked-4 c =
    let a = c.args in
    c.read_stream.ensures ∙ marked a.bytes.now a.place (omega arith) ST (sym c.is_marked-4.ensures ∙ c.if-is_marked-4.true)

pub returns : goal.returns
returns c =
    let a = c.args in
    unknown a.bytes.now a.place (omega arith)
    (λ k. elim k as (λ k. is_mark (mark k) (get_or a.bytes.now a.place 0) (get_or a.bytes.now (a.place + 1) 0) ≡ false) [
      | GR ↦ sym c.is_marked-2.ensures ∙ c.if-is_marked-2.false
      | GD ↦ sym c.is_marked-3.ensures ∙ c.if-is_marked-3.false
      | ST ↦ sym c.is_marked-4.ensures ∙ c.if-is_marked-4.false
      | FR ↦ sym c.is_marked.ensures ∙ c.if-is_marked.false
    ])
