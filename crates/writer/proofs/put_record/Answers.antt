-- `writer::put_record` meets its contract: the mark and the fields are stored where the layout has them.
-- Assumes nothing.
use mathlib.Core.Path.{ap, ◌∙◌}
use native.Mathlib.Omega.{arith}
use Rattle.tablefile.specs.declared.Record.{Record}
use Rattle.tablefile.specs.Layout.{kind_of, total, size}
use Rattle.writer.proofs.FieldsStored.{sets_byte, two_bytes, four_bytes, eight_bytes, all_stored}
use Rattle.writer.proofs.put_record.Goals as goal

pub put-requires : goal.put-requires
unfolding size
put-requires c = omega arith

pub put-requires-in-Group : goal.put-requires-in-Group
unfolding total size
put-requires-in-Group c = omega (arith, ap (λ (r : Record). size (kind_of r)) c.in-Group.is)

pub put-requires-in-Group-2 : goal.put-requires-in-Group-2
unfolding total size
put-requires-in-Group-2 c = omega (arith, ap (λ (r : Record). size (kind_of r)) c.in-Group.is)

pub put-requires-in-Group-3 : goal.put-requires-in-Group-3
unfolding total size
put-requires-in-Group-3 c = omega (arith, ap (λ (r : Record). size (kind_of r)) c.in-Group.is)

pub put-requires-in-GroupDefault : goal.put-requires-in-GroupDefault
unfolding total size
put-requires-in-GroupDefault c = omega (arith, ap (λ (r : Record). size (kind_of r)) c.in-GroupDefault.is)

pub put-requires-in-GroupDefault-2 : goal.put-requires-in-GroupDefault-2
unfolding total size
put-requires-in-GroupDefault-2 c = omega (arith, ap (λ (r : Record). size (kind_of r)) c.in-GroupDefault.is)

pub put-requires-in-Stream : goal.put-requires-in-Stream
unfolding total size
put-requires-in-Stream c = omega (arith, ap (λ (r : Record). size (kind_of r)) c.in-Stream.is)

pub put-requires-in-Stream-2 : goal.put-requires-in-Stream-2
unfolding total size
put-requires-in-Stream-2 c = omega (arith, ap (λ (r : Record). size (kind_of r)) c.in-Stream.is)

pub put-requires-in-Stream-3 : goal.put-requires-in-Stream-3
unfolding total size
put-requires-in-Stream-3 c = omega (arith, ap (λ (r : Record). size (kind_of r)) c.in-Stream.is)

pub put-requires-in-Stream-4 : goal.put-requires-in-Stream-4
unfolding total size
put-requires-in-Stream-4 c = omega (arith, ap (λ (r : Record). size (kind_of r)) c.in-Stream.is)

pub put-requires-in-Frame : goal.put-requires-in-Frame
unfolding total size
put-requires-in-Frame c = omega (arith, ap (λ (r : Record). size (kind_of r)) c.in-Frame.is)

pub put-requires-in-Frame-2 : goal.put-requires-in-Frame-2
unfolding total size
put-requires-in-Frame-2 c = omega (arith, ap (λ (r : Record). size (kind_of r)) c.in-Frame.is)

pub put-requires-in-Frame-3 : goal.put-requires-in-Frame-3
unfolding total size
put-requires-in-Frame-3 c = omega (arith, ap (λ (r : Record). size (kind_of r)) c.in-Frame.is)

pub returns-in-Group : goal.returns-in-Group
returns-in-Group c =
    let a = c.args in
    rw (
      c.put-in-Group-3.ensures,
      c.to_be_bytes.ensures ∙ eight_bytes _,
      c.put-in-Group-2.ensures,
      sets_byte _ 3 c.in-Group.class (omega arith),
      c.put-in-Group.ensures,
      sets_byte _ 2 c.in-Group.group (omega arith),
      c.put.ensures,
    )
    (all_stored a.given _ _ a.part.now
    c.in-Group.is
    c.letters.ensures)

pub returns-in-GroupDefault : goal.returns-in-GroupDefault
returns-in-GroupDefault c =
    let a = c.args in
    rw (
      c.put-in-GroupDefault-2.ensures,
      sets_byte _ 3 c.in-GroupDefault.class (omega arith),
      c.put-in-GroupDefault.ensures,
      sets_byte _ 2 c.in-GroupDefault.group (omega arith),
      c.put.ensures,
    )
    (all_stored a.given _ _ a.part.now
    c.in-GroupDefault.is
    c.letters.ensures)

pub returns-in-Stream : goal.returns-in-Stream
returns-in-Stream c =
    let a = c.args in
    rw (
      c.put-in-Stream-4.ensures,
      c.to_be_bytes-in-Stream-2.ensures ∙ four_bytes _,
      c.put-in-Stream-3.ensures,
      c.to_be_bytes-in-Stream.ensures ∙ eight_bytes _,
      c.put-in-Stream-2.ensures,
      sets_byte _ 3 c.in-Stream.group (omega arith),
      c.put-in-Stream.ensures,
      sets_byte _ 2 c.in-Stream.stream (omega arith),
      c.put.ensures,
    )
    (all_stored a.given _ _ a.part.now
    c.in-Stream.is
    c.letters.ensures)

pub returns-in-Frame : goal.returns-in-Frame
returns-in-Frame c =
    let a = c.args in
    rw (
      c.put-in-Frame-3.ensures,
      c.to_be_bytes-in-Frame-2.ensures ∙ eight_bytes _,
      c.put-in-Frame-2.ensures,
      c.to_be_bytes-in-Frame.ensures ∙ two_bytes _,
      c.put-in-Frame.ensures,
      sets_byte _ 2 c.in-Frame.stream (omega arith),
      c.put.ensures,
    )
    (all_stored a.given _ _ a.part.now
    c.in-Frame.is
    c.letters.ensures)
