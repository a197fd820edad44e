-- `writer::size_of` meets its contract: in each arm the record is the arm's.
-- Assumes nothing.
use mathlib.Core.Path.{sym, ap}
use Rattle.tablefile.specs.declared.Record.{Record}
use Rattle.tablefile.specs.Layout.{kind_of, total, size}
use Rattle.writer.proofs.size_of.Goals as goal

pub returns-in-Group : goal.returns-in-Group
unfolding total size
returns-in-Group c = sym (ap (λ (r : Record). size (kind_of r)) c.in-Group.is)

pub returns-in-GroupDefault : goal.returns-in-GroupDefault
unfolding total size
returns-in-GroupDefault c = sym (ap (λ (r : Record). size (kind_of r)) c.in-GroupDefault.is)

pub returns-in-Stream : goal.returns-in-Stream
unfolding total size
returns-in-Stream c = sym (ap (λ (r : Record). size (kind_of r)) c.in-Stream.is)

pub returns-in-Frame : goal.returns-in-Frame
unfolding total size
returns-in-Frame c = sym (ap (λ (r : Record). size (kind_of r)) c.in-Frame.is)
