-- `line::start_of` meets its contract. Assumes nothing.
use Rattle.quantity.proofs.Booleans.{refuted, confirmed}
use Rattle.line.specs.Run.{start_of}
use Rattle.line.proofs.start_of.Goals as goal

pub returns-then-not-lists : goal.returns-then-not-lists
unfolding start_of
returns-then-not-lists c = simp c.if-not-lists.true

pub returns-then-not-line : goal.returns-then-not-line
unfolding start_of
returns-then-not-line c = simp (c.if-not-lists.false, c.if-not-line.true)

pub returns-then-not-all_sound : goal.returns-then-not-all_sound
unfolding start_of
returns-then-not-all_sound c = simp (c.if-not-lists.false, c.if-not-line.false, refuted c.all_sound.ensures c.if-not-all_sound.true)

pub returns : goal.returns
unfolding start_of
returns c = simp (c.if-not-lists.false, c.if-not-line.false, confirmed c.all_sound.ensures c.if-not-all_sound.false)
