-- `listing_part::next_step` meets its contract. Assumes nothing.
use mathlib.Core.Path.{sym, ap, ◌∙◌}
use native.Mathlib.Omega.{arith}
use Rattle.listing_part.specs.Steps.{next_step}
use Rattle.tablefile.specs.declared.Reading.{Reading}
use Rattle.listing_part.specs.declared.Step.TheVariants.{Ends}
use Rattle.listing_part.proofs.Stepping.{no_room, no_number, goes}
use Rattle.listing_part.proofs.next_step.Goals as goal

pub returns-then-room-lt-LINE_ROOM : goal.returns-then-room-lt-LINE_ROOM
returns-then-room-lt-LINE_ROOM c = let a = c.args in no_room a.reading _ _ a.count a.room c.in-Found.is (omega arith)

pub returns-then-count-ge-MOST_LINES : goal.returns-then-count-ge-MOST_LINES
returns-then-count-ge-MOST_LINES c = let a = c.args in no_number a.reading _ _ a.count a.room c.in-Found.is (omega arith)

pub returns-else-count-ge-MOST_LINES : goal.returns-else-count-ge-MOST_LINES
returns-else-count-ge-MOST_LINES c = let a = c.args in goes a.reading _ _ a.count a.room c.in-Found.is (omega arith) (omega arith)

pub returns-in-NothingLeft : goal.returns-in-NothingLeft
unfolding next_step
returns-in-NothingLeft c = let a = c.args in ap Ends c.in-NothingLeft.is ∙ sym (ap (λ (x : Reading). next_step x a.count a.room) c.in-NothingLeft.is)

pub returns-in-Refused : goal.returns-in-Refused
unfolding next_step
returns-in-Refused c = let a = c.args in ap Ends c.in-Refused.is ∙ sym (ap (λ (x : Reading). next_step x a.count a.room) c.in-Refused.is)
