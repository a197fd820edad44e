-- `console::read_behind` meets its contract. Assumes nothing.
use Rattle.console.proofs.Answers.{was_read}
use Rattle.console.proofs.read_behind.Goals as goal

pub returns-clause-read : goal.returns-clause-read
returns-clause-read g c = was_read _ _ _ _ _ (rw c.brought.ensures at c.after_reading.ensures) c.read_from-got.ensures.kept
