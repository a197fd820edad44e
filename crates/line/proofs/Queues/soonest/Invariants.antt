-- `line::Queues::soonest` meets its contract: what was looked at gives the smallest so far. Assumes nothing.
use mathlib.Core.Path.{◌≡◌}
use Rattle.line.proofs.Searches.{soon_below}
use Rattle.line.proofs.Queues.soonest.Given as goal

abbrev pub invariant-loop-first : goal.invariant-loop-first
invariant-loop-first l = l.soon ≡ soon_below l.self.firsts l.first-index
