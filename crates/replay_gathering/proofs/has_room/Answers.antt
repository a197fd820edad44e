-- `replay_gathering::has_room` meets its contract. Assumes nothing.
use native.Mathlib.Omega.{arith}
use Rattle.replay_gathering.proofs.Turns.{full_arrivals, full_ids, by_octets}
use Rattle.replay_gathering.proofs.has_room.Goals as goal

pub returns-then-count-arrivals : goal.returns-then-count-arrivals
returns-then-count-arrivals c = let a = c.args in full_arrivals a.count a.arrivals a.ids a.octets (omega arith)

pub returns-then-count-ids : goal.returns-then-count-ids
returns-then-count-ids c = let a = c.args in full_ids a.count a.arrivals a.ids a.octets (omega arith) (omega arith)

pub returns : goal.returns
returns c = let a = c.args in by_octets a.count a.arrivals a.ids a.octets (omega arith) (omega arith)
