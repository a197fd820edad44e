-- `replay_gathering::gather_part` meets its contract: each turn of the loop is a record of the definition. Assumes nothing.
use mathlib.Core.List.{List}
use Prim.Native.Nat.{ℕ, ◌-◌, ◌*◌, ◌<◌}
use lib.ListN.{length}
use Rattle.replay_gathering.proofs.Turns.{Gathers}
use Rattle.replay_gathering.proofs.gather_part.Given as goal

-- what the lent lists are known not to exceed
pub record Short (bytes arrivals ids octets : List ℕ) : Type 0 where
  pub bytes_short : length bytes < 18_446_744_073_709_551_616
  pub arrivals_short : length arrivals * 8 < 18_446_744_073_709_551_616
  pub ids_short : length ids < 18_446_744_073_709_551_616
  pub octets_short : length octets * 2 < 18_446_744_073_709_551_616

abbrev pub invariant-loop-why : goal.invariant-loop-why
invariant-loop-why l = Gathers l.bytes
    (record { at = l.initial.at; records = l.initial.records; count = l.initial.count; bridge = l.initial.bridge; arrivals = l.initial.arrivals; ids = l.initial.ids; octets = l.initial.octets })
    l.answer
    (record { at = l.at; records = l.records; count = l.count; bridge = l.bridge; arrivals = l.arrivals; ids = l.ids; octets = l.octets })
    × Short l.bytes l.initial.arrivals l.initial.ids l.initial.octets

abbrev pub decreases-loop-why : goal.decreases-loop-why
decreases-loop-why l = length l.bytes - l.at
