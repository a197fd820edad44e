-- `places::Waiting::entry_at` meets its contract. Assumes nothing.
use mathlib.Core.Path.{refl}
use Rattle.places.specs.Queue.{entry_at}
use Rattle.places.proofs.Waiting.entry_at.Goals as goal

pub returns : goal.returns
unfolding entry_at
returns c = refl
