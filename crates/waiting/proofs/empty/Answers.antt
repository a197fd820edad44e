-- `waiting::empty` meets its contract. Assumes nothing.
use mathlib.Core.Path.{refl}
use Rattle.places.specs.Queue.{nothing}
use Rattle.waiting.proofs.empty.Goals as goal

pub returns : goal.returns
unfolding nothing
returns c = refl
