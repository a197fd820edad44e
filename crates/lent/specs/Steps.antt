-- What the steps of the code give, as facts that their callers use. No sentence of document 01 stands here.
-- places is the length of a lent run, k a stream's id.
use Rattle.std.specs.Prelude.{ℕ, Bool, cond, ◌&&◌, eqb}
use Rattle.quantity.specs.Ranges.{in_range}
use Rattle.quantity.specs.declared.Item.TheVariants.{StreamId}
use Rattle.quantity.specs.declared.Refusal.{Refusal}
use Rattle.quantity.specs.declared.Refusal.TheVariants.{Unsound, NoStream}
use Rattle.lent.specs.InPlace.{run_places}

-- the run has its length, and the stream a place in it
unfoldable pub ready : ℕ → ℕ → Bool
ready places k = eqb places run_places && in_range StreamId k

-- why not, where it is not so
unfoldable pub unreadiness : ℕ → Refusal
unreadiness places = cond (eqb places run_places) NoStream Unsound
