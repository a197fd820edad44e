-- What a pick of a run leaves, and how far its numbers reach. Assumes nothing.
use mathlib.Core.Path.{◌≡◌, refl}
use Prim.Native.Nat.{ℕ, ◌+◌}
use native.Mathlib.Omega.{arith}
use lib.ListN.{length}
use Rattle.places.specs.declared.Waiting.{Waiting}
use Rattle.places.specs.declared.Picked.{Picked}
use Rattle.places.specs.declared.Picked.TheVariants.{Leaves, Nothing, Refused}
use Rattle.classes.specs.Calls.{pick_gives}
use Rattle.event.specs.declared.Stop.{Stop}
use Rattle.line.specs.Run.{Input, State, arrived, sent, picked_at}
use Rattle.line.specs.Events.{Takes, stops, arrives, picks, numbers}

-- a pick leaves the tables and the next arrival's place, whatever it finds
sent_keeps : (i : Input) (s : State) (m : ℕ) (w : Waiting) (p : Picked) → ((sent i s m w p).bridge ≡ s.bridge) × ((sent i s m w p).next ≡ s.next)
unfolding sent
sent_keeps i s m w (Leaves c e) = (refl, refl)
sent_keeps i s m w Nothing = (refl, refl)
sent_keeps i s m w (Refused why) = (refl, refl)

pub pick_keeps : (i : Input) (s : State) (m : ℕ) → ((picked_at i s m).bridge ≡ s.bridge) × ((picked_at i s m).next ≡ s.next)
unfolding picked_at
pick_keeps i s m = sent_keeps i s m (pick_gives s.waiting m).waiting (pick_gives s.waiting m).answer

-- the next arrival's place goes up by the frames that are given a number
pub numbers_count : {i : Input} {left : ℕ} {s : State} {k : ℕ} {why : Stop} {s' : State} (t : Takes i left s k why s') → s'.next ≡ s.next + length (numbers t)
unfolding numbers arrived
numbers_count (stops e) = omega arith
numbers_count (arrives e t) = let z = numbers_count t in omega arith
numbers_count {i} {s = s} (picks m e t) = let z = numbers_count t in let y = (pick_keeps i s m.0).1 in omega arith
