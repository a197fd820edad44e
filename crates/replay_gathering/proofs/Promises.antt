-- What a gathering promises, proved: each theorem has the name of its statement in specs/Promises. Assumes nothing.
use mathlib.Core.Path.{◌≡◌, sym, ap, ◌∙◌}
use mathlib.Core.List.{List, ◌++◌, append_assoc}
use Prim.Native.Nat.{ℕ, ◌≤◌}
use native.Mathlib.Nat.{add-zero}
use native.Mathlib.Omega.{arith}
use lib.ListN.{length, take, drop, take-append-drop}
use lib.Seq.{length-take-le}
use Rattle.replay_gathering.specs.Gathering.{Outcome, gather_from, begun}
use Rattle.replay_gathering.specs.Promises.{OneRecordAtATime, FromAnyPlace, PartsAreOne, EndsForGood, moved, next, after}
use Rattle.replay_gathering.proofs.Turns.{unfolds}
use Rattle.replay_gathering.proofs.Parts.{gather_moved, resumed, continues}

pub one_record_at_a_time : OneRecordAtATime
one_record_at_a_time = unfolds

pub from_any_place : FromAnyPlace
from_any_place bytes n records i s w =
    let long : length (take n bytes) ≡ n = length-take-le n bytes i in
    rw (take-append-drop n bytes, long) at (gather_moved (take n bytes) (drop n bytes) records s w)

pub ends_for_good : EndsForGood
ends_for_good part rest h s i closed = (continues part rest h s i).done closed

-- where a gathering ended is where the next begins, so many bytes and records on
resumed_is : (o : Outcome) → resumed o ≡ moved o.gathered.at o.gathered.records (next o)
unfolding resumed moved next begun
resumed_is o = rw (add-zero o.gathered.at, add-zero o.gathered.records)

begins_at_front : (o : Outcome) (l : List ℕ) → (next o).at ≤ length l
unfolding next begun
begins_at_front o l = omega arith

-- the rest of the whole, from a place in the part on
from_there : (part rest : List ℕ) (n m : ℕ) → n ≤ length part → (o : Outcome)
    → gather_from (part ++ rest) (moved n m (next o)) ≡ after n m (gather_from (drop n part ++ rest) (next o))
from_there part rest n m i o =
    let l = drop n part ++ rest in
    let long : length (take n part) ≡ n = length-take-le n part i in
    let whole : take n part ++ l ≡ part ++ rest =
    sym (append_assoc (take n part) (drop n part) rest) ∙ ap (λ (x : List ℕ). x ++ rest) (take-append-drop n part) in
    rw (whole, long) at (gather_moved (take n part) l m (next o) (begins_at_front o l))

pub parts_are_one : PartsAreOne
parts_are_one part rest h s i w =
    let o = gather_from part s in
    let c = continues part rest h s i in
    c.more w
    ∙ ap (gather_from (part ++ rest)) (resumed_is o)
    ∙ from_there part rest o.gathered.at o.gathered.records c.inside o
