-- Laws of the places of the three lists: a frame has one where the smallest of them has. Assumes nothing.
use mathlib.Core.Path.{◌≡◌, refl, sym, ap, ◌∙◌}
use mathlib.Core.Bool.{Bool, true, false, ◌&&◌}
use mathlib.Core.List.{List, [], ◌∷◌, ◌++◌}
use Prim.Native.Nat.{ℕ, ◌+◌, ◌<◌, min}
use native.Mathlib.Numerals.{add-one}
use native.Mathlib.Omega.{arith}
use borrow.Author.Tests.{ltb-true, ltb-false, lt-ltb, le-ltb}
use lib.Dec.{ltb}
use lib.ListN.{length, take, set, length-take}
use lib.Seq.{take-suc-set}
use Rattle.replay_gathering.specs.Gathering.{State, has_room, room_in}
use Rattle.replay_gathering.proofs.Turns.{Room}

-- the places of the smallest
abbrev pub fewest : State → ℕ
fewest s = min (length s.arrivals) (min (length s.ids) (length s.octets))

room_is : (n a b c : ℕ) → has_room n a b c ≡ ltb n (min a (min b c))
unfolding has_room
room_is n a b c = by (ltb n a) (ltb n b) (ltb n c) refl refl refl
  where
    by : (x y z : Bool) → ltb n a ≡ x → ltb n b ≡ y → ltb n c ≡ z → x && (y && z) ≡ ltb n (min a (min b c))
    by true true true p q r = sym (lt-ltb n (min a (min b c)) (omega (arith, ltb-true n a p, ltb-true n b q, ltb-true n c r)))
    by true true false p q r = sym (le-ltb n (min a (min b c)) (omega (arith, ltb-false n c r)))
    by true false z p q r = sym (le-ltb n (min a (min b c)) (omega (arith, ltb-false n b q)))
    by false y z p q r = sym (le-ltb n (min a (min b c)) (omega (arith, ltb-false n a p)))

room_by : (s : State) → room_in s ≡ ltb s.count (fewest s)
unfolding room_in
room_by s = room_is s.count (length s.arrivals) (length s.ids) (length s.octets)

pub roomy : (s : State) → room_in s ≡ true → Room s
roomy s e =
    let h = ltb-true s.count (fewest s) (sym (room_by s) ∙ e) in
    record { arrivals = omega arith; ids = omega arith; octets = omega arith }

-- the frames that stand in the lists leave a place just where the lists have one
pub place_left : (s : State) → ltb (length (take s.count s.arrivals)) (fewest s) ≡ room_in s
place_left s = go (room_in s) (sym (room_by s))
  where
    go : (t : Bool) → ltb s.count (fewest s) ≡ t → ltb (length (take s.count s.arrivals)) (fewest s) ≡ t
    go true e = lt-ltb (length (take s.count s.arrivals)) (fewest s) (omega (arith, ltb-true s.count (fewest s) e, length-take s.count s.arrivals))
    go false e = le-ltb (length (take s.count s.arrivals)) (fewest s) (omega (arith, ltb-false s.count (fewest s) e, length-take s.count s.arrivals))

-- one more behind those that are taken
pub one_behind : (l : List ℕ) (n v : ℕ) → n < length l → take (n + 1) (set l n v) ≡ take n l ++ (v ∷ [])
one_behind l n v h = ap (λ (k : ℕ). take k (set l n v)) (add-one n) ∙ take-suc-set l n v h
