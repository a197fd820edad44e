-- Document 01, 'Numbers returned': what is sound, at the bounds themselves and one beyond them.
-- G is a group time, E a bucket empty time: whole ticks, and a remainder in r-ths of a tick.
use Rattle.std.specs.Prelude.{ℕ, ◌≡◌, refl, Bool, true, false, List, [], ◌∷◌, ℤ, pos, negsuc}
use Rattle.quantity.specs.Kinds.{ticks, bits, per_second}
use Rattle.quantity.specs.Ranges.{in_range}
use Rattle.records.specs.ExactTime.{E_first, exactly}
use Rattle.records.specs.Sound.{sound_group, sound_regulator, sound}
use Rattle.records.specs.declared.Group.{Group}
use Rattle.records.specs.declared.Stream.{Stream}
use Rattle.records.specs.declared.Regulator.TheVariants.{Unset, Bucket}

-- a group of class 7 with these, and the largest discard count
abbrev pub group_with : Bool → ℕ → ℕ → ℕ → Group
group_with used residence G last = record { used = used; class = 7; residence = ticks residence; time = ticks G; last = ticks last; discards = 4_294_967_295 }

-- its group time is 5
abbrev pub some_group : Group
some_group = group_with true 224_000 5 1_000

abbrev pub class_eight : Group
class_eight = record { used = true; class = 8; residence = ticks 224_000; time = ticks 5; last = ticks 1_000; discards = 0 }

-- a stream of a group, with a rate and a burst, and E as given
abbrev pub stream_with : ℕ → ℕ → ℕ → ℤ → ℕ → Stream
stream_with group rate burst whole rest = record { group = group; rate = per_second rate; regulator = Bucket (bits burst) (record { ticks = whole; part = rest }) }

-- with rate 9,000,000 and burst 1,344, whose E is first −149,334 ticks and 6,000,000 r-ths of a tick
abbrev pub at : ℤ → ℕ → Bool
at whole rest = sound (stream_with 0 9_000_000 1_344 whole rest) some_group

-- G at its limit, last arrival + M, and one beyond; not set up; class 8; the residence limit and the last arrival at their ends, and one beyond
unfoldable pub of_groups : List Bool
of_groups =
    sound_group (group_with true 224_000 225_000 1_000)
    ∷ sound_group (group_with true 224_000 225_001 1_000)
    ∷ sound_group (group_with false 224_000 5 1_000)
    ∷ sound_group class_eight
    ∷ sound_group (group_with true 10_000_000_000 5 1_000)
    ∷ sound_group (group_with true 10_000_000_001 5 1_000)
    ∷ sound_group (group_with true 0 5 4_000_000_000_000_000_000)
    ∷ sound_group (group_with true 0 5 4_000_000_000_000_000_001)
    ∷ []

-- E as at the start, and an r-th of a tick less; E = G, and an r-th more; the largest remainder, and one more; group 15, rate 1,000 and burst 1, and one beyond each; not set up; in a group that is not set up
unfoldable pub of_streams : List Bool
of_streams =
    at (negsuc 149_333) 6_000_000
    ∷ at (negsuc 149_333) 5_999_999
    ∷ at (pos 5) 0
    ∷ at (pos 5) 1
    ∷ at (pos 0) 8_999_999
    ∷ at (pos 0) 9_000_000
    ∷ sound (stream_with 15 1_000 1 (pos 5) 0) some_group
    ∷ sound (stream_with 16 1_000 1 (pos 5) 0) some_group
    ∷ sound (stream_with 15 999 1 (pos 5) 0) some_group
    ∷ sound (stream_with 15 1_000 0 (pos 5) 0) some_group
    ∷ sound (record { group = 0; rate = per_second 1_000; regulator = Unset }) some_group
    ∷ sound (stream_with 15 1_000 1 (pos 5) 0) (group_with false 224_000 5 1_000)
    ∷ []

pub soundness : of_groups ∷ of_streams ∷ []
    ≡ (true ∷ false ∷ false ∷ false ∷ true ∷ false ∷ true ∷ false ∷ [])
    ∷ (true ∷ false ∷ true ∷ false ∷ true ∷ false ∷ true ∷ false ∷ false ∷ false ∷ false ∷ false ∷ [])
    ∷ []
unfolding of_groups of_streams sound sound_group sound_regulator in_range E_first exactly
soundness = refl
