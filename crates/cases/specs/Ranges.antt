-- Document 01, 'Quantities', and the limits that other sections give: the ends of each range, by the document's numbers.
-- i is an item; least and most are the ends of its range.
use Rattle.std.specs.Prelude.{ℕ, ◌+◌, ◌-◌, ◌≡◌, refl, Bool, true, not, ◌&&◌, ◌||◌, List, [], ◌∷◌, eqb}
use Rattle.quantity.specs.Ranges.{in_range}
use Rattle.quantity.specs.declared.Item.{Item}
use Rattle.quantity.specs.declared.Item.TheVariants.{StreamId, GroupId, Class, Octets, StreamRate, Burst, Residence, Arrival, LineRate, Charge, EntryTime, PickMoment, LineFree, ListPlaces}

-- both ends are in the range, and the numbers beside them are not
unfoldable pub ends : Item → ℕ → ℕ → Bool
ends i least most = in_range i least && in_range i most && not (in_range i (most + 1)) && (eqb least 0 || not (in_range i (least - 1)))

unfoldable pub given : List Bool
given =
    ends StreamId 0 63
    ∷ ends GroupId 0 15
    ∷ ends Class 0 7
    ∷ ends Octets 1 2_000
    ∷ ends StreamRate 1_000 10_000_000_000
    ∷ ends Burst 1 16_000_000
    ∷ ends Residence 0 10_000_000_000
    ∷ ends Arrival 0 4_000_000_000_000_000_000
    ∷ ends LineRate 10_000_000 10_000_000_000
    ∷ ends Charge 168 16_160
    ∷ ends EntryTime 0 5_000_000_000_000_000_000
    ∷ ends PickMoment 0 4_000_000_000_000_000_000
    ∷ ends LineFree 0 5_000_000_000_000_000_000
    ∷ ends ListPlaces 0 65_536
    ∷ []

unfoldable pub expected : List Bool
expected = true ∷ true ∷ true ∷ true ∷ true ∷ true ∷ true ∷ true ∷ true ∷ true ∷ true ∷ true ∷ true ∷ true ∷ []

pub ranges : given ≡ expected
unfolding given expected ends in_range
ranges = refl
