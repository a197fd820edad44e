-- Document 01, 'Quantities': the ranges, both ends included; and the limits that other sections give.
-- An item is a row of the table; n is a number that is to be in its range.
use Rattle.std.specs.Prelude.{ℕ, Bool, cond, ◌&&◌, leb}
use Rattle.quantity.specs.declared.Item.{Item}
use Rattle.quantity.specs.declared.Item.TheVariants.{StreamId, GroupId, Class, Octets, StreamRate, Burst, Residence, Arrival, LineRate, Charge, EntryTime, PickMoment, LineFree, ListPlaces}

-- where the range begins
abbrev pub least_of : Item → ℕ
least_of StreamId = 0
least_of GroupId = 0
least_of Class = 0
least_of Octets = 1
least_of StreamRate = 1_000
least_of Burst = 1
least_of Residence = 0
least_of Arrival = 0
least_of LineRate = 10_000_000
least_of Charge = 168
least_of EntryTime = 0
least_of PickMoment = 0
least_of LineFree = 0
least_of ListPlaces = 0

-- where the range ends
abbrev pub most_of : Item → ℕ
most_of StreamId = 63
most_of GroupId = 15
most_of Class = 7
most_of Octets = 2_000
most_of StreamRate = 10_000_000_000
most_of Burst = 16_000_000
most_of Residence = 10_000_000_000
most_of Arrival = 4_000_000_000_000_000_000
most_of LineRate = 10_000_000_000
most_of Charge = 16_160
most_of EntryTime = 5_000_000_000_000_000_000
most_of PickMoment = 4_000_000_000_000_000_000
most_of LineFree = 5_000_000_000_000_000_000
most_of ListPlaces = 65_536

-- n is within the range of the item
unfoldable pub in_range : Item → ℕ → Bool
in_range i n = leb (least_of i) n && leb n (most_of i)

-- where a table is looked at for an id: at its place, or at place 0 for an id out of range
unfoldable pub place_of : Item → ℕ → ℕ
place_of i n = cond (in_range i n) n 0
