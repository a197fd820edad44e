-- Document 01, 'The table file': what is promised of the listing beside the contracts.
-- Each statement has a name here, and its proof under the same name in the file Promises of proofs/.
use Rattle.std.specs.Prelude.{ℕ, ◌-◌, ◌≤◌, ◌≡◌, ◌⊎◌, false, List, [], ◌∷◌, ◌++◌, length, drop}
use Rattle.quantity.specs.Numbers.{least_refusal}
use Rattle.tablefile.specs.BigEndian.{AreBytes}
use Rattle.tablefile.specs.Layout.{FR, kind_of}
use Rattle.tablefile.specs.Answers.{nothing_left, reading_number}
use Rattle.tablefile.specs.Meaning.{default_residence, in_full}
use Rattle.tablefile.specs.declared.Record.{Record}
use Rattle.bridge.specs.History.{reply, Reply}
use Rattle.bridge.specs.declared.Bridge.{Bridge}
use Rattle.listing_text.specs.Lines.{ending}
use Rattle.listing_part.specs.Records.{call_of}
use Rattle.listing_part.specs.Listing.{listing_from}
use Rattle.listing_part.specs.Parts.{may_go_on, part_of}

-- a GD record does what the GR does that it stands for
abbrev pub DefaultAsInFull : Type 0
DefaultAsInFull = (r : Record) → call_of (in_full default_residence r) ≡ call_of r

-- a file cut anywhere: the lines of the part, then the listing of what is left of it with what follows, from the tables and the count that were reached, are the listing of the whole
abbrev pub ListingInParts : Type 0
ListingInParts =
    (part after : List ℕ) → AreBytes part → (room : ℕ) (b : Bridge) (n : ℕ)
    → listing_from b n (part ++ after)
    ≡ (part_of part room b n).text
    ++ listing_from (part_of part room b n).bridge (part_of part room b n).count (drop (part_of part room b n).place part ++ after)

-- where a part is the whole of what is left and the reader stopped it, with 5, 24 or 25, its lines and what ends the listing are the listing
abbrev pub ListingToItsEnd : Type 0
ListingToItsEnd =
    (bytes : List ℕ) → AreBytes bytes → (room : ℕ) (b : Bridge) (n : ℕ) → nothing_left ≤ reading_number (part_of bytes room b n).reading
    → listing_from b n bytes ≡ (part_of bytes room b n).text ++ ending (part_of bytes room b n).count (reading_number (part_of bytes room b n).reading)

-- it goes as far as it may: where it stops, the reader gave no record, or a longest line has no room or no number
abbrev pub AsFarAsItMay : Type 0
AsFarAsItMay =
    (bytes : List ℕ) (room : ℕ) (b : Bridge) (n : ℕ)
    → (nothing_left ≤ reading_number (part_of bytes room b n).reading)
    ⊎ (may_go_on (part_of bytes room b n).count (room - length (part_of bytes room b n).text) ≡ false)

-- what the last column shows of a record that is answered so: T of a frame with 0 or 1; nothing of a set-up, nor with a number from 9 up
pub data Shows (r : Record) (a : Reply) : Type 0 where
  time : (T : ℕ) → kind_of r ≡ FR → a.number ≤ 1 → a.values ≡ T ∷ [] → Shows r a
  set_up : (kind_of r ≡ FR → ⊥) → a.values ≡ [] → Shows r a
  refused : least_refusal ≤ a.number → a.values ≡ [] → Shows r a

abbrev pub TimeOfJudgedFrames : Type 0
TimeOfJudgedFrames = (b : Bridge) (r : Record) → Shows r (reply b (call_of r))

-- a part stops within its bytes, and its lines are within the room
abbrev pub PartWithin : Type 0
PartWithin =
    (bytes : List ℕ) (room : ℕ) (b : Bridge) (n : ℕ)
    → ((part_of bytes room b n).place ≤ length bytes) × (length (part_of bytes room b n).text ≤ room)
