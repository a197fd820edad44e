-- Document 01, 'The table file': what is promised of the listing's text beside the contracts.
-- Each statement has a name here, and its proof under the same name in the file Promises of proofs/.
use Rattle.std.specs.Prelude.{ℕ, ◌≤◌, ◌≡◌, List, length}
use Rattle.tablefile.specs.declared.Reading.{Reading}
use Rattle.listing_text.specs.Places.{end_put}

-- what ends a listing stays within the lent bytes, which stay as many
abbrev pub EndWithin : Type 0
EndWithin =
    (l : List ℕ) (at n : ℕ) (x : Reading) → at ≤ length l
    → ((end_put l at n x).next ≤ length l) × (length (end_put l at n x).bytes ≡ length l)
