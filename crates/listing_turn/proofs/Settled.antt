-- Laws of what further bytes do not change: two bytes that are no known mark end a listing, whatever follows them. Assumes nothing.
use Rattle.std.proofs.Common.{◌≡◌, ℕ, suc, ◌≤◌, Bool, List, ◌++◌, length, drop, sym, refl, ap, ◌∙◌, subst, arith}
use Rattle.quantity.specs.Numbers.{number_of}
use Rattle.quantity.specs.declared.Refusal.{Refusal}
use Rattle.quantity.specs.declared.Refusal.TheVariants.{CutShort}
use Rattle.quantity.proofs.Refusals.{refusal_number}
use Rattle.tablefile.specs.Answers.{nothing_left, reading_number}
use Rattle.tablefile.specs.BigEndian.{AreBytes}
use Rattle.tablefile.specs.declared.Record.{Record}
use Rattle.tablefile.specs.declared.Reading.{Reading}
use Rattle.tablefile.specs.declared.Reading.TheVariants.{Found, NothingLeft, Refused}
use Rattle.tablefile.proofs.Numbers.{bytes_drop}
use Rattle.intake.proofs.Bytes.{bytes_join}
use Rattle.reader.specs.Reader.{read_left, read_at}
use Rattle.bridge.specs.declared.Bridge.{Bridge}
use Rattle.listing_text.specs.Lines.{ending}
use Rattle.listing_part.specs.Listing.{listing_from}
use Rattle.listing_part.specs.Parts.{Part, may_go_on, going_on, stops_at, part_for, part_of}
use Rattle.listing_part.proofs.Promises.{listing_in_parts, listing_to_its_end, part_reads}
use Rattle.reader.proofs.Further.{refused_for_good}

-- ---- the listing

-- a listing that begins with what is no record: `ListingToItsEnd` with no room for a line
module _ (bytes : List ℕ) (h : AreBytes bytes) (b : Bridge) (n : ℕ) where
  by_reading : (x : Reading) → read_at bytes 0 ≡ x → (t : Bool) → nothing_left ≤ reading_number x → (go : Record → ℕ → Part)
      → going_on x t (stops_at bytes b n 0) go ≡ stops_at bytes b n 0
  unfolding going_on
  by_reading (Found r next) e t k go = absurd (omega arith)
  by_reading NothingLeft e t k go = refl
  by_reading (Refused why) e t k go = refl

  stops_at_once : nothing_left ≤ reading_number (read_at bytes 0) → part_of bytes 0 b n ≡ stops_at bytes b n 0
  unfolding part_of part_for
  stops_at_once k = by_reading (read_at bytes 0) refl (may_go_on n 0) k _

  pub ends_at_once : nothing_left ≤ reading_number (read_at bytes 0) → listing_from b n bytes ≡ ending n (reading_number (read_at bytes 0))
  unfolding stops_at
  ends_at_once k =
      let e = stops_at_once k in
      listing_to_its_end bytes h 0 b n (subst (λ (P : Part). nothing_left ≤ reading_number P.reading) (sym e) k)
      ∙ ap (λ (P : Part). P.text ++ ending P.count (reading_number P.reading)) e

-- a part that was refused, and not because a record is cut short: its lines and what ends the listing are the listing, whatever follows
pub ends_for_good : (part after : List ℕ) → AreBytes part → AreBytes after → (room : ℕ) (b : Bridge) (n : ℕ) (why : Refusal)
    → (part_of part room b n).reading ≡ Refused why → (number_of why ≡ number_of CutShort → ⊥)
    → listing_from b n (part ++ after) ≡ (part_of part room b n).text ++ ending (part_of part room b n).count (number_of why)
unfolding part_of read_at
ends_for_good part after h k room b n why e m =
    let P = part_of part room b n in
    let left = drop P.place part in
    let there : read_left left P.place ≡ Refused why = sym (part_reads (suc (length part)) part room b n 0) ∙ e in
    let here : read_at (left ++ after) 0 ≡ Refused why = refused_for_good why m left after P.place 0 there in
    let number : reading_number (read_at (left ++ after) 0) ≡ number_of why = ap reading_number here in
    listing_in_parts part after h room b n
    ∙ ap (λ (l : List ℕ). P.text ++ l)
    (ends_at_once (left ++ after) (bytes_join left after (bytes_drop P.place part h) k) P.bridge P.count (omega (arith, number, (refusal_number why).0))
    ∙ ap (ending P.count) number)
