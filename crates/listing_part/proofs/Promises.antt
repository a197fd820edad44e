-- The promises of the listing, proved: each theorem has the name of its statement in specs/Promises. Assumes nothing.
use mathlib.Core.Path.{◌≡◌, refl, sym, ap, ◌∙◌}
use mathlib.Core.Logic.{◌⊎◌, inl, inr}
use mathlib.Core.Bool.{Bool, true, false}
use mathlib.Core.List.{List, [], ◌++◌, append_assoc, append-nil}
use Prim.Native.Nat.{ℕ, zero, suc, ◌+◌, ◌-◌, ◌≤◌, ◌<◌}
use native.Mathlib.Nat.{sub-zero, add-zero}
use native.Mathlib.Omega.{arith}
use lib.ListN.{length, take, drop, length-append, take-append-drop}
use lib.Seq.{length-take-le}
use Rattle.quantity.specs.declared.Ticks.{Ticks}
use Rattle.quantity.specs.declared.Refusal.{Refusal}
use Rattle.tablefile.specs.BigEndian.{AreBytes}
use Rattle.tablefile.specs.Layout.{Kind, GR, GD, ST, FR}
use Rattle.reader.specs.Reader.{read_at}
use Rattle.tablefile.specs.Answers.{nothing_left, reading_number}
use Rattle.reader.specs.File.{onwards, contents_from}
use Rattle.tablefile.specs.declared.Record.{Record}
use Rattle.tablefile.specs.declared.Record.TheVariants as made
use Rattle.tablefile.specs.declared.Reading.{Reading}
use Rattle.tablefile.specs.declared.Reading.TheVariants.{Found, NothingLeft, Refused}
use Rattle.reader.proofs.Marks.{none_left}
use Rattle.reader.proofs.RoundTrip.{one_at_a_time}
use Rattle.records.specs.Numbers.{answer_number, answer_values}
use Rattle.records.specs.declared.Answer.{Answer}
use Rattle.records.specs.declared.Answer.TheVariants as answer
use Rattle.bridge.specs.Calls.{frame_called}
use Rattle.bridge.specs.History.{reply, after_call}
use Rattle.bridge.specs.declared.Bridge.{Bridge}
use Rattle.listing_text.specs.Lines.{ending}
use Rattle.listing_text.specs.Places.{line_room}
use Rattle.quantity.proofs.Refusals.{refusal_number}
use Rattle.listing_part.specs.Records.{call_of, record_line}
use Rattle.listing_part.specs.Listing.{record_lines, listing_of, listing_from}
use Rattle.listing_part.specs.Parts.{Part, onto, may_go_on, going_on, stops_at, part_for, part_of}
use Rattle.listing_part.specs.Promises.{DefaultAsInFull, AsFarAsItMay, TimeOfJudgedFrames, ListingInParts, ListingToItsEnd, PartWithin, Shows, time, set_up, refused}
use Rattle.listing_part.proofs.Stepping.{may_means}
use Rattle.reader.proofs.Further.{moved, moved_at, found_further, found_there}
use Rattle.listing_part.proofs.Underway.{line_within}

pub default_as_in_full : DefaultAsInFull
unfolding call_of
default_as_in_full (made.Group i c M) = refl
default_as_in_full (made.GroupDefault i c) = refl
default_as_in_full (made.Stream i k r u) = refl
default_as_in_full (made.Frame i n A) = refl

-- ---- the listing from a place on

listing_at : Bridge → ℕ → List ℕ → ℕ → List ℕ
listing_at b n bytes p = listing_of b n (contents_from bytes p)

-- a record has its line, and the rest is listed behind it
record_first : (b : Bridge) (n : ℕ) (bytes : List ℕ) (p : ℕ) (r : Record) (next : ℕ) → read_at bytes p ≡ Found r next
    → listing_at b n bytes p ≡ record_line b n r ++ listing_at (after_call b (call_of r)) (n + 1) bytes next
unfolding listing_at listing_of record_lines onwards
record_first b n bytes p r next e =
    let c = contents_from bytes next in
    let count : n + suc (length c.records) ≡ n + 1 + length c.records = omega arith in
    ap (listing_of b n) (one_at_a_time bytes p ∙ ap (λ (x : Reading). onwards x p (contents_from bytes)) e)
    ∙ ap (λ (k : ℕ). (record_line b n r ++ record_lines (after_call b (call_of r)) (n + 1) c.records) ++ ending k c.ended) count
    ∙ append_assoc (record_line b n r) (record_lines (after_call b (call_of r)) (n + 1) c.records) (ending (n + 1 + length c.records) c.ended)

-- what is no record ends it
pub data NoRecord : Reading → Type 0 where
  nothing_there : NoRecord NothingLeft
  refused_there : (why : Refusal) → NoRecord (Refused why)

no_record_ends : (b : Bridge) (n : ℕ) (bytes : List ℕ) (p : ℕ) {x : Reading} → NoRecord x → read_at bytes p ≡ x → listing_at b n bytes p ≡ ending n (reading_number x)
unfolding listing_at listing_of record_lines onwards
no_record_ends b n bytes p nothing_there e =
    ap (listing_of b n) (one_at_a_time bytes p ∙ ap (λ (y : Reading). onwards y p (contents_from bytes)) e) ∙ ap (λ (k : ℕ). ending k (reading_number NothingLeft)) (add-zero n)
no_record_ends b n bytes p (refused_there why) e =
    ap (listing_of b n) (one_at_a_time bytes p ∙ ap (λ (y : Reading). onwards y p (contents_from bytes)) e) ∙ ap (λ (k : ℕ). ending k (reading_number (Refused why))) (add-zero n)

-- what stands before the place does not matter
module _ (before bytes : List ℕ) where
  Without : Bridge → ℕ → ℕ → Type 0
  Without b n p = listing_at b n (before ++ bytes) (length before + p) ≡ listing_at b n bytes p

  by_reading : (b : Bridge) (n p : ℕ) (x : Reading) → read_at bytes p ≡ x
      → ((r : Record) (next : ℕ) → (p < next) × (next ≤ length bytes) → Without (after_call b (call_of r)) (n + 1) next) → Without b n p
  unfolding moved Without
  by_reading b n p (Found r next) e ih =
      record_first b n (before ++ bytes) (length before + p) r (length before + next) (moved_at before bytes p ∙ ap (moved (length before)) e)
      ∙ ap (λ (l : List ℕ). record_line b n r ++ l) (ih r next (found_further bytes p r next e))
      ∙ sym (record_first b n bytes p r next e)
  by_reading b n p NothingLeft e ih =
      no_record_ends b n (before ++ bytes) (length before + p) nothing_there (moved_at before bytes p ∙ ap (moved (length before)) e)
      ∙ sym (no_record_ends b n bytes p nothing_there e)
  by_reading b n p (Refused why) e ih =
      no_record_ends b n (before ++ bytes) (length before + p) (refused_there why) (moved_at before bytes p ∙ ap (moved (length before)) e)
      ∙ sym (no_record_ends b n bytes p (refused_there why) e)

  by_count : (m : ℕ) (b : Bridge) (n p : ℕ) → length bytes < p + m → Without b n p
  by_count zero b n p h = by_reading b n p (read_at bytes p) refl (λ r next w. absurd (omega arith))
  by_count (suc m) b n p h = by_reading b n p (read_at bytes p) refl (λ r next w. by_count m (after_call b (call_of r)) (n + 1) next (omega arith))

  without_before : (b : Bridge) (n p : ℕ) → listing_at b n (before ++ bytes) (length before + p) ≡ listing_at b n bytes p
  unfolding Without
  without_before b n p = by_count (suc (length bytes)) b n p (omega arith)

-- ---- in parts

module _ (part after : List ℕ) (h : AreBytes part) where
  -- the listing of the whole from a place on
  rest : Bridge → ℕ → ℕ → List ℕ
  rest b n p = listing_at b n (part ++ after) p

  turn : (b : Bridge) (n p : ℕ) (x : Reading) (t : Bool) → read_at part p ≡ x → (go : Record → ℕ → Part)
      → ((r : Record) (next : ℕ) → rest (after_call b (call_of r)) (n + 1) next ≡ (go r next).text ++ rest (go r next).bridge (go r next).count (go r next).place)
      → let P = going_on x t (stops_at part b n p) (λ r next. onto (record_line b n r) (go r next)) in
      rest b n p ≡ P.text ++ rest P.bridge P.count P.place
  unfolding going_on stops_at onto rest
  turn b n p (Found r next) true e go ih =
      record_first b n (part ++ after) p r next (found_there part after h p r next e)
      ∙ ap (λ (l : List ℕ). record_line b n r ++ l) (ih r next)
      ∙ sym (append_assoc (record_line b n r) (go r next).text (rest (go r next).bridge (go r next).count (go r next).place))
  turn b n p (Found r next) false e go ih = refl
  turn b n p NothingLeft t e go ih = refl
  turn b n p (Refused why) t e go ih = refl

  parts : (more room : ℕ) (b : Bridge) (n p : ℕ)
      → let P = part_for more part room b n p in rest b n p ≡ P.text ++ rest P.bridge P.count P.place
  unfolding part_for stops_at
  parts zero room b n p = refl
  parts (suc more) room b n p =
      turn b n p (read_at part p) (may_go_on n room) refl
      (λ r next. part_for more part (room - length (record_line b n r)) (after_call b (call_of r)) (n + 1) next)
      (λ r next. parts more (room - length (record_line b n r)) (after_call b (call_of r)) (n + 1) next)

-- ---- within

module _ (bytes : List ℕ) where
  Within : ℕ → Part → Type 0
  Within room x = (x.place ≤ length bytes) × (length x.text ≤ room)

  stays_within : (b : Bridge) (n p room : ℕ) (x : Reading) (t : Bool) → read_at bytes p ≡ x → p ≤ length bytes → (t ≡ true → line_room ≤ room) → (go : Record → ℕ → Part)
      → ((r : Record) (next : ℕ) → next ≤ length bytes → Within (room - length (record_line b n r)) (go r next))
      → Within room (going_on x t (stops_at bytes b n p) (λ r next. onto (record_line b n r) (go r next)))
  unfolding going_on stops_at onto Within
  stays_within b n p room (Found r next) true e i fits go ih =
      let w = ih r next (found_further bytes p r next e).1 in
      (w.0, omega (arith, w.1, length-append (record_line b n r) (go r next).text, fits refl, line_within b n r))
  stays_within b n p room (Found r next) false e i fits go ih = (i, omega arith)
  stays_within b n p room NothingLeft t e i fits go ih = (i, omega arith)
  stays_within b n p room (Refused why) t e i fits go ih = (i, omega arith)

  within : (more room : ℕ) (b : Bridge) (n p : ℕ) → p ≤ length bytes → Within room (part_for more bytes room b n p)
  unfolding part_for stops_at Within
  within zero room b n p i = (i, omega arith)
  within (suc more) room b n p i =
      stays_within b n p room (read_at bytes p) (may_go_on n room) refl i (λ t. (may_means n room t).0)
      (λ r next. part_for more bytes (room - length (record_line b n r)) (after_call b (call_of r)) (n + 1) next)
      (λ r next j. within more (room - length (record_line b n r)) (after_call b (call_of r)) (n + 1) next j)

pub part_within : PartWithin
unfolding part_of Within
part_within bytes room b n = within bytes (suc (length bytes)) room b n 0 (omega arith)

-- ---- the promises

pub listing_in_parts : ListingInParts
unfolding part_of rest listing_at
listing_in_parts part after h room b n =
    let P = part_of part room b n in
    let front = take P.place part in
    let back = drop P.place part ++ after in
    let long : length front ≡ P.place = length-take-le P.place part (part_within part room b n).0 in
    let cut : part ++ after ≡ front ++ back =
    ap (λ (l : List ℕ). l ++ after) (sym (take-append-drop P.place part)) ∙ append_assoc front (drop P.place part) after in
    let here : P.place ≡ length front + 0 = omega arith in
    parts part after h (suc (length part)) room b n 0
    ∙ ap (λ (l : List ℕ). P.text ++ l)
    (ap (λ (l : List ℕ). listing_at P.bridge P.count l P.place) cut
    ∙ ap (listing_at P.bridge P.count (front ++ back)) here
    ∙ without_before front back P.bridge P.count 0)

-- where a part stops, its reading is what the reader gives there
reads_there : (bytes : List ℕ) (b : Bridge) (n p : ℕ) (x : Reading) (t : Bool) (go : Record → ℕ → Part)
    → ((r : Record) (next : ℕ) → (go r next).reading ≡ read_at bytes (go r next).place)
    → let P = going_on x t (stops_at bytes b n p) (λ r next. onto (record_line b n r) (go r next)) in P.reading ≡ read_at bytes P.place
unfolding going_on stops_at onto
reads_there bytes b n p (Found r next) true go ih = ih r next
reads_there bytes b n p (Found r next) false go ih = refl
reads_there bytes b n p NothingLeft t go ih = refl
reads_there bytes b n p (Refused why) t go ih = refl

pub part_reads : (more : ℕ) (bytes : List ℕ) (room : ℕ) (b : Bridge) (n p : ℕ)
    → let P = part_for more bytes room b n p in P.reading ≡ read_at bytes P.place
unfolding part_for stops_at
part_reads zero bytes room b n p = refl
part_reads (suc more) bytes room b n p =
    reads_there bytes b n p (read_at bytes p) (may_go_on n room)
    (λ r next. part_for more bytes (room - length (record_line b n r)) (after_call b (call_of r)) (n + 1) next)
    (λ r next. part_reads more bytes (room - length (record_line b n r)) (after_call b (call_of r)) (n + 1) next)

no_record : (x : Reading) → nothing_left ≤ reading_number x → NoRecord x
no_record (Found r next) h = absurd (omega arith)
no_record NothingLeft h = nothing_there
no_record (Refused why) h = refused_there why

pub listing_to_its_end : ListingToItsEnd
unfolding part_of rest listing_at
listing_to_its_end bytes h room b n ended =
    let P = part_of bytes room b n in
    let all : bytes ++ [] ≡ bytes = append-nil bytes in
    let there : read_at (bytes ++ []) P.place ≡ P.reading =
    ap (λ (l : List ℕ). read_at l P.place) all ∙ sym (part_reads (suc (length bytes)) bytes room b n 0) in
    ap (λ (l : List ℕ). listing_from b n l) (sym all)
    ∙ parts bytes [] h (suc (length bytes)) room b n 0
    ∙ ap (λ (l : List ℕ). P.text ++ l) (no_record_ends P.bridge P.count (bytes ++ []) P.place (no_record P.reading ended) there)

-- ---- as far as it may

module _ (bytes : List ℕ) where
  Far : ℕ → Part → Type 0
  Far room x = (nothing_left ≤ reading_number x.reading) ⊎ (may_go_on x.count (room - length x.text) ≡ false)

  behind : (room : ℕ) (line : List ℕ) (x : Part) → Far (room - length line) x → Far room (onto line x)
  unfolding Far onto
  behind room line x (inl h) = inl h
  behind room line x (inr e) =
      let left : room - length (line ++ x.text) ≡ room - length line - length x.text = omega (arith, length-append line x.text) in
      inr (ap (may_go_on x.count) left ∙ e)

  goes_far : (b : Bridge) (n p room : ℕ) (x : Reading) (t : Bool) → read_at bytes p ≡ x → may_go_on n room ≡ t → (go : Record → ℕ → Part)
      → ((r : Record) (next : ℕ) → p < next → Far (room - length (record_line b n r)) (go r next))
      → Far room (going_on x t (stops_at bytes b n p) (λ r next. onto (record_line b n r) (go r next)))
  unfolding going_on stops_at Far
  goes_far b n p room (Found r next) true e m go ih = behind room (record_line b n r) (go r next) (ih r next (found_further bytes p r next e).0)
  goes_far b n p room (Found r next) false e m go ih = inr (ap (may_go_on n) (sub-zero room) ∙ m)
  goes_far b n p room NothingLeft t e m go ih = inl (omega (arith, ap reading_number e))
  goes_far b n p room (Refused why) t e m go ih = inl (omega (arith, ap reading_number e, (refusal_number why).0))

  far : (more room : ℕ) (b : Bridge) (n p : ℕ) → length bytes < p + more → Far room (part_for more bytes room b n p)
  unfolding part_for stops_at Far
  far zero room b n p h = inl (omega (arith, ap reading_number (none_left bytes p (omega arith))))
  far (suc more) room b n p h =
      goes_far b n p room (read_at bytes p) (may_go_on n room) refl refl
      (λ r next. part_for more bytes (room - length (record_line b n r)) (after_call b (call_of r)) (n + 1) next)
      (λ r next i. far more (room - length (record_line b n r)) (after_call b (call_of r)) (n + 1) next (omega arith))

pub as_far_as_it_may : AsFarAsItMay
unfolding part_of Far
as_far_as_it_may bytes room b n = far bytes (suc (length bytes)) room b n 0 (omega arith)

-- ---- T

-- 1 for FR
abbrev frames : Kind → ℕ
frames GR = 0
frames GD = 0
frames ST = 0
frames FR = 1

no_frame : (k : Kind) → frames k ≡ 0 → k ≡ FR → ⊥
no_frame k h e = omega (arith, ap frames e)

judged_shown : (i n : ℕ) (A : Ticks) (a : Answer) → Shows (made.Frame i n A) (record { number = answer_number a; values = answer_values a })
unfolding answer_values answer_number
judged_shown i n A (answer.Released T) = time T.0 refl (omega arith) refl
judged_shown i n A (answer.Discarded T) = time T.0 refl (omega arith) refl
judged_shown i n A (answer.Refused why) = refused (refusal_number why).0 refl

pub time_of_judged_frames : TimeOfJudgedFrames
unfolding call_of reply
time_of_judged_frames b (made.Group i c M) = set_up (no_frame GR refl) refl
time_of_judged_frames b (made.GroupDefault i c) = set_up (no_frame GD refl) refl
time_of_judged_frames b (made.Stream i k r u) = set_up (no_frame ST refl) refl
time_of_judged_frames b (made.Frame i n A) = judged_shown i n A (frame_called b i n A.0).answer
