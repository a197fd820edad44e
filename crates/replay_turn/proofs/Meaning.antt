-- Laws of what a file gives a replay: from any place on, and in parts. Assumes nothing.
use Rattle.std.specs.Prelude.{Option, None, Some}
use mathlib.Core.Path.{◌≡◌, refl, sym, ap, ◌∙◌, subst}
use mathlib.Core.Bool.{Bool, true, false, cond}
use mathlib.Core.List.{List, [], ◌∷◌, ◌++◌, append_assoc}
use Prim.Native.Nat.{ℕ, zero, suc, ◌+◌, ◌≤◌, ◌<◌}
use native.Mathlib.Nat.{add_assoc}
use native.Mathlib.Omega.{arith}
use lib.Dec.{ltb}
use lib.ListN.{length, take, drop, set, length-set, take-append-drop}
use lib.Seq.{length-take-le}
use Rattle.quantity.proofs.Booleans.{cond_true}
use Rattle.quantity.specs.Numbers.{number_of}
use Rattle.quantity.specs.Kinds.{ticks}
use Rattle.quantity.specs.declared.Refusal.{Refusal}
use Rattle.quantity.specs.declared.Ticks.{Ticks}
use Rattle.tablefile.specs.Answers.{reading_number}
use Rattle.tablefile.specs.BigEndian.{AreBytes}
use Rattle.tablefile.specs.Meaning.{default_residence}
use Rattle.tablefile.specs.declared.Record.{Record}
use Rattle.tablefile.specs.declared.Record.TheVariants as rec
use Rattle.tablefile.specs.declared.Reading.{Reading}
use Rattle.tablefile.specs.declared.Reading.TheVariants as reading
use Rattle.reader.specs.Reader.{read_at}
use Rattle.reader.specs.File.{onwards, contents_from}
use Rattle.reader.proofs.RoundTrip.{one_at_a_time}
use Rattle.bridge.specs.declared.Bridge.{Bridge}
use Rattle.bridge.specs.Calls.{BridgeSetUp}
use Rattle.intake.specs.Promises.{Given, following}
use Rattle.text.specs.Puts.{joined}
use Rattle.replay_text.specs.Notes.{note_text}
use Rattle.replay_text.specs.declared.Note.{Note}
use Rattle.replay_text.specs.declared.Note.TheVariants as note
use Rattle.replay_gathering.specs.declared.End.{End}
use Rattle.replay_gathering.specs.declared.End.TheVariants.{NothingLeft, Unreadable, NotSetUp, ListsFull}
use Rattle.replay_gathering.specs.declared.Wanted.TheVariants as wanted
use Rattle.replay_gathering.specs.Gathering.{State, Outcome, ended, task_of, task_for, room_in, task_at, called, set_up_taken, after_set_up, setting_up, frame_taken, onward, gather_from}
use Rattle.replay_gathering.proofs.Turns.{unfolds}
use Rattle.replay_gathering.proofs.Parts.{resumed}
use Rattle.replay_turn.specs.Gathered.{Yard, with_bridge, with_frame, frames, Final, ends_with, answer_note, ended_at, set_up_made, taken, records_taken, gathered_of}
use Rattle.replay_turn.proofs.Places.{fewest, roomy, place_left, one_behind}
use Rattle.reader.proofs.Further.{moved, moved_at, found_further, found_there}
use Rattle.std.proofs.Common.{Result, Ok, Err}

-- ---- from a place on

unfoldable pub gathered_at : ℕ → Yard → ℕ → ℕ → List ℕ → ℕ → Given Final
gathered_at most y n before bytes p = gathered_of most y n before (contents_from bytes p)

-- a record, and then what follows it
pub record_first : (most : ℕ) (y : Yard) (n before : ℕ) (bytes : List ℕ) (p : ℕ) (r : Record) (next : ℕ) → read_at bytes p ≡ reading.Found r next
    → gathered_at most y n before bytes p ≡ taken most n y r (λ z. gathered_at most z (n + 1) before bytes next)
unfolding gathered_at gathered_of records_taken onwards
record_first most y n before bytes p r next e =
    ap (gathered_of most y n before) (one_at_a_time bytes p ∙ ap (λ (x : Reading). onwards x p (contents_from bytes)) e)

-- what is no record ends it
pub data NoRecord : Reading → Type 0 where
  nothing_there : NoRecord reading.NothingLeft
  refused_there : (why : Refusal) → NoRecord (reading.Refused why)

pub no_record_ends : (most : ℕ) (y : Yard) (n before : ℕ) (bytes : List ℕ) (p : ℕ) {x : Reading} → NoRecord x → read_at bytes p ≡ x
    → gathered_at most y n before bytes p ≡ ended_at y n (before + p) (reading_number x)
unfolding gathered_at gathered_of records_taken onwards
no_record_ends most y n before bytes p nothing_there e =
    ap (gathered_of most y n before) (one_at_a_time bytes p ∙ ap (λ (x : Reading). onwards x p (contents_from bytes)) e)
no_record_ends most y n before bytes p (refused_there why) e =
    ap (gathered_of most y n before) (one_at_a_time bytes p ∙ ap (λ (x : Reading). onwards x p (contents_from bytes)) e)

-- what follows a record matters only by what it gives
cond_same : {A : Type 0} (t : Bool) (x y z : A) → x ≡ y → cond t x z ≡ cond t y z
cond_same true x y z e = e
cond_same false x y z e = refl

taken_same : (most n : ℕ) (y : Yard) (r : Record) (f g : Yard → Given Final) → ((z : Yard) → f z ≡ g z) → taken most n y r f ≡ taken most n y r g
unfolding taken set_up_made
taken_same most n y (rec.Group i c M) f g h = ap (following _) (h _)
taken_same most n y (rec.GroupDefault i c) f g h = ap (following _) (h _)
taken_same most n y (rec.Stream i k r u) f g h = ap (following _) (h _)
taken_same most n y (rec.Frame i o A) f g h = cond_same (ltb (frames y) most) (f (with_frame y i o A.0)) (g (with_frame y i o A.0)) (ends_with (Some note.TooManyFrames) false y) (h (with_frame y i o A.0))

-- what stands before the place only counts
module _ (most before : ℕ) (front bytes : List ℕ) where
  Without : Yard → ℕ → ℕ → Type 0
  Without y n p = gathered_at most y n before (front ++ bytes) (length front + p) ≡ gathered_at most y n (before + length front) bytes p

  further_on : (y : Yard) (n p number : ℕ) → ended_at y n (before + (length front + p)) number ≡ ended_at y n (before + length front + p) number
  further_on y n p number = ap (λ (k : ℕ). ended_at y n k number) (sym (add_assoc before (length front) p))

  by_reading : (y : Yard) (n p : ℕ) (x : Reading) → read_at bytes p ≡ x
      → ((z : Yard) (r : Record) (next : ℕ) → (p < next) × (next ≤ length bytes) → Without z (n + 1) next) → Without y n p
  unfolding moved Without
  by_reading y n p (reading.Found r next) e ih =
      record_first most y n before (front ++ bytes) (length front + p) r (length front + next) (moved_at front bytes p ∙ ap (moved (length front)) e)
      ∙ taken_same most n y r (λ z. gathered_at most z (n + 1) before (front ++ bytes) (length front + next)) (λ z. gathered_at most z (n + 1) (before + length front) bytes next)
      (λ z. ih z r next (found_further bytes p r next e))
      ∙ sym (record_first most y n (before + length front) bytes p r next e)
  by_reading y n p reading.NothingLeft e ih =
      no_record_ends most y n before (front ++ bytes) (length front + p) nothing_there (moved_at front bytes p ∙ ap (moved (length front)) e)
      ∙ further_on y n p (reading_number reading.NothingLeft)
      ∙ sym (no_record_ends most y n (before + length front) bytes p nothing_there e)
  by_reading y n p (reading.Refused why) e ih =
      no_record_ends most y n before (front ++ bytes) (length front + p) (refused_there why) (moved_at front bytes p ∙ ap (moved (length front)) e)
      ∙ further_on y n p (reading_number (reading.Refused why))
      ∙ sym (no_record_ends most y n (before + length front) bytes p (refused_there why) e)

  by_count : (m : ℕ) (y : Yard) (n p : ℕ) → length bytes < p + m → Without y n p
  by_count zero y n p h = by_reading y n p (read_at bytes p) refl (λ z r next w. absurd (omega arith))
  by_count (suc m) y n p h = by_reading y n p (read_at bytes p) refl (λ z r next w. by_count m z (n + 1) next (omega arith))

  pub without_front : (y : Yard) (n p : ℕ) → gathered_at most y n before (front ++ bytes) (length front + p) ≡ gathered_at most y n (before + length front) bytes p
  unfolding Without
  without_front y n p = by_count (suc (length bytes)) y n p (omega arith)

-- from a place of a part on: the rest of the part, with what follows it
pub rest_of : (most : ℕ) (y : Yard) (n before : ℕ) (part after : List ℕ) (p : ℕ) → p ≤ length part
    → gathered_at most y n before (part ++ after) p ≡ gathered_at most y n (before + p) (drop p part ++ after) 0
rest_of most y n before part after p h =
    let front = take p part in
    let back = drop p part ++ after in
    let long : length front ≡ p = length-take-le p part h in
    let cut : part ++ after ≡ front ++ back =
    ap (λ (l : List ℕ). l ++ after) (sym (take-append-drop p part)) ∙ append_assoc front (drop p part) after in
    let here : p ≡ length front + 0 = omega arith in
    ap (λ (l : List ℕ). gathered_at most y n before l p) cut
    ∙ ap (gathered_at most y n before (front ++ back)) here
    ∙ without_front most before front back y n 0
    ∙ ap (λ (k : ℕ). gathered_at most y n (before + k) back 0) long

-- ---- a gathering

-- what it says of a set-up that it was ended by
unfoldable pub spoken : End → ℕ → Option Note
spoken NothingLeft n = None
spoken (Unreadable why) n = None
spoken (NotSetUp why) n = Some (note.NotSetUp n (number_of why))
spoken ListsFull n = None

-- what was gathered: the places that are taken
unfoldable pub yard_in : State → Yard
yard_in g = record { bridge = g.bridge; arrivals = take g.count g.arrivals; ids = take g.count g.ids; octets = take g.count g.octets }

set_yard : (g : State) (next : ℕ) (b : Bridge) → with_bridge (yard_in g) b ≡ yard_in (set_up_taken g next b)
unfolding with_bridge yard_in set_up_taken
set_yard g next b = refl

frame_yard : (g : State) (next i o A : ℕ) → room_in g ≡ true → with_frame (yard_in g) i o A ≡ yard_in (frame_taken g next i o A)
unfolding with_frame yard_in frame_taken
frame_yard g next i o A r =
    let room = roomy g r in
    let a = sym (one_behind g.arrivals g.count A room.arrivals) in
    let d = sym (one_behind g.ids g.count i room.ids) in
    let c = sym (one_behind g.octets g.count o room.octets) in
    ap (λ (l : List ℕ). record { bridge = g.bridge; arrivals = l; ids = take g.count g.ids ++ (i ∷ []); octets = take g.count g.octets ++ (o ∷ []) }) a
    ∙ ap (λ (l : List ℕ). record { bridge = g.bridge; arrivals = take (g.count + 1) (set g.arrivals g.count A); ids = l; octets = take g.count g.octets ++ (o ∷ []) }) d
    ∙ ap (λ (l : List ℕ). record { bridge = g.bridge; arrivals = take (g.count + 1) (set g.arrivals g.count A); ids = take (g.count + 1) (set g.ids g.count i); octets = l }) c

frame_fewest : (g : State) (next i o A : ℕ) → fewest (frame_taken g next i o A) ≡ fewest g
unfolding frame_taken
frame_fewest g next i o A = simp length-set

-- no text in front
pub nothing_before : (x : Given Final) → following (note_text None) x ≡ x
unfolding following note_text joined
nothing_before x = refl

-- after so many records and bytes, over a part and what follows it
module _ (records before : ℕ) (part after : List ℕ) (h : AreBytes part) where
  -- what the whole gives from where a gathering stands
  gives : State → Given Final
  gives g = gathered_at (fewest g) (yard_in g) (records + g.records) before (part ++ after) g.at

  Goes : State → Outcome → Type 0
  Goes g o = gives g ≡ following (note_text (spoken o.gathered.why (records + o.gathered.records))) (gives (resumed o))

  -- it ended where it stood, and says nothing
  stops : (g : State) (why : End) → spoken why (records + g.records) ≡ None → Goes g (ended why g)
  unfolding Goes ended resumed
  stops g why e = sym (ap (λ (x : Option Note). following (note_text x) (gives g)) e ∙ nothing_before (gives g))

  one_record : (g : State) → records + g.records + 1 ≡ records + (g.records + 1)
  one_record g = add_assoc records g.records 1

  -- a set-up
  module _ (g : State) (ih : (t : State) → g.at < t.at → t.at ≤ length part → Goes t (gather_from part t)) where
    answered : (a : Result (Unit {0}) Refusal) (t : State) → gives g ≡ following (note_text (answer_note (records + t.records) a)) (gives t) → Goes t (gather_from part t) → Goes g (after_set_up a t (gather_from part))
    unfolding Goes after_set_up answer_note spoken ended resumed
    answered (Ok tt) t e i = e ∙ nothing_before (gives t) ∙ i
    answered (Err why) t e i = e

    set_up_goes : (r : Record) (next : ℕ) (x : BridgeSetUp) → read_at part g.at ≡ reading.Found r next
        → ((rest : Yard → Given Final) → taken (fewest g) (records + g.records) (yard_in g) r rest ≡ set_up_made (records + g.records) (yard_in g) x rest)
        → Goes g (setting_up g next x (gather_from part))
    unfolding setting_up set_up_made set_up_taken gives
    set_up_goes r next x e is =
        let n = records + g.records in
        let t = set_up_taken g next x.bridge in
        let f = found_further part g.at r next e in
        let L = part ++ after in
        answered x.answer t
        (record_first (fewest g) (yard_in g) n before L g.at r next (found_there part after h g.at r next e)
        ∙ is (λ z. gathered_at (fewest g) z (n + 1) before L next)
        ∙ ap (λ (k : ℕ). following (note_text (answer_note k x.answer)) (gathered_at (fewest g) (with_bridge (yard_in g) x.bridge) k before L next)) (one_record g)
        ∙ ap (λ (y : Yard). following (note_text (answer_note (records + (g.records + 1)) x.answer)) (gathered_at (fewest g) y (records + (g.records + 1)) before L next)) (set_yard g next x.bridge))
        (ih t f.0 f.1)

    frame_goes : (i o : ℕ) (A : Ticks) (next : ℕ) → read_at part g.at ≡ reading.Found (rec.Frame i o A) next → (b : Bool) → room_in g ≡ b
        → Goes g (onward g (task_of b (rec.Frame i o A) next) (gather_from part))
    unfolding task_of onward taken gives Goes frame_taken spoken yard_in
    frame_goes i o A next e true r =
        let n = records + g.records in
        let m = records + (g.records + 1) in
        let t = frame_taken g next i o A.0 in
        let f = found_further part g.at (rec.Frame i o A) next e in
        let L = part ++ after in
        let y = with_frame (yard_in g) i o A.0 in
        record_first (fewest g) (yard_in g) n before L g.at (rec.Frame i o A) next (found_there part after h g.at (rec.Frame i o A) next e)
        ∙ cond_true (ltb (frames (yard_in g)) (fewest g)) (gathered_at (fewest g) y (n + 1) before L next) (ends_with (Some note.TooManyFrames) false (yard_in g)) (place_left g ∙ r)
        ∙ ap (λ (k : ℕ). gathered_at (fewest g) y k before L next) (one_record g)
        ∙ ap (λ (z : Yard). gathered_at (fewest g) z m before L next) (frame_yard g next i o A.0 r)
        ∙ ap (λ (k : ℕ). gathered_at k (yard_in t) m before L next) (sym (frame_fewest g next i o A.0))
        ∙ ih t f.0 f.1
    frame_goes i o A next e false r = stops g ListsFull refl

    by_found : (x : Reading) → read_at part g.at ≡ x → Goes g (onward g (task_for (room_in g) x) (gather_from part))
    unfolding task_for task_of onward called taken spoken yard_in
    by_found (reading.Found (rec.Group i c M) next) e = set_up_goes (rec.Group i c M) next (called g.bridge (wanted.Group i c M)) e (λ rest. refl)
    by_found (reading.Found (rec.GroupDefault i c) next) e = set_up_goes (rec.GroupDefault i c) next (called g.bridge (wanted.Group i c (ticks default_residence))) e (λ rest. refl)
    by_found (reading.Found (rec.Stream i k r u) next) e = set_up_goes (rec.Stream i k r u) next (called g.bridge (wanted.Stream i k r u)) e (λ rest. refl)
    by_found (reading.Found (rec.Frame i o A) next) e = frame_goes i o A next e (room_in g) refl
    by_found reading.NothingLeft e = stops g NothingLeft refl
    by_found (reading.Refused why) e = stops g (Unreadable why) refl

  goes_for : (fuel : ℕ) (g : State) → length part < g.at + fuel → g.at ≤ length part → Goes g (gather_from part g)
  unfolding task_at
  goes_for zero g k w = absurd (omega arith)
  goes_for (suc fuel) g k w =
      subst (Goes g) (sym (unfolds part g)) (by_found g (λ t l i. goes_for fuel t (omega arith) i) (read_at part g.at) refl)

  pub gathering_goes : (g : State) → g.at ≤ length part
      → gathered_at (fewest g) (yard_in g) (records + g.records) before (part ++ after) g.at
      ≡ (let o = gather_from part g in
      following (note_text (spoken o.gathered.why (records + o.gathered.records)))
      (gathered_at (fewest (resumed o)) (yard_in (resumed o)) (records + o.gathered.records) before (part ++ after) o.gathered.at))
  unfolding Goes gives resumed
  gathering_goes g w = goes_for (suc (length part)) g (omega arith) w
