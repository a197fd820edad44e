-- The promises of the reading, proved: each theorem has the name of its statement in specs/Promises. Assumes nothing.
use mathlib.Core.Path.{◌≡◌, refl, sym, ap, ◌∙◌, subst}
use mathlib.Core.Bool.{Bool, true, false}
use mathlib.Core.List.{List, ◌++◌}
use Prim.Native.Nat.{ℕ, ◌+◌, ◌-◌, ◌≤◌, ◌<◌, min}
use native.Mathlib.Omega.{arith}
use lib.ListN.{length, take, drop, length-drop}
use lib.Seq.{sets, sets-eq, length-sets, take_at}
use Rattle.intake.specs.Holding.{Within, held_in, kept_for}
use Rattle.tablefile.specs.Layout.{ST, size}
use Rattle.intake.specs.Sessions.{Turn, bytes_of}
use Rattle.intake.specs.Promises.{following}
use Rattle.intake.specs.declared.Told.{Told}
use Rattle.intake.specs.declared.Told.TheVariants as told
use Rattle.intake.specs.declared.Next.{Next}
use Rattle.intake.specs.declared.Next.TheVariants.{GoesOn, Reads, Ends, Fails}
use Rattle.replay_gathering.specs.Gathering.{State, begun}
use Rattle.replay_gathering.specs.declared.End.{End}
use Rattle.replay_gathering.proofs.Parts.{resumed}
use Rattle.intake.proofs.Promises as sessions
use Rattle.replay_text.specs.Lines.{line_room}
use Rattle.replay_turn.specs.Gathered.{Final, fresh_yard, gathered_on, gathered_from}
use Rattle.replay_turn.specs.Turns.{Reached, countable, gathering, reached_after, turn_of, stuck, read_turn, places_in, yard_of, final_of, begun_reading, reached_by, left_held, Made, made_of, made_by, buffers_fit, turn_made}
use Rattle.replay_turn.specs.Promises.{reading_on, TurnIsRight, Stands, TurnMoves, reading_session, GatheredFromAllReadings, GatheredSoFar, StaysWithin, TurnWithin, turn_by, TurnLeaves, IsTheTurn, TurnIsMade, FewAreKept, RoomToRead}
use Rattle.replay_turn.specs.declared.Standing.{Standing}
use Rattle.replay_turn.proofs.Ready.{fitting, are_fit, can_count}
use Rattle.replay_turn.proofs.Halts.{Halted, says_nothing_left, says_unreadable, says_later}
use Rattle.replay_turn.proofs.Turning.{turned, by_count, gathering_halts, Keeping, turn_keeps}
use Rattle.replay_turn.proofs.Making.{held_length, fitting_turn, unfit_turn}
use Rattle.reader.proofs.Further.{cut_is_short, end_is_short}
use Rattle.replay_turn.proofs.Nexts.{differ, closed, Wanting, no_byte, cut_record, wanting, failing, AfterSetUp, after_set_up, going}
use Rattle.replay_turn.proofs.Right.{on_right, last_right}

-- ---- each turn is right

pub turn_is_right : TurnIsRight
unfolding turn_of stuck following
turn_is_right = record {
  on = λ s held said after h.
      by_count s held said (λ t. (t.next ≡ Ends → ⊥) → reading_on s (held ++ after) ≡ following t.text (reading_on t.state (drop t.used held ++ after)))
      (λ e n. on_right s held said after h n)
      (λ e n. refl);
  last = λ s held said after h k all.
      by_count s held said (λ t. t.next ≡ Ends → reading_on s (held ++ after) ≡ record { text = t.text; final = final_of t.state })
      (λ e q. last_right s held said after h all (closed (gathering s held).gathered.why said q) ∙ ap (λ (x : Next). record { text = (turn_of s (gathering s held) x).text; final = final_of (reached_after s (gathering s held) x) }) (sym q))
      (λ e q. absurd (differ q (λ z. omega arith)));
}

-- ---- that a session ends

-- what can still be counted, after a turn that used so many of the bytes for so many records
module _ (s : Reached) (held : List ℕ) (said : Told) (n : ℕ) (stands : Stands s (length held + n)) where
  stands_on : Stands (turned s held said).state (length (drop (turned s held said).used held) + n)
  unfolding turn_of reached_after begun
  stands_on =
      let g = gathering s held in
      let H = gathering_halts s held said in
      let left = length-drop g.gathered.at held in
      (omega (arith, H.inside, H.few, left, stands.0), omega (arith, H.inside, left, stands.1))

  all_counted : countable s.records s.bytes (length held) ≡ true
  all_counted = can_count s.records s.bytes (length held) (omega (arith, stands.0)) (omega (arith, stands.1))

later_on : {held : List ℕ} {r : State} {why : End} → AfterSetUp why → Halted held 0 r why → 0 < r.at
later_on {held} (after_set_up why) k = says_later held k

apart : true ≡ false → ⊥
apart e = let z : ◌≡◌ {A = ℕ} 0 1 = cc in omega arith

pub turn_moves : TurnMoves
unfolding turn_of stuck begun resumed
turn_moves = record {
  goes = λ s held said n h st.
      by_count s held said (λ t. t.next ≡ GoesOn → (0 + length (drop t.used held) < 0 + length held) × Stands t.state (length (drop t.used held) + n))
      (λ e q.
      let g = gathering s held in
      let H = gathering_halts s held said in
      let on = later_on (going g.gathered.why said q) H.halted in
      (omega (arith, on, H.inside, length-drop g.gathered.at held), stands_on s held said n st))
      (λ e q. absurd (differ q (λ z. omega arith)));
  reads = λ s held said n h st.
      by_count s held said (λ t. t.next ≡ Reads → (said ≡ told.More) × (0 + length (drop t.used held) ≤ 0 + length held) × Stands t.state (length (drop t.used held) + n))
      (λ e q. ((wanting (gathering s held).gathered.why said q).1, omega (arith, length-drop (gathering s held).gathered.at held), stands_on s held said n st))
      (λ e q. absurd (differ q (λ z. omega arith)));
  fails = λ s held said n h st.
      by_count s held said (λ t. t.next ≡ Fails → said ≡ told.Failed)
      (λ e q. failing (gathering s held).gathered.why said q)
      (λ e q. absurd (apart (sym (all_counted s held said n st) ∙ e)));
}

-- ---- the session

-- from the start, with lists of so many places
module _ (places : ℕ) (arrivals ids octets : List ℕ) (a : length arrivals ≡ places) (i : length ids ≡ places) (o : length octets ≡ places) where
  start_means : (bytes : List ℕ) → gathered_from places bytes ≡ reading_on (reached_by begun_reading arrivals ids octets) bytes
  unfolding reading_on reached_by begun_reading places_in yard_of fresh_yard
  start_means bytes =
      let fewest : places ≡ min (length arrivals) (min (length ids) (length octets)) = omega arith in
      ap (λ (k : ℕ). gathered_on k fresh_yard 0 0 bytes) fewest

pub gathered_from_all_readings : GatheredFromAllReadings
unfolding reading_session reached_by begun_reading
gathered_from_all_readings places turns arrivals ids octets input a i o b w few m =
    let s = reached_by begun_reading arrivals ids octets in
    let ends = sessions.comes_to_its_end Reached read_turn Stands (λ s. 0) turn_moves turns s input b w (omega arith, omega arith) (omega arith) in
    (ends, start_means places arrivals ids octets a i o (bytes_of input) ∙ sessions.all_of_it Reached Final read_turn final_of reading_on turn_is_right turns s input b ends)

pub gathered_so_far : GatheredSoFar
unfolding reading_session
gathered_so_far places turns arrivals ids octets input a i o b after n =
    start_means places arrivals ids octets a i o (bytes_of input ++ after)
    ∙ sessions.the_beginning Reached Final read_turn final_of reading_on turn_is_right turns (reached_by begun_reading arrivals ids octets) input b after n

-- ---- over lent buffers

module _ (x : Standing) (input notes arrivals ids octets : List ℕ) where
  abbrev reached : Reached
  reached = reached_by x arrivals ids octets

  abbrev held : List ℕ
  held = held_in x.held input

  left_within : (used : ℕ) → used ≤ length held → Within x.held (length input) → Within (left_held x.held used) (length input)
  unfolding left_held
  left_within used h w = record { ahead = omega (arith, held_length x.held input w, w.ahead); inside = w.inside }

  made_within : (t : Turn Reached) → Keeping reached held t → Within x.held (length input) → line_room ≤ length notes
      → StaysWithin x input notes arrivals ids octets (made_by t x.held input notes)
  unfolding made_by made_of reached_by
  made_within t k w room =
      let kept = sessions.kept_within t.next (left_held x.held t.used) input (left_within t.used k.used w) in
      let wide = length-sets notes 0 t.text in
      record {
        held = kept.0;
        written = omega (arith, wide, k.text);
        input_long = kept.1;
        notes_long = wide;
        arrivals_long = k.arrivals_long;
        ids_long = k.ids_long;
        octets_long = k.octets_long;
        arrivals_taken = k.arrivals_taken;
        ids_taken = k.ids_taken;
        octets_taken = k.octets_taken;
      }

  unmade_within : (m : Made) → m.turned.standing ≡ x → m.turned.written ≡ 0 → m.input ≡ input → m.notes ≡ notes → m.arrivals ≡ arrivals → m.ids ≡ ids → m.octets ≡ octets
      → Within x.held (length input) → StaysWithin x input notes arrivals ids octets m
  unmade_within m e z i n a d o w = record {
    held = rw (e, i) w;
    written = omega arith;
    input_long = ap length i;
    notes_long = ap length n;
    arrivals_long = ap length a;
    ids_long = ap length d;
    octets_long = ap length o;
    arrivals_taken = λ c. rw e c;
    ids_taken = λ c. rw e c;
    octets_taken = λ c. rw e c;
  }

pub turn_within : TurnWithin
turn_within x input notes arrivals ids octets w = go (buffers_fit x.held (length input) (length notes)) refl
  where
    go : (t : Bool) → buffers_fit x.held (length input) (length notes) ≡ t → StaysWithin x input notes arrivals ids octets (turn_made x input notes arrivals ids octets)
    go true e =
        let F = fitting x.held (length input) (length notes) e in
        subst (StaysWithin x input notes arrivals ids octets) (sym (fitting_turn x input notes arrivals ids octets e))
        (made_within x input notes arrivals ids octets _ (turn_keeps (reached_by x arrivals ids octets) (held_in x.held input) x.held.told) w F.room)
    go false e =
        subst (StaysWithin x input notes arrivals ids octets) (sym (unfit_turn x input notes arrivals ids octets e))
        (unmade_within x input notes arrivals ids octets _ refl refl refl refl refl refl refl w)

pub turn_leaves : TurnLeaves
unfolding turn_by made_by made_of left_held
turn_leaves x input notes arrivals ids octets w room =
    let t = read_turn (reached_by x arrivals ids octets) (held_in x.held input) x.held.told in
    let k = turn_keeps (reached_by x arrivals ids octets) (held_in x.held input) x.held.told in
    let n = held_length x.held input w in
    ap (λ (m : Made). held_in m.turned.standing.held m.input) (fitting_turn x input notes arrivals ids octets (are_fit x.held (length input) (length notes) w room))
    ∙ sessions.kept_same t.next (left_held x.held t.used) input (left_within x input notes arrivals ids octets t.used k.used w)
    ∙ sessions.held_after_use x.held t.used input (omega (arith, k.used))

-- a text at the front of a list that is longer
at_front : (l text : List ℕ) → length text ≤ length l → take (length text) (sets l 0 text) ≡ text
at_front l text h = ap (take (length text)) (sets-eq text l 0 (omega arith)) ∙ take_at text (drop (0 + length text) l) (length text) refl

pub turn_is_made : TurnIsMade
unfolding turn_by made_by made_of reached_by
turn_is_made x input notes arrivals ids octets w room =
    let t = read_turn (reached_by x arrivals ids octets) (held_in x.held input) x.held.told in
    let k = turn_keeps (reached_by x arrivals ids octets) (held_in x.held input) x.held.told in
    subst (IsTheTurn t) (sym (fitting_turn x input notes arrivals ids octets (are_fit x.held (length input) (length notes) w room)))
    (record { state = refl; next = refl; text = at_front notes t.text (omega (arith, k.text)) })

-- ---- room for a reading

kept_short : {held : List ℕ} {r : State} {why : End} → Wanting why → Halted held 0 r why → length (drop r.at held) < size ST
kept_short {held} {r} no_byte k = end_is_short held r.at (says_nothing_left held k)
kept_short {held} {r} (cut_record why n) k = cut_is_short held r.at why n (says_unreadable held k)

pub few_are_kept : FewAreKept
unfolding turn_of stuck begun resumed
few_are_kept s held said =
    by_count s held said (λ t. t.next ≡ Reads → length (drop t.used held) < size ST)
    (λ e q. kept_short (wanting (gathering s held).gathered.why said q).0 (gathering_halts s held said).halted)
    (λ e q. absurd (differ q (λ z. omega arith)))

module _ (x : Standing) (input notes : List ℕ) (t : Turn Reached) (w : Within (left_held x.held t.used) (length input)) (u : t.used ≤ x.held.filled - x.held.place) where
  room_made : length (drop t.used (held_in x.held input)) < length input → t.next ≡ Reads
      → (made_by t x.held input notes).turned.standing.held.filled < length (made_by t x.held input notes).input
  unfolding made_by made_of left_held
  room_made few e =
      let h = left_held x.held t.used in
      let same = sessions.held_after_use x.held t.used input u in
      subst (λ (n : Next). (kept_for n h input).held.filled < length (kept_for n h input).bytes) (sym e)
      (sessions.room_to_read h input w (rw same few))

pub room_to_read : RoomToRead
unfolding made_by made_of
room_to_read x input notes arrivals ids octets w wide = go (buffers_fit x.held (length input) (length notes)) refl
  where
    go : (b : Bool) → buffers_fit x.held (length input) (length notes) ≡ b
        → let m = turn_made x input notes arrivals ids octets in
        m.turned.next ≡ Reads
        → m.turned.standing.held.filled < length m.input
    go true e =
        let s = reached_by x arrivals ids octets in
        let held = held_in x.held input in
        let t = read_turn s held x.held.told in
        let k = turn_keeps s held x.held.told in
        subst (λ (m : Made). m.turned.next ≡ Reads → m.turned.standing.held.filled < length m.input) (sym (fitting_turn x input notes arrivals ids octets e))
        (λ q.
        room_made x input notes t (left_within x input notes arrivals ids octets t.used k.used w) (omega (arith, k.used, held_length x.held input w))
        (omega (arith, few_are_kept s held x.held.told q, wide)) q)
    go false e =
        subst (λ (m : Made). m.turned.next ≡ Reads → m.turned.standing.held.filled < length m.input) (sym (unfit_turn x input notes arrivals ids octets e))
        (λ q. absurd (differ q (λ z. omega arith)))
