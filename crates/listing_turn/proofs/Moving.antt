-- Laws of a turn that moves on: a line uses bytes, and where nothing was put there was room. Assumes nothing.
use Rattle.std.proofs.Common.{◌≡◌, ℕ, zero, suc, ◌+◌, ◌-◌, ◌<◌, ◌≤◌, Bool, true, false, cond, ◌&&◌, eqb, ltb, leb, ◌⊎◌, List, length, drop, sym, refl, ap, inl, inr, arith, length-drop, ltb-false, ltb-true, lt-ltb, eqb-true, le-leb}
use Rattle.quantity.specs.Numbers.{number_of}
use Rattle.quantity.specs.declared.Refusal.TheVariants.{CutShort}
use Rattle.tablefile.specs.Answers.{nothing_left, reading_number}
use Rattle.tablefile.specs.Layout.{ST, size}
use Rattle.tablefile.specs.declared.Record.{Record}
use Rattle.tablefile.specs.declared.Reading.{Reading}
use Rattle.tablefile.specs.declared.Reading.TheVariants.{Found, NothingLeft, Refused}
use Rattle.reader.specs.Reader.{read_at}
use Rattle.reader.proofs.Further.{found_further, cut_is_short, end_is_short}
use Rattle.bridge.specs.History.{after_call}
use Rattle.bridge.specs.declared.Bridge.{Bridge}
use Rattle.listing_text.specs.Places.{line_room, end_room, most_lines, may_end}
use Rattle.listing_part.specs.Records.{call_of, record_line}
use Rattle.listing_part.specs.Parts.{Part, onto, may_go_on, going_on, stops_at, part_for, part_of}
use Rattle.listing_part.proofs.Promises.{as_far_as_it_may, part_within, part_reads}
use Rattle.intake.specs.declared.Told.{Told}
use Rattle.intake.specs.declared.Told.TheVariants.{More, Ended, Failed}
use Rattle.intake.specs.declared.Next.{Next}
use Rattle.intake.specs.declared.Next.TheVariants.{GoesOn, Reads, Ends, Fails}
use Rattle.listing_turn.specs.Turns.{Reached, unended, closing, at_edge, next_of, turn_of, list_turn}
use Rattle.listing_turn.specs.Promises.{MayCount, no_work, TurnMoves, KeptIsShort}

-- ---- what comes next, as a number

abbrev tag : Next → ℕ
tag GoesOn = 0
tag Reads = 1
tag Ends = 2
tag Fails = 3

-- ---- a part goes forward, a byte at least for each line

pub record Forward (n p : ℕ) (x : Part) : Type 0 where
  pub ahead : p ≤ x.place
  pub few : x.count + p ≤ n + x.place
  pub still : x.place ≡ p → length x.text ≡ 0

stays : (bytes : List ℕ) (b : Bridge) (n p : ℕ) → Forward n p (stops_at bytes b n p)
unfolding stops_at
stays bytes b n p = record { ahead = omega arith; few = omega arith; still = λ e. refl }

goes_forward : (bytes : List ℕ) (b : Bridge) (n p : ℕ) (x : Reading) (t : Bool) → read_at bytes p ≡ x → (go : Record → ℕ → Part)
    → ((r : Record) (next : ℕ) → Forward (n + 1) next (go r next))
    → Forward n p (going_on x t (stops_at bytes b n p) (λ r next. onto (record_line b n r) (go r next)))
unfolding going_on onto
goes_forward bytes b n p (Found r next) true e go ih =
    let f = ih r next in
    let far = (found_further bytes p r next e).0 in
    record { ahead = omega (arith, f.ahead); few = omega (arith, f.few); still = λ q. absurd (omega (arith, f.ahead)) }
goes_forward bytes b n p (Found r next) false e go ih = stays bytes b n p
goes_forward bytes b n p NothingLeft t e go ih = stays bytes b n p
goes_forward bytes b n p (Refused why) t e go ih = stays bytes b n p

forward_for : (more : ℕ) (bytes : List ℕ) (room : ℕ) (b : Bridge) (n p : ℕ) → Forward n p (part_for more bytes room b n p)
unfolding part_for
forward_for zero bytes room b n p = stays bytes b n p
forward_for (suc more) bytes room b n p =
    goes_forward bytes b n p (read_at bytes p) (may_go_on n room) refl
    (λ r next. part_for more bytes (room - length (record_line b n r)) (after_call b (call_of r)) (n + 1) next)
    (λ r next. forward_for more bytes (room - length (record_line b n r)) (after_call b (call_of r)) (n + 1) next)

forward : (bytes : List ℕ) (room : ℕ) (b : Bridge) (n : ℕ) → Forward n 0 (part_of bytes room b n)
unfolding part_of
forward bytes room b n = forward_for (suc (length bytes)) bytes room b n 0

-- ---- why a turn goes on, reads or fails

unended_says : (n : ℕ) (x : Next) → unended n ≡ x → (n < most_lines → tag x ≡ 0) × (most_lines ≤ n → tag x ≡ 3)
unfolding unended
unended_says n x e = go (ltb n most_lines) refl e
  where
    go : (t : Bool) → ltb n most_lines ≡ t → cond t GoesOn Fails ≡ x → (n < most_lines → tag x ≡ 0) × (most_lines ≤ n → tag x ≡ 3)
    go true h q = (λ k. sym (ap tag q), λ k. absurd (omega (arith, ltb-true n most_lines h)))
    go false h q = (λ k. absurd (omega (arith, ltb-false n most_lines h)), λ k. sym (ap tag q))

-- at the end: it is put where there is room; else as where it is not the end
closing_says : (n at room : ℕ) (x : Next) → closing n at room ≡ x → n < most_lines → (at + (line_room + end_room) ≤ room → tag x ≡ 2) × ((tag x ≡ 2 → ⊥) → tag x ≡ 0)
unfolding closing may_end
closing_says n at room x e h = go (leb (at + (line_room + end_room)) room) refl (ltb n most_lines) (lt-ltb n most_lines h) e
  where
    go : (t : Bool) → leb (at + (line_room + end_room)) room ≡ t → (u : Bool) → u ≡ true → cond (t && u) Ends (unended n) ≡ x
        → (at + (line_room + end_room) ≤ room → tag x ≡ 2) × ((tag x ≡ 2 → ⊥) → tag x ≡ 0)
    go true k true f q = (λ z. sym (ap tag q), λ z. absurd (z (sym (ap tag q))))
    go true k false f q = let z : ◌≡◌ {A = ℕ} 0 1 = cc in absurd (omega arith)
    go false k u f q = (λ z. let w : ◌≡◌ {A = ℕ} 0 1 = cc (le-leb _ _ z) in absurd (omega arith), λ z. (unended_says n x q).0 h)

-- ---- one turn

-- where the lines stop, by what the reader gives there, what was told and what comes next
module _ (room : ℕ) (wide : line_room + end_room ≤ room) (s : Reached) (held : List ℕ) (said : Told) where
  abbrev P : Part
  P = part_of held room s.bridge s.count

  -- there was room, if nothing was put
  no_line : P.place ≡ 0 → length P.text ≡ 0
  no_line e = (forward held room s.bridge s.count).still e

  record_has_room : (r : Record) (next : ℕ) → P.reading ≡ Found r next → P.count < most_lines → 0 < P.place
  unfolding may_go_on
  record_has_room r next e h = go (as_far_as_it_may held room s.bridge s.count)
    where
      go : (nothing_left ≤ reading_number P.reading) ⊎ (may_go_on P.count (room - length P.text) ≡ false) → 0 < P.place
      go (inl k) = absurd (omega (arith, k, ap reading_number e))
      go (inr k) = by_place P.place refl
        where
          by_place : (p : ℕ) → P.place ≡ p → 0 < P.place
          by_place zero q =
              let whole : room - length P.text ≡ room = omega (arith, no_line q) in
              let may : leb line_room (room - length P.text) && ltb P.count most_lines ≡ true = rw (whole, le-leb line_room room (omega arith), lt-ltb P.count most_lines h) in
              let z : ◌≡◌ {A = ℕ} 0 1 = cc in
              absurd (omega arith)
          by_place (suc p) q = omega arith

  end_has_room : (x : Next) → closing P.count (length P.text) room ≡ x → tag x ≡ 0 → P.count < most_lines → 0 < P.place
  end_has_room x e t h = by_place P.place refl
    where
      by_place : (p : ℕ) → P.place ≡ p → 0 < P.place
      by_place zero q = absurd (omega (arith, (closing_says P.count (length P.text) room x e h).0 (omega (arith, no_line q))))
      by_place (suc p) q = omega arith

  -- what a turn says that was told so, if lines can still be counted: it goes on after a line, it reads where there may be more, and it fails where a reading did
  pub record Says (x : Next) : Type 0 where
    pub goes : tag x ≡ 0 → 0 < P.place
    pub reads : tag x ≡ 1 → said ≡ More
    pub fails : tag x ≡ 3 → said ≡ Failed

  by_closing : (x : Next) → closing P.count (length P.text) room ≡ x → P.count < most_lines → Says x
  by_closing x e h =
      let c = closing_says P.count (length P.text) room x e h in record {
        goes = λ t. end_has_room x e t h;
        reads = λ t. absurd (omega (arith, t, c.1 (λ z. omega (arith, z, t))));
        fails = λ t. absurd (omega (arith, t, c.1 (λ z. omega (arith, z, t))));
      }

  by_edge : (t : Told) → said ≡ t → (x : Next) → at_edge t P.count (length P.text) room ≡ x → P.count < most_lines → Says x
  unfolding at_edge
  by_edge More q x e h = record { goes = λ t. absurd (omega (arith, t, ap tag e)); reads = λ t. q; fails = λ t. absurd (omega (arith, t, ap tag e)) }
  by_edge Ended q x e h = by_closing x e h
  by_edge Failed q x e h = record { goes = λ t. absurd (omega (arith, t, ap tag e)); reads = λ t. absurd (omega (arith, t, ap tag e)); fails = λ t. q }

  says : (r : Reading) → P.reading ≡ r → (x : Next) → next_of r said P.count (length P.text) room ≡ x → P.count < most_lines → Says x
  unfolding next_of
  says (Found r next) q x e h =
      let u = (unended_says P.count x e).0 h in record {
        goes = λ t. record_has_room r next q h;
        reads = λ t. absurd (omega (arith, t, u));
        fails = λ t. absurd (omega (arith, t, u));
      }
  says NothingLeft q x e h = by_edge said refl x e h
  says (Refused why) q x e h = go (eqb (number_of why) (number_of CutShort)) e
    where
      go : (t : Bool) → cond t (at_edge said P.count (length P.text) room) (closing P.count (length P.text) room) ≡ x → Says x
      go true z = by_edge said refl x z h
      go false z = by_closing x z h

pub turn_moves : TurnMoves
unfolding MayCount no_work list_turn turn_of
turn_moves room wide = record {
  goes = λ s held said n bytes may e.
      let Q = part_of held room s.bridge s.count in
      let f = forward held room s.bridge s.count in
      let w = part_within held room s.bridge s.count in
      let long = length-drop Q.place held in
      let y = says room wide s held said Q.reading refl (next_of Q.reading said Q.count (length Q.text) room) refl (omega (arith, f.few, w.0)) in
      (omega (arith, long, w.0, y.goes (ap tag e)), omega (arith, long, w.0, f.few));
  reads = λ s held said n bytes may e.
      let Q = part_of held room s.bridge s.count in
      let f = forward held room s.bridge s.count in
      let w = part_within held room s.bridge s.count in
      let long = length-drop Q.place held in
      let y = says room wide s held said Q.reading refl (next_of Q.reading said Q.count (length Q.text) room) refl (omega (arith, f.few, w.0)) in
      (y.reads (ap tag e), omega (arith, long), omega (arith, long, w.0, f.few));
  fails = λ s held said n bytes may e.
      let Q = part_of held room s.bridge s.count in
      let f = forward held room s.bridge s.count in
      let w = part_within held room s.bridge s.count in
      (says room wide s held said Q.reading refl (next_of Q.reading said Q.count (length Q.text) room) refl (omega (arith, f.few, w.0))).fails (ap tag e);
}

-- ---- what is kept for a reading

closing_reads : (n at room : ℕ) → tag (closing n at room) ≡ 1 → ⊥
unfolding closing unended
closing_reads n at room e = go (may_end n at room) (ltb n most_lines) e
  where
    go : (t u : Bool) → tag (cond t Ends (cond u GoesOn Fails)) ≡ 1 → ⊥
    go true u q = omega (arith, q)
    go false true q = omega (arith, q)
    go false false q = omega (arith, q)

unended_reads : (n : ℕ) → tag (unended n) ≡ 1 → ⊥
unfolding unended
unended_reads n e = go (ltb n most_lines) e
  where
    go : (u : Bool) → tag (cond u GoesOn Fails) ≡ 1 → ⊥
    go true q = omega (arith, q)
    go false q = omega (arith, q)

-- by what the reader gives where the lines stop
short_by : (bytes : List ℕ) (p : ℕ) (r : Reading) → read_at bytes p ≡ r → (told : Told) (n at room : ℕ) → tag (next_of r told n at room) ≡ 1 → length (drop p bytes) < size ST
unfolding next_of
short_by bytes p (Found r next) q told n at room e = absurd (unended_reads n e)
short_by bytes p NothingLeft q told n at room e = end_is_short bytes p q
short_by bytes p (Refused why) q told n at room e = go (eqb (number_of why) (number_of CutShort)) refl e
  where
    go : (t : Bool) → eqb (number_of why) (number_of CutShort) ≡ t → tag (cond t (at_edge told n at room) (closing n at room)) ≡ 1 → length (drop p bytes) < size ST
    go true h z = cut_is_short bytes p why (eqb-true (number_of why) (number_of CutShort) h) q
    go false h z = absurd (closing_reads n at room z)

pub kept_is_short : KeptIsShort
unfolding list_turn turn_of part_of
kept_is_short room s held said e =
    let Q = part_of held room s.bridge s.count in
    short_by held Q.place Q.reading (sym (part_reads (suc (length held)) held room s.bridge s.count 0)) said Q.count (length Q.text) room (ap tag e)
