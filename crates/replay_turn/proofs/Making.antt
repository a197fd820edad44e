-- Laws of a turn over lent buffers: what its calls leave is what its definition says. Assumes nothing.
use Rattle.std.specs.Prelude.{Option}
use mathlib.Core.Path.{◌≡◌, refl, sym, ap, ◌∙◌, subst}
use mathlib.Core.Bool.{Bool, true, false, ◌&&◌}
use mathlib.Core.List.{List}
use Prim.Native.Nat.{ℕ, ◌+◌, ◌-◌, ◌≤◌, ◌<◌}
use native.Mathlib.Nat.{zero-add, add-zero}
use native.Mathlib.Omega.{arith}
use borrow.Author.Tests.{le-leb}
use lib.Dec.{leb}
use lib.ListN.{length}
use lib.Seq.{sets}
use Rattle.quantity.proofs.Booleans.{both, cond_true, cond_false}
use Rattle.text.specs.Numeral.{most}
use Rattle.text.specs.Places.{Placed, placed}
use Rattle.text.proofs.Stores.{fits}
use Rattle.intake.specs.Holding.{Within, held_in, Kept, kept_for, as_it_was}
use Rattle.intake.specs.Sessions.{Turn}
use Rattle.intake.specs.declared.Held.{Held}
use Rattle.intake.specs.declared.Next.{Next}
use Rattle.intake.specs.declared.Next.TheVariants as next
use Rattle.intake.proofs.Keeping.{length_part}
use Rattle.replay_gathering.specs.Gathering.{Outcome, gather_from, begun}
use Rattle.replay_gathering.specs.declared.Gathered.{Gathered}
use Rattle.replay_text.specs.Lines.{line_room}
use Rattle.replay_text.specs.Notes.{note_text, note_put}
use Rattle.replay_text.specs.declared.Note.{Note}
use Rattle.replay_text.proofs.Lengths.{note_number, no_note_longer}
use Rattle.replay_turn.specs.Turns.{next_of, note_of, whole_by, Reached, countable, gathering, reached_after, turn_of, stuck, read_turn, reached_by, left_held, Made, made_of, made_by, buffers_fit, is_ready, turn_made}
use Rattle.replay_turn.specs.declared.Standing.{Standing}
use Rattle.replay_turn.proofs.Ready.{fitting, counting}
use Rattle.replay_turn.proofs.Halts.{Halts, halts}
use Rattle.replay_turn.proofs.Turning.{note_number_law}

-- ---- the note

-- where a longest line has room, a note stands at the front
front : List ℕ → List ℕ → Placed
front notes text = record { next = length text; bytes = sets notes 0 text }

note_put_law : (notes : List ℕ) (note : Option Note) → note_number note ≤ 255 → line_room ≤ length notes → note_put notes 0 note ≡ front notes (note_text note)
unfolding note_put front
note_put_law notes note h room =
    let short = no_note_longer note h in
    let t = note_text note in
    cond_true (leb (0 + line_room) (length notes)) (placed notes 0 t) (record { next = 0; bytes = notes }) (le-leb (0 + line_room) (length notes) (omega arith))
    ∙ sym (fits notes 0 t (omega arith))
    ∙ ap (λ (n : ℕ). record { next = n; bytes = sets notes 0 t }) (zero-add (length t))

-- ---- the whole

-- the answer and the lent memory, by what the calls gave
made : Outcome → ℕ → ℕ → Next → Bool → Placed → Kept → Made
made g records bytes x whole p k = record {
  turned = record {
    standing = record { bridge = g.gathered.bridge; records = records; bytes = bytes; count = g.gathered.count; whole = whole; held = k.held };
    written = p.next;
    next = x;
  };
  input = k.bytes;
  notes = p.bytes;
  arrivals = g.arrivals;
  ids = g.ids;
  octets = g.octets;
}

pub held_length : (h : Held) (input : List ℕ) → Within h (length input) → length (held_in h input) ≡ h.filled - h.place
unfolding held_in
held_length h input w = length_part input h.place h.filled w.ahead w.inside

module _ (x : Standing) (input notes arrivals ids octets : List ℕ) where
  abbrev held : List ℕ
  held = held_in x.held input

  abbrev reached : Reached
  reached = reached_by x arrivals ids octets

  -- what a turn cannot change
  as_it_stood : Made
  as_it_stood = record { turned = record { standing = x; written = 0; next = next.Fails }; input = input; notes = notes; arrivals = arrivals; ids = ids; octets = octets }

  by_turn : Turn Reached → Made
  by_turn t = made_by t x.held input notes

  pub fitting_turn : buffers_fit x.held (length input) (length notes) ≡ true → turn_made x input notes arrivals ids octets ≡ made_by (read_turn (reached_by x arrivals ids octets) (held_in x.held input) x.held.told) x.held input notes
  unfolding turn_made by_turn as_it_stood
  fitting_turn e = cond_true (buffers_fit x.held (length input) (length notes)) (by_turn (read_turn reached held x.held.told)) as_it_stood e

  -- ---- where it cannot be made

  pub unfit_turn : buffers_fit x.held (length input) (length notes) ≡ false
      → turn_made x input notes arrivals ids octets
      ≡ record { turned = record { standing = x; written = 0; next = next.Fails }; input = input; notes = notes; arrivals = arrivals; ids = ids; octets = octets }
  unfolding turn_made
  unfit_turn e =
      cond_false (buffers_fit x.held (length input) (length notes)) (made_by (read_turn reached held x.held.told) x.held input notes)
      (record { turned = record { standing = x; written = 0; next = next.Fails }; input = input; notes = notes; arrivals = arrivals; ids = ids; octets = octets })
      e

  stuck_made : by_turn (stuck reached) ≡ as_it_stood
  unfolding by_turn stuck made_by made_of left_held kept_for as_it_was reached_by as_it_stood
  stuck_made =
      ap (λ (n : ℕ). record {
        turned = record {
          standing = record {
            bridge = x.bridge;
            records = x.records;
            bytes = x.bytes;
            count = x.count;
            whole = x.whole;
            held = record { place = n; filled = x.held.filled; told = x.held.told };
          };
          written = 0;
          next = next.Fails;
        };
        input = input;
        notes = notes;
        arrivals = arrivals;
        ids = ids;
        octets = octets;
      }) (add-zero x.held.place)

  pub turn_unmade : is_ready x.held x.records x.bytes (length input) (length notes) ≡ false
      → record { turned = record { standing = x; written = 0; next = next.Fails }; input = input; notes = notes; arrivals = arrivals; ids = ids; octets = octets }
      ≡ turn_made x input notes arrivals ids octets
  unfolding as_it_stood turn_made by_turn read_turn reached_by
  turn_unmade e = go (buffers_fit x.held (length input) (length notes)) refl e
    where
      go : (t : Bool) → buffers_fit x.held (length input) (length notes) ≡ t → (t && countable x.records x.bytes (x.held.filled - x.held.place)) ≡ false → as_it_stood ≡ turn_made x input notes arrivals ids octets
      go false f h = sym (unfit_turn f)
      go true f h =
          let F = fitting x.held (length input) (length notes) f in
          let n : length held ≡ x.held.filled - x.held.place = held_length x.held input F.within in
          sym
          (fitting_turn f
          ∙ ap by_turn (cond_false (countable x.records x.bytes (length held)) (turn_of reached (gathering reached held) (next_of (gathering reached held).gathered.why x.held.told)) (stuck reached) (ap (countable x.records x.bytes) n ∙ h))
          ∙ stuck_made)

  -- ---- where it is made

  by_next : Outcome → Next → Made
  by_next g y =
      made g (x.records + g.gathered.records) (x.bytes + g.gathered.at) y (whole_by g.gathered.why y)
      (note_put notes 0 (note_of g.gathered.why y (x.records + g.gathered.records) (x.bytes + g.gathered.at)))
      (kept_for y (left_held x.held g.gathered.at) input)

  by_gathered : Outcome → Made
  by_gathered g = by_next g (next_of g.gathered.why x.held.told)

  as_defined : is_ready x.held x.records x.bytes (length input) (length notes) ≡ true
      → by_gathered (gathering reached held) ≡ turn_made x input notes arrivals ids octets
  unfolding by_gathered by_next made made_by made_of turn_of reached_after front reached_by by_turn read_turn
  as_defined e =
      let p = both (buffers_fit x.held (length input) (length notes)) (countable x.records x.bytes (x.held.filled - x.held.place)) e in
      let F = fitting x.held (length input) (length notes) p.0 in
      let n : length held ≡ x.held.filled - x.held.place = held_length x.held input F.within in
      let g = gathering reached held in
      let y = next_of g.gathered.why x.held.told in
      let R = x.records + g.gathered.records in
      let B = x.bytes + g.gathered.at in
      ap (λ (q : Placed). made g R B y (whole_by g.gathered.why y) q (kept_for y (left_held x.held g.gathered.at) input))
      (note_put_law notes (note_of g.gathered.why y R B) (note_number_law g.gathered.why y R B) F.room)
      ∙ sym
      (fitting_turn p.0
      ∙ ap by_turn (cond_true (countable x.records x.bytes (length held)) (turn_of reached g y) (stuck reached) (ap (countable x.records x.bytes) n ∙ p.1)))

  pub turn_made_law : is_ready x.held x.records x.bytes (length input) (length notes) ≡ true
      → (r : Gathered) (a₂ i₂ o₂ : List ℕ) (y : Next) (told : Option Note) (whole : Bool) (written : ℕ) (notes₂ : List ℕ) (kept : Held) (in₂ : List ℕ)
      → record { gathered = r; arrivals = a₂; ids = i₂; octets = o₂ } ≡ gather_from (held_in x.held input) (begun x.bridge arrivals ids octets x.count)
      → y ≡ next_of r.why x.held.told
      → told ≡ note_of r.why y (x.records + r.records) (x.bytes + r.at)
      → whole ≡ whole_by r.why y
      → record { next = written; bytes = notes₂ } ≡ note_put notes 0 told
      → record { held = kept; bytes = in₂ } ≡ kept_for y (left_held x.held r.at) input
      → record {
        turned = record { standing = record { bridge = r.bridge; records = x.records + r.records; bytes = x.bytes + r.at; count = r.count; whole = whole; held = kept }; written = written; next = y };
        input = in₂;
        notes = notes₂;
        arrivals = a₂;
        ids = i₂;
        octets = o₂;
      } ≡ turn_made x input notes arrivals ids octets
  unfolding by_gathered by_next made gathering reached_by
  turn_made_law ready r a₂ i₂ o₂ y told whole written notes₂ kept in₂ e n m w p k =
      let g : Outcome = record { gathered = r; arrivals = a₂; ids = i₂; octets = o₂ } in
      let R = x.records + r.records in
      let B = x.bytes + r.at in
      let K = kept_for y (left_held x.held r.at) input in
      ap (λ (v : Placed). made g R B y whole v (record { held = kept; bytes = in₂ })) (p ∙ ap (note_put notes 0) m)
      ∙ ap (λ (v : Kept). made g R B y whole (note_put notes 0 (note_of r.why y R B)) v) k
      ∙ ap (λ (v : Bool). made g R B y v (note_put notes 0 (note_of r.why y R B)) K) w
      ∙ ap (by_next g) n
      ∙ ap by_gathered e
      ∙ as_defined ready

  -- ---- what it uses is in what is held, and can be counted

  pub record Used (r : Gathered) : Type 0 where
    pub ahead : x.held.place ≤ x.held.filled
    pub inside : x.held.filled ≤ length input
    pub at_most : r.at ≤ x.held.filled - x.held.place
    pub few : r.records ≤ r.at
    pub records_fit : x.records + r.records < most
    pub bytes_fit : x.bytes + r.at ≤ most

  pub used : is_ready x.held x.records x.bytes (length input) (length notes) ≡ true
      → (r : Gathered) (a₂ i₂ o₂ : List ℕ)
      → record { gathered = r; arrivals = a₂; ids = i₂; octets = o₂ } ≡ gather_from (held_in x.held input) (begun x.bridge arrivals ids octets x.count) → Used r
  unfolding begun
  used e r a₂ i₂ o₂ g =
      let p = both (buffers_fit x.held (length input) (length notes)) (countable x.records x.bytes (x.held.filled - x.held.place)) e in
      let F = fitting x.held (length input) (length notes) p.0 in
      let C = counting x.records x.bytes (x.held.filled - x.held.place) p.1 in
      let n : length held ≡ x.held.filled - x.held.place = held_length x.held input F.within in
      let H = subst (Halts held (begun x.bridge arrivals ids octets x.count)) (sym g) (halts held (begun x.bridge arrivals ids octets x.count) (omega arith)) in
      let inside : r.at ≤ length held = H.inside in
      let few : r.records + 0 ≤ r.at + 0 = H.few in
      record {
        ahead = F.within.ahead;
        inside = F.within.inside;
        at_most = omega arith;
        few = omega arith;
        records_fit = omega (arith, C.records);
        bytes_fit = omega (arith, C.bytes);
      }
