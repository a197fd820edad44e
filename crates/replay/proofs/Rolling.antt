-- Laws of the replay's loop over its input: where it stands after a turn, and after a reading. Assumes nothing.
use Rattle.std.proofs.Common.{◌≡◌, ℕ, suc, ◌+◌, ◌≤◌, List, length, sym, refl, ap, ◌∙◌, subst, add-one, arith}
use Rattle.intake.specs.Holding.{Within, nothing_held, came_in}
use Rattle.intake.specs.declared.Held.{Held}
use Rattle.intake.specs.declared.Next.TheVariants.{GoesOn, Reads}
use Rattle.intake.proofs.Promises.{reading_within}
use Rattle.console.specs.Answers.{brought, read_behind}
use Rattle.console.specs.declared.Came.{Came}
use Rattle.console.proofs.Answers.{read_gave}
use Rattle.replay_text.specs.Lines.{line_room}
use Rattle.replay_turn.specs.Turns.{begun_reading, Made, turn_made}
use Rattle.replay_turn.specs.Protocol.{Places, MayGather, Open, with_held}
use Rattle.replay_turn.specs.declared.Standing.{Standing}
use Rattle.intake.specs.declared.Turned.{Turned}
use Rattle.replay_turn.proofs.Promises.{turn_within}
use Rattle.replay_turn.proofs.Protocol.{begin_stands, turn_stands, reading_stands}

-- the places of each list
abbrev pub places : ℕ
places = 65536

-- the two buffers are as long as they were, the notes have room for a line, and the lists have their places
pub record Lent (input₀ notes₀ input notes arrivals ids octets : List ℕ) : Type 0 where
  pub long : length input ≡ length input₀
  pub wide : length notes ≡ length notes₀
  pub room : line_room ≤ length notes
  pub lists : Places places arrivals ids octets

-- before the turn of a number: what is held is in the buffer, the program may make the turn, and no more frames were taken than have a place
pub record Rolling (input₀ notes₀ : List ℕ) (x : Standing) (turn : ℕ) (input notes arrivals ids octets : List ℕ) : Type 0 where
  pub within : Within x.held (length input)
  pub may : MayGather places turn x input arrivals ids octets
  pub few : x.count ≤ places
  pub lent : Lent input₀ notes₀ input notes arrivals ids octets

pub begins : (x : Standing) (input notes arrivals ids octets : List ℕ) → x ≡ begun_reading → line_room ≤ length notes → Places places arrivals ids octets
    → Rolling input notes x 0 input notes arrivals ids octets
unfolding begun_reading nothing_held
begins x input notes arrivals ids octets e room lists =
    let place : x.held.place ≡ 0 = ap (λ (y : Standing). y.held.place) e in
    let filled : x.held.filled ≡ 0 = ap (λ (y : Standing). y.held.filled) e in
    let count : x.count ≡ 0 = ap (λ (y : Standing). y.count) e in
    record {
      within = record { ahead = omega arith; inside = omega arith };
      may = subst (λ (y : Standing). MayGather places 0 y input arrivals ids octets) (sym e) (begin_stands places input arrivals ids octets lists);
      few = omega arith;
      lent = record { long = refl; wide = refl; room = room; lists = lists };
    }

-- after a turn: what is to be written is in the notes, and the program goes on, reads or ends by what comes next
pub record Turning (input₀ notes₀ : List ℕ) (r : Turned Standing) (turn : ℕ) (input notes arrivals ids octets : List ℕ) : Type 0 where
  pub within : Within r.standing.held (length input)
  pub written : r.written ≤ length notes
  pub ahead : Open places turn r.next r.standing input arrivals ids octets
  pub few : r.standing.count ≤ places
  pub lent : Lent input₀ notes₀ input notes arrivals ids octets

made_turning : (i₀ n₀ : List ℕ) (x : Standing) (k : ℕ) (i n a d o : List ℕ) → Rolling i₀ n₀ x k i n a d o
    → let m = turn_made x i n a d o in Turning i₀ n₀ m.turned k m.input m.notes m.arrivals m.ids m.octets
made_turning i₀ n₀ x k i n a d o s =
    let w = turn_within x i n a d o s.within in
    let l = s.lent in
    let p = l.lists in
    record {
      within = w.held;
      written = w.written;
      ahead = turn_stands places k x i n a d o s.within l.room s.may;
      few = omega (arith, w.arrivals_taken (omega (arith, s.few, p.for_arrivals)), p.for_arrivals);
      lent = record {
        long = w.input_long ∙ l.long;
        wide = w.notes_long ∙ l.wide;
        room = omega (arith, w.notes_long, l.room);
        lists = record { for_arrivals = w.arrivals_long ∙ p.for_arrivals; for_ids = w.ids_long ∙ p.for_ids; for_octets = w.octets_long ∙ p.for_octets };
      };
    }

pub turns : (i₀ n₀ : List ℕ) (x : Standing) (k : ℕ) (i n a d o : List ℕ) (r : Turned Standing) (i₂ n₂ a₂ d₂ o₂ : List ℕ) → Rolling i₀ n₀ x k i n a d o
    → record { turned = r; input = i₂; notes = n₂; arrivals = a₂; ids = d₂; octets = o₂ } ≡ turn_made x i n a d o → Turning i₀ n₀ r k i₂ n₂ a₂ d₂ o₂
turns i₀ n₀ x k i n a d o r i₂ n₂ a₂ d₂ o₂ s e =
    subst (λ (m : Made). Turning i₀ n₀ m.turned k m.input m.notes m.arrivals m.ids m.octets) (sym e) (made_turning i₀ n₀ x k i n a d o s)

module _ (i₀ n₀ : List ℕ) (r : Turned Standing) (k : ℕ) (i n a d o : List ℕ) (t : Turning i₀ n₀ r k i n a d o) where
  -- it goes on
  pub rolls_on : r.next ≡ GoesOn → Rolling i₀ n₀ r.standing (k + 1) i n a d o
  rolls_on q = record {
    within = t.within;
    may = subst (λ (m : ℕ). MayGather places m r.standing i a d o) (sym (add-one k)) (t.ahead.goes q);
    few = t.few;
    lent = t.lent;
  }

  -- or reads
  pub reads_on : r.next ≡ Reads → (c : Came) (x : Standing) (i₂ : List ℕ) → length i₂ ≡ length i
      → record { came = c; bytes = i₂ } ≡ read_behind r.standing.held i c.got i₂
      → x ≡ with_held r.standing c.held
      → Rolling i₀ n₀ x (k + 1) i₂ n a d o
  unfolding with_held
  reads_on q c x i₂ same e f =
      let h = r.standing.held in
      let g = read_gave h i c i₂ t.within.inside e in
      let came = came_in h (brought c.got) (length i) in
      let is : x ≡ with_held r.standing came = f ∙ ap (with_held r.standing) g.0 in
      let held : x.held ≡ came = ap (λ (y : Standing). y.held) is in
      let count : x.count ≡ r.standing.count = ap (λ (y : Standing). y.count) is in
      record {
        within = subst (λ (m : ℕ). Within x.held m) (sym same) (subst (λ (y : Held). Within y (length i)) (sym held) (reading_within h (brought c.got) (length i) t.within));
        may =
            subst (λ (m : ℕ). MayGather places m x i₂ a d o) (sym (add-one k))
            (subst (λ (y : Standing). MayGather places (suc k) y i₂ a d o) (sym is)
            (reading_stands places k r.standing i a d o t.within (t.ahead.reads q) (brought c.got) i₂ g.1));
        few = omega (arith, t.few, count);
        lent = record { long = same ∙ t.lent.long; wide = t.lent.wide; room = t.lent.room; lists = t.lent.lists };
      }
