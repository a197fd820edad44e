-- Laws of the listing's loop: where it stands after a turn, and after a reading. Assumes nothing.
use Rattle.std.proofs.Common.{◌≡◌, ℕ, suc, ◌+◌, ◌≤◌, List, length, sym, refl, ap, ◌∙◌, subst, add-one, arith}
use Rattle.intake.specs.Holding.{Within, nothing_held, came_in}
use Rattle.intake.specs.declared.Held.{Held}
use Rattle.intake.specs.declared.Next.TheVariants.{GoesOn, Reads}
use Rattle.intake.proofs.Promises.{reading_within}
use Rattle.console.specs.Answers.{brought, read_behind}
use Rattle.console.specs.declared.Came.{Came}
use Rattle.console.proofs.Answers.{read_gave}
use Rattle.listing_turn.specs.Turns.{begun_listing, with_held, Made, turn_made}
use Rattle.listing_turn.specs.Promises.{MayList, Listed}
use Rattle.listing_turn.specs.declared.Standing.{Standing}
use Rattle.intake.specs.declared.Turned.{Turned}
use Rattle.listing_turn.proofs.Making.{turned_within}
use Rattle.listing_turn.proofs.Protocol.{begin_stands, turn_stands, reading_stands}

-- before the turn of a number: the bytes still to be listed are in the input buffer, the program may make the turn, and both buffers are as long as they were
pub record Rolling (input₀ output₀ : List ℕ) (standing : Standing) (turn : ℕ) (input output : List ℕ) : Type 0 where
  pub within : Within standing.held (length input)
  pub may : MayList (length output) turn standing input
  pub long : length input ≡ length input₀
  pub wide : length output ≡ length output₀

pub begins : (x : Standing) (l o : List ℕ) → x ≡ begun_listing → Rolling l o x 0 l o
unfolding begun_listing nothing_held
begins x l o e =
    let place : x.held.place ≡ 0 = ap (λ (y : Standing). y.held.place) e in
    let filled : x.held.filled ≡ 0 = ap (λ (y : Standing). y.held.filled) e in
    record {
      within = record { ahead = omega arith; inside = omega arith };
      may = subst (λ (y : Standing). MayList (length o) 0 y l) (sym e) (begin_stands (length o) l);
      long = refl;
      wide = refl;
    }

-- after a turn: what is to be written is in the output buffer, and the program goes on or reads by what comes next
pub record Turning (input₀ output₀ : List ℕ) (r : Turned Standing) (turn : ℕ) (input output : List ℕ) : Type 0 where
  pub within : Within r.standing.held (length input)
  pub written : r.written ≤ length output
  pub ahead : Listed (length output) turn r.next r.standing input
  pub long : length input ≡ length input₀
  pub wide : length output ≡ length output₀

pub turns : (i₀ o₀ : List ℕ) (x : Standing) (n : ℕ) (i o : List ℕ) (r : Turned Standing) (i₂ o₂ : List ℕ) → Rolling i₀ o₀ x n i o
    → record { turned = r; input = i₂; output = o₂ } ≡ turn_made x i o → Turning i₀ o₀ r n i₂ o₂
turns i₀ o₀ x n i o r i₂ o₂ s e =
    let w = turned_within x i o i₂ o₂ r s.within e in
    let room : length o ≡ length o₂ = sym w.3 in
    record {
      within = w.0;
      written = w.1;
      ahead =
          subst (λ (k : ℕ). Listed k n r.next r.standing i₂) room
          (subst (λ (m : Made). Listed (length o) n m.turned.next m.turned.standing m.input) (sym e) (turn_stands x i o n s.within s.may));
      long = w.2 ∙ s.long;
      wide = w.3 ∙ s.wide;
    }

module _ (i₀ o₀ : List ℕ) (r : Turned Standing) (n : ℕ) (i o : List ℕ) (t : Turning i₀ o₀ r n i o) where
  -- it goes on
  pub rolls_on : r.next ≡ GoesOn → Rolling i₀ o₀ r.standing (n + 1) i o
  rolls_on q = record {
    within = t.within;
    may = subst (λ (k : ℕ). MayList (length o) k r.standing i) (sym (add-one n)) (t.ahead.goes q);
    long = t.long;
    wide = t.wide;
  }

  -- or reads
  pub reads_on : r.next ≡ Reads → (c : Came) (x : Standing) (i₂ : List ℕ) → length i₂ ≡ length i
      → record { came = c; bytes = i₂ } ≡ read_behind r.standing.held i c.got i₂
      → x ≡ with_held r.standing c.held
      → Rolling i₀ o₀ x (n + 1) i₂ o
  unfolding with_held
  reads_on q c x i₂ same e f =
      let h = r.standing.held in
      let g = read_gave h i c i₂ t.within.inside e in
      let came = came_in h (brought c.got) (length i) in
      let is : x ≡ with_held r.standing came = f ∙ ap (with_held r.standing) g.0 in
      let held : x.held ≡ came = ap (λ (y : Standing). y.held) is in
      record {
        within = subst (λ (k : ℕ). Within x.held k) (sym same) (subst (λ (y : Held). Within y (length i)) (sym held) (reading_within h (brought c.got) (length i) t.within));
        may =
            subst (λ (k : ℕ). MayList (length o) k x i₂) (sym (add-one n))
            (subst (λ (y : Standing). MayList (length o) (suc n) y i₂) (sym is) (reading_stands (length o) n r.standing i t.within (t.ahead.reads q) (brought c.got) i₂ g.1));
        long = same ∙ t.long;
        wide = t.wide;
      }
