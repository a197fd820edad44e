-- A frame in lent records, over plain values: each law is one return of the code. Assumes nothing.
use mathlib.Core.Path.{◌≡◌, refl, ◌∙◌, ap}
use mathlib.Core.Bool.{Bool, true, false, not, cond, ◌&&◌}
use mathlib.Core.List.{List}
use mathlib.Core.Logic.{◌⊎◌, inl, inr}
use Prim.Native.Nat.{ℕ, ◌<◌, ◌+◌}
use native.Mathlib.Omega.{arith}
use lib.Dec.{leb, eqb}
use lib.ListN.{length, get_or}
use borrow.Author.Tests.{leb-true, leb-false, eqb-true}
use Rattle.quantity.specs.Ranges.{in_range}
use Rattle.quantity.specs.declared.Item.TheVariants.{StreamId}
use Rattle.quantity.specs.declared.Refusal.{Refusal}
use Rattle.quantity.specs.declared.Refusal.TheVariants.{Unsound, NoStream}
use Rattle.quantity.proofs.Booleans.{both}
use Rattle.quantity.proofs.Ranges.{at_most}
use Rattle.shaper.specs.Frame.{settled, process_frame, eligibility_time, discarded, released}
use Rattle.records.specs.Numbers.{is_set_up, answer_number}
use Rattle.shaper.specs.Numbers.{judged, refused}
use Rattle.quantity.specs.Charge.{charged}
use Rattle.records.specs.declared.Group.{Group}
use Rattle.records.specs.declared.Stream.{Stream}
use Rattle.records.specs.Judged.{Judged}
use Rattle.shaper.proofs.Judging.{Verdict, verdict, too_late, in-time}
use Rattle.bridge.specs.Tables.{no_stream}
use Rattle.lent.specs.InPlace.{run_places, judged_in, stays, stored, received, Received}
use Rattle.lent.specs.Steps.{ready, unreadiness}
use lib.Seq.{set-get_or}
use Rattle.quantity.specs.Numbers.{number_of}
use Rattle.records.specs.declared.Answer.TheVariants.{Refused}

-- ---- whether the run has its length and the stream a place in it
module _ (places k : ℕ) where
  pub of_another_length : eqb places run_places ≡ false → ready places k ≡ false
  unfolding ready
  of_another_length e = simp e

  pub of_its_length : eqb places run_places ≡ true → in_range StreamId k ≡ ready places k
  unfolding ready
  of_its_length e = simp e

  -- a stream that has a place is within the run
  pub has_place : ready places k ≡ true → k < places
  unfolding ready
  has_place e =
      let h = both (eqb places run_places) (in_range StreamId k) e in
      omega (arith, eqb-true places run_places h.0, at_most StreamId k h.1)

  pub has_low_place : ready places k ≡ true → k < run_places
  unfolding ready
  has_low_place e = omega (arith, at_most StreamId k (both (eqb places run_places) (in_range StreamId k) e).1)

module _ (places : ℕ) where
  pub length_first : eqb places run_places ≡ false → unreadiness places ≡ Unsound
  unfolding unreadiness
  length_first e = simp e

  pub then_stream : eqb places run_places ≡ true → unreadiness places ≡ NoStream
  unfolding unreadiness
  then_stream e = simp e

-- ---- a frame by the lent group's record
module _ (i : ℕ) (s : Stream) (g : Group) (n A : ℕ) where
  pub unset : is_set_up s.regulator ≡ false → judged_in i s g n A ≡ refused s g NoStream
  unfolding judged_in
  unset e = simp e

  module _ (u : is_set_up s.regulator ≡ true) where
    pub elsewhere : eqb s.group i ≡ false → judged_in i s g n A ≡ refused s g Unsound
    unfolding judged_in
    elsewhere e = simp (u, e)

    pub at_home : eqb s.group i ≡ true → judged_in i s g n A ≡ judged s g n A
    unfolding judged_in
    at_home e = simp (u, e)

-- a frame is refused, and the records stay, or it is processed
abbrev pub Outcome : ℕ → Stream → Group → ℕ → ℕ → Type 0
Outcome i s g n A = ((why : Refusal) × (judged_in i s g n A ≡ refused s g why)) ⊎ ((is_set_up s.regulator ≡ true) × (judged_in i s g n A ≡ process_frame s g (charged n) A))

pub outcome : (i : ℕ) (s : Stream) (g : Group) (n A : ℕ) → Outcome i s g n A
outcome i s g n A = go (is_set_up s.regulator) refl
  where
    by : eqb s.group i ≡ true → is_set_up s.regulator ≡ true → Verdict s g n A → Outcome i s g n A
    by e u (inl w) = inl (w.0, at_home i s g n A u e ∙ w.1)
    by e u (inr p) = inr (u, at_home i s g n A u e ∙ p.1)

    home : (t : Bool) → eqb s.group i ≡ t → is_set_up s.regulator ≡ true → Outcome i s g n A
    home false e u = inl (Unsound, elsewhere i s g n A u e)
    home true e u = by e u (verdict s g n A)

    go : (t : Bool) → is_set_up s.regulator ≡ t → Outcome i s g n A
    go false e = inl (NoStream, unset i s g n A e)
    go true e = home (eqb s.group i) refl e

-- what holds of a discarded and of a released frame holds of one that is settled
pub settles : (P : Judged → Type 0) (s : Stream) (g : Group) (L A T : ℕ) → P (discarded s g A T) → P (released s g L A T) → P (settled s g L A T)
settles P s g L A T d r = go (leb T (A + g.residence.0)) refl
  where
    go : (t : Bool) → leb T (A + g.residence.0) ≡ t → P (settled s g L A T)
    go true e = rw (in-time s g L A T (leb-true T (A + g.residence.0) e)) r
    go false e = rw (too_late s g L A T (leb-false T (A + g.residence.0) e)) d

-- ---- of the group's record only the group time, the last arrival and the discard count change
abbrev pub restamped : Group → Group → Group
restamped g h = record { used = g.used; class = g.class; residence = g.residence; time = h.time; last = h.last; discards = h.discards }

pub group_kept : (i : ℕ) (s : Stream) (g : Group) (n A : ℕ) → restamped g (judged_in i s g n A).group ≡ (judged_in i s g n A).group
unfolding process_frame discarded released
group_kept i s g n A = go (outcome i s g n A)
  where
    go : Outcome i s g n A → restamped g (judged_in i s g n A).group ≡ (judged_in i s g n A).group
    go (inl w) = rw w.1
    go (inr p) = rw p.1 (settles (λ j. restamped g j.group ≡ j.group) s g (charged n) A (eligibility_time s g (charged n) A) refl refl)

-- ---- a frame in the run
module _ (i : ℕ) (g : Group) (ss : List Stream) (k n A : ℕ) where
  pub is_stored : ready (length ss) k ≡ true → received i g ss k n A ≡ stored ss k (judged_in i (get_or ss k no_stream) g n A)
  unfolding received ready
  is_stored e =
      let h = both (eqb (length ss) run_places) (in_range StreamId k) e in
      simp (h.0, h.1)

  pub is_unready : ready (length ss) k ≡ false → received i g ss k n A ≡ stays g ss (unreadiness (length ss))
  unfolding received ready unreadiness
  is_unready = go (eqb (length ss) run_places) (in_range StreamId k)
    where
      go : (x y : Bool) → x && y ≡ false → cond (not x) (stays g ss Unsound) (cond (not y) (stays g ss NoStream) (stored ss k (judged_in i (get_or ss k no_stream) g n A))) ≡ stays g ss (cond x NoStream Unsound)
      go false y e = refl
      go true false e = refl
      go true true e = let z : ◌≡◌ {A = ℕ} 0 1 = cc in absurd (omega arith)

-- ---- a frame is refused, and the lent records stay, or its number is below 9
abbrev pub Ended : Received → Group → List Stream → Type 0
Ended r g ss = ((why : Refusal) × (r ≡ stays g ss why)) ⊎ (answer_number r.answer < number_of Unsound)

module _ (i : ℕ) (g : Group) (ss : List Stream) (k n A : ℕ) where
  abbrev s : Stream
  s = get_or ss k no_stream

  -- a refused record is stored where it stood
  pub put_back_law : (why : Refusal) (j : Judged) → j ≡ refused s g why → stored ss k j ≡ stays g ss why
  put_back_law why j e = ap (stored ss k) e ∙ ap (λ (xs : List Stream). record { answer = Refused why; group = g; streams = xs }) (set-get_or ss k no_stream)

  judged_ended : Outcome i s g n A → Ended (stored ss k (judged_in i s g n A)) g ss
  unfolding process_frame discarded released answer_number
  judged_ended (inl w) = inl (w.0, put_back_law w.0 _ w.1)
  judged_ended (inr p) = inr (rw p.1 (settles (λ j. answer_number j.answer < number_of Unsound) s g (charged n) A (eligibility_time s g (charged n) A) (omega arith) (omega arith)))

  pub ended : Ended (received i g ss k n A) g ss
  ended = go (ready (length ss) k) refl
    where
      go : (t : Bool) → ready (length ss) k ≡ t → Ended (received i g ss k n A) g ss
      go true e = rw (is_stored i g ss k n A e) (judged_ended (outcome i s g n A))
      go false e = inl (unreadiness (length ss), is_unready i g ss k n A e)
