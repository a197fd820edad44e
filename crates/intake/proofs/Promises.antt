-- The promises of a session, proved: each theorem has the name of its statement in specs/Promises. Assumes nothing.
use mathlib.Core.Path.{◌≡◌, refl, sym, ap, ◌∙◌, subst}
use mathlib.Core.Bool.{Bool, true, false, cond}
use mathlib.Core.Logic.{◌⊎◌, inl, inr}
use mathlib.Core.List.{List, [], ◌∷◌, ◌++◌, append_assoc, append-nil}
use Prim.Native.Nat.{ℕ, zero, suc, ◌+◌, ◌-◌, ◌≤◌, ◌<◌, min}
use native.Mathlib.Nat.{zero-add, sub-zero, suc-sub-suc}
use borrow.Author.Tests.{le-leb, leb-true}
use lib.Dec.{leb}
use native.Mathlib.Omega.{arith}
use Rattle.std.specs.Prelude.{Ok, Err}
use lib.ListN.{length, take, drop, length-append}
use lib.Seq.{sets, sets-eq, length-sets, take_at, take-add, drop-drop}
use Rattle.tablefile.specs.BigEndian.{AreBytes}
use Rattle.tablefile.proofs.Numbers.{bytes_drop}
use Rattle.intake.specs.declared.Told.{Told}
use Rattle.intake.specs.declared.Told.TheVariants as told
use Rattle.intake.specs.declared.Next.{Next}
use Rattle.intake.specs.declared.Next.TheVariants.{GoesOn, Reads, Ends, Fails}
use Rattle.intake.specs.declared.Held.{Held}
use Rattle.intake.specs.Sessions.{Input, more, ended, failed, bytes_of, readings, EndsWell, after_more, Stepping, Outcome, stopped, written, onward, session, Stood, at_first, after_a_turn, after_a_reading, after_the_end, after_a_failure, MayTurn, MayRead}
use Rattle.intake.specs.Promises.{following, Meaning, Right, AllOfIt, TheBeginning, Moves, ComesToItsEnd, WrittenSoFar, EndedIsAll, TurnStands, ReadingStands, ReadingWithin, KeptWithin, KeptSame, RoomToRead, HeldAfterUse, HeldAfterReading}
use Rattle.quantity.proofs.Booleans.{both, cond_true, cond_false}
use Rattle.intake.specs.Holding.{Within, is_within, saying, came_in, Kept, brought_kept, as_it_was, held_in, kept_for}
use Rattle.intake.proofs.Keeping.{length_part}
use Rattle.intake.proofs.Bytes.{bytes_front, bytes_back, bytes_join}

-- 1 for the one that ends
abbrev pub ending : Next → ℕ
ending GoesOn = 0
ending Reads = 0
ending Ends = 1
ending Fails = 0

pub no_end : {x : Next} → ending x ≡ 0 → x ≡ Ends → ⊥
no_end {x} h e = omega (arith, ap ending e)

-- 1 for the end of the input
abbrev over : Told → ℕ
over told.More = 0
over told.Ended = 1
over told.Failed = 0

not_over : {x : Told} → over x ≡ 0 → x ≡ told.Ended → ⊥
not_over {x} h e = omega (arith, ap over e)

module _ {S F : Type 0} (step : Stepping S) (final_of : S → F) (whole : Meaning S F) (right : Right step final_of whole) where
  -- what is asked of where a session stands: it holds bytes and bytes are to come, and none once the end was told
  pub record Stands (held : List ℕ) (said : Told) (input : Input) : Type 0 where
    pub holds : AreBytes held
    pub comes : AreBytes (bytes_of input)
    pub none : said ≡ told.Ended → bytes_of input ≡ []

  -- where it stands after a turn that used so many of the bytes, and after a reading
  kept : (used : ℕ) {held : List ℕ} {said : Told} {input : Input} → Stands held said input → Stands (drop used held) said input
  kept used {held} h = record { holds = bytes_drop used held h.holds; comes = h.comes; none = h.none }

  joined : (part : List ℕ) {held : List ℕ} {said : Told} (rest : Input) → Stands held said (more part rest) → Stands (held ++ part) told.More rest
  unfolding bytes_of
  joined part {held} rest h = record {
    holds = bytes_join held part h.holds (bytes_front part (bytes_of rest) h.comes);
    comes = bytes_back part (bytes_of rest) h.comes;
    none = λ z. absurd (not_over refl z);
  }

  over_now : (t : Told) {held : List ℕ} {said : Told} {input : Input} → bytes_of input ≡ [] → Stands held said input → Stands held t input
  over_now t e h = record { holds = h.holds; comes = h.comes; none = λ z. e }

  -- ---- to the end

  All : S → List ℕ → Told → Input → Outcome S → Type 0
  All s held said input o = o.close ≡ Ends → whole s (held ++ bytes_of input) ≡ record { text = o.text; final = final_of o.state }

  module _ (go : S → List ℕ → Told → Input → Outcome S) (ih : (s : S) (held : List ℕ) (said : Told) (input : Input) → Stands held said input → All s held said input (go s held said input)) where
    -- a turn that goes on, and then all of what is left
    first : (s : S) (held : List ℕ) (said : Told) (input : Input) → Stands held said input → ((step s held said).next ≡ Ends → ⊥)
        → (kept : List ℕ) (says : Told) (rest : Input)
        → drop (step s held said).used held ++ bytes_of input ≡ kept ++ bytes_of rest
        → Stands kept says rest
        → (go (step s held said).state kept says rest).close ≡ Ends
        → whole s (held ++ bytes_of input)
        ≡ record { text = (step s held said).text ++ (go (step s held said).state kept says rest).text; final = final_of (go (step s held said).state kept says rest).state }
    unfolding All following
    first s held said input h n kept says rest same st c =
        let T = step s held said in
        right.on s held said (bytes_of input) h.holds n
        ∙ ap (λ (l : List ℕ). following T.text (whole T.state l)) same
        ∙ ap (following T.text) (ih T.state kept says rest st c)

    all_by : (s : S) (held : List ℕ) (said : Told) (input : Input) → Stands held said input
        → (x : Next) → (step s held said).next ≡ x
        → All s held said input (written (step s held said).text (onward x (step s held said).state (drop (step s held said).used held) said input go))
    unfolding All written onward stopped bytes_of
    all_by s held said input h GoesOn e c =
        let T = step s held said in
        first s held said input h (λ z. no_end refl (sym e ∙ z)) (drop T.used held) said input refl (kept T.used h) c
    all_by s held said (more part rest) h Reads e c =
        let T = step s held said in
        let K = drop T.used held in
        first s held said (more part rest) h (λ z. no_end refl (sym e ∙ z)) (K ++ part) told.More rest (sym (append_assoc K part (bytes_of rest))) (joined part rest (kept T.used h)) c
    all_by s held said ended h Reads e c =
        let T = step s held said in
        first s held said ended h (λ z. no_end refl (sym e ∙ z)) (drop T.used held) told.Ended ended refl (over_now told.Ended refl (kept T.used h)) c
    all_by s held said failed h Reads e c =
        let T = step s held said in
        first s held said failed h (λ z. no_end refl (sym e ∙ z)) (drop T.used held) told.Failed failed refl (over_now told.Failed refl (kept T.used h)) c
    all_by s held said input h Ends e c =
        right.last s held said (bytes_of input) h.holds h.comes h.none e
        ∙ ap (λ (l : List ℕ). record { text = l; final = final_of (step s held said).state }) (sym (append-nil (step s held said).text))
    all_by s held said input h Fails e c = absurd (no_end refl c)

  all : (turns : ℕ) (s : S) (held : List ℕ) (said : Told) (input : Input) → Stands held said input → All s held said input (session step turns s held said input)
  unfolding All session stopped
  all zero s held said input h c = absurd (no_end refl c)
  all (suc turns) s held said input h c = all_by (session step turns) (all turns) s held said input h (step s held said).next refl c

  -- ---- and not

  Begun : List ℕ → S → List ℕ → Input → Outcome S → Type 0
  Begun after s held input o =
      (o.close ≡ Ends → ⊥) → whole s (held ++ (bytes_of input ++ after)) ≡ following o.text (whole o.state (o.held ++ (bytes_of o.left ++ after)))

  module _ (after : List ℕ) (go : S → List ℕ → Told → Input → Outcome S) (ih : (s : S) (held : List ℕ) (said : Told) (input : Input) → Stands held said input → Begun after s held input (go s held said input)) where
    -- a turn that goes on, and then what is begun
    turn_first : (s : S) (held : List ℕ) (said : Told) (input : Input) → Stands held said input → ((step s held said).next ≡ Ends → ⊥)
        → (o : Outcome S) (kept : List ℕ) (rest : Input)
        → drop (step s held said).used held ++ (bytes_of input ++ after) ≡ kept ++ (bytes_of rest ++ after)
        → whole (step s held said).state (kept ++ (bytes_of rest ++ after)) ≡ following o.text (whole o.state (o.held ++ (bytes_of o.left ++ after)))
        → whole s (held ++ (bytes_of input ++ after)) ≡ following ((step s held said).text ++ o.text) (whole o.state (o.held ++ (bytes_of o.left ++ after)))
    unfolding following
    turn_first s held said input h n o kept rest same e =
        let T = step s held said in
        let W = whole o.state (o.held ++ (bytes_of o.left ++ after)) in
        right.on s held said (bytes_of input ++ after) h.holds n
        ∙ ap (λ (l : List ℕ). following T.text (whole T.state l)) same
        ∙ ap (following T.text) e
        ∙ ap (λ (l : List ℕ). record { text = l; final = W.final }) (sym (append_assoc T.text o.text W.text))

    begun_by : (s : S) (held : List ℕ) (said : Told) (input : Input) → Stands held said input
        → (x : Next) → (step s held said).next ≡ x
        → Begun after s held input (written (step s held said).text (onward x (step s held said).state (drop (step s held said).used held) said input go))
    unfolding Begun written onward stopped bytes_of following
    begun_by s held said input h GoesOn e n =
        let T = step s held said in
        let K = drop T.used held in
        turn_first s held said input h (λ z. no_end refl (sym e ∙ z)) (go T.state K said input) K input refl (ih T.state K said input (kept T.used h) n)
    begun_by s held said (more part rest) h Reads e n =
        let T = step s held said in
        let K = drop T.used held in
        turn_first s held said (more part rest) h (λ z. no_end refl (sym e ∙ z)) (go T.state (K ++ part) told.More rest) (K ++ part) rest
        (ap (λ (l : List ℕ). K ++ l) (append_assoc part (bytes_of rest) after) ∙ sym (append_assoc K part (bytes_of rest ++ after)))
        (ih T.state (K ++ part) told.More rest (joined part rest (kept T.used h)) n)
    begun_by s held said ended h Reads e n =
        let T = step s held said in
        let K = drop T.used held in
        turn_first s held said ended h (λ z. no_end refl (sym e ∙ z)) (go T.state K told.Ended ended) K ended refl
        (ih T.state K told.Ended ended (over_now told.Ended refl (kept T.used h)) n)
    begun_by s held said failed h Reads e n =
        let T = step s held said in
        let K = drop T.used held in
        turn_first s held said failed h (λ z. no_end refl (sym e ∙ z)) (go T.state K told.Failed failed) K failed refl
        (ih T.state K told.Failed failed (over_now told.Failed refl (kept T.used h)) n)
    begun_by s held said input h Ends e n = absurd (n refl)
    begun_by s held said input h Fails e n =
        let T = step s held said in
        let K = drop T.used held in
        turn_first s held said input h (λ z. no_end refl (sym e ∙ z)) (stopped T.state K input Fails) K input refl refl

  begun : (after : List ℕ) (turns : ℕ) (s : S) (held : List ℕ) (said : Told) (input : Input) → Stands held said input → Begun after s held input (session step turns s held said input)
  unfolding Begun session stopped following
  begun after zero s held said input h n = refl
  begun after (suc turns) s held said input h n = begun_by after (session step turns) (begun after turns) s held said input h (step s held said).next refl n

  starts : (input : Input) → AreBytes (bytes_of input) → Stands [] told.More input
  starts input h = record { holds = λ i. omega arith; comes = h; none = λ z. absurd (not_over refl z) }

pub all_of_it : AllOfIt
unfolding All
all_of_it S F step final_of whole right turns s input h c = all step final_of whole right turns s [] told.More input (starts step final_of whole right input h) c

pub the_beginning : TheBeginning
unfolding Begun
the_beginning S F step final_of whole right turns s input h after n = begun step final_of whole right after turns s [] told.More input (starts step final_of whole right input h) n

-- ---- that it ends

-- 1 while there may be more
abbrev waiting : Told → ℕ
waiting told.More = 1
waiting told.Ended = 0
waiting told.Failed = 0

not_failed : {x : Told} → x ≡ told.Failed → (x ≡ told.Failed → ⊥) → ⊥
not_failed e f = f e

more_waits : (x : Told) → x ≡ told.More → waiting x ≡ 1
more_waits x e = ap waiting e

-- 1 for a failure
abbrev broken : Told → ℕ
broken told.More = 0
broken told.Ended = 0
broken told.Failed = 1

unbroken : {x : Told} → broken x ≡ 0 → x ≡ told.Failed → ⊥
unbroken h e = omega (arith, ap broken e)

module _ {S : Type 0} (step : Stepping S) (May : S → ℕ → Type 0) (work : S → ℕ) (moves : Moves step May work) where
  -- what is still to be done
  left : S → List ℕ → Told → Input → ℕ
  left s held said input = work s + length held + length (bytes_of input) + readings input + waiting said

  Ending : S → List ℕ → Told → Input → ℕ → Outcome S → Type 0
  Ending s held said input turns o =
      AreBytes held → AreBytes (bytes_of input) → EndsWell input → (said ≡ told.Failed → ⊥) → May s (length held + length (bytes_of input)) → left s held said input < turns → o.close ≡ Ends

  module _ (turns : ℕ) (ih : (s : S) (held : List ℕ) (said : Told) (input : Input) → Ending s held said input turns (session step turns s held said input)) where
    ends_by : (s : S) (held : List ℕ) (said : Told) (input : Input) → (x : Next) → (step s held said).next ≡ x
        → Ending s held said input (suc turns) (written (step s held said).text (onward x (step s held said).state (drop (step s held said).used held) said input (session step turns)))
    unfolding Ending left written onward stopped bytes_of readings
    ends_by s held said input GoesOn e a b w f i m =
        let g = moves.goes s held said (length (bytes_of input)) a i e in
        let T = step s held said in
        ih T.state (drop T.used held) said input (bytes_drop T.used held a) b w f g.1 (omega (arith, g.0))
    ends_by s held said (more part rest) Reads e a b (after_more w) f i m =
        let g = moves.reads s held said (length (part ++ bytes_of rest)) a i e in
        let T = step s held said in
        let K = drop T.used held in
        let sum : length (K ++ part) ≡ length K + length part = length-append K part in
        let all : length (part ++ bytes_of rest) ≡ length part + length (bytes_of rest) = length-append part (bytes_of rest) in
        let same : length K + length (part ++ bytes_of rest) ≡ length (K ++ part) + length (bytes_of rest) = omega arith in
        ih T.state (K ++ part) told.More rest
        (bytes_join K part (bytes_drop T.used held a) (bytes_front part (bytes_of rest) b))
        (bytes_back part (bytes_of rest) b)
        w
        (unbroken refl)
        (rw same at g.2)
        (omega (arith, g.1, more_waits said g.0))
    ends_by s held said ended Reads e a b w f i m =
        let g = moves.reads s held said 0 a i e in
        let T = step s held said in
        ih T.state (drop T.used held) told.Ended ended (bytes_drop T.used held a) b w (unbroken refl) g.2 (omega (arith, g.1, more_waits said g.0))
    ends_by s held said failed Reads e a b w f i m = elim w [ ]
    ends_by s held said input Ends e a b w f i m = refl
    ends_by s held said input Fails e a b w f i m = absurd (f (moves.fails s held said (length (bytes_of input)) a i e))

  ends : (turns : ℕ) (s : S) (held : List ℕ) (said : Told) (input : Input) → Ending s held said input turns (session step turns s held said input)
  unfolding Ending session
  ends zero s held said input a b w f i m = absurd (omega arith)
  ends (suc turns) s held said input a b w f i m = ends_by turns (ends turns) s held said input (step s held said).next refl a b w f i m

pub comes_to_its_end : ComesToItsEnd
unfolding Ending left
comes_to_its_end S step May work moves turns s input b w i m =
    ends step May work moves turns s [] told.More input (λ k. omega arith) b w (unbroken refl) (rw (zero-add (length (bytes_of input))) i) (omega arith)

-- ---- within the buffer

saying_within : (h : Held) (x : Told) (size : ℕ) → Within h size → Within (saying h x) size
unfolding saying
saying_within h x size w = record { ahead = w.ahead; inside = w.inside }

pub reading_within : ReadingWithin
unfolding came_in
reading_within h (Ok zero) size w = saying_within h _ size w
reading_within h (Ok (suc k)) size w = record { ahead = omega (arith, w.ahead); inside = omega (arith, w.inside) }
reading_within h (Err why) size w = saying_within h _ size w

pub within_is : (h : Held) (size : ℕ) → Within h size → is_within h size ≡ true
unfolding is_within
within_is h size w = rw (le-leb _ _ w.ahead, le-leb _ _ w.inside)

pub is_within_law : (h : Held) (size : ℕ) → is_within h size ≡ true → Within h size
unfolding is_within
is_within_law h size e = let p = both (leb h.place h.filled) (leb h.filled size) e in record { ahead = leb-true _ _ p.0; inside = leb-true _ _ p.1 }

pub unmoved : (x : Next) (h : Held) (l : List ℕ) → is_within h (length l) ≡ false → as_it_was h l ≡ kept_for x h l
unfolding kept_for
unmoved GoesOn h l e = refl
unmoved Reads h l e = sym (cond_false (is_within h (length l)) (brought_kept h l) (as_it_was h l) e)
unmoved Ends h l e = refl
unmoved Fails h l e = refl

pub brought : (h : Held) (l : List ℕ) → Within h (length l) → kept_for Reads h l ≡ brought_kept h l
unfolding kept_for
brought h l w = cond_true (is_within h (length l)) (brought_kept h l) (as_it_was h l) (within_is h (length l) w)

-- where no reading comes next
pub stays : (x : Next) (h : Held) (l : List ℕ) → (x ≡ GoesOn) ⊎ ((x ≡ Ends) ⊎ (x ≡ Fails)) → as_it_was h l ≡ kept_for x h l
unfolding kept_for
stays x h l (inl e) = sym (ap (λ (y : Next). kept_for y h l) e)
stays x h l (inr (inl e)) = sym (ap (λ (y : Next). kept_for y h l) e)
stays x h l (inr (inr e)) = sym (ap (λ (y : Next). kept_for y h l) e)

pub kept_within : KeptWithin
unfolding kept_for brought_kept held_in as_it_was
kept_within GoesOn h l w = (w, refl)
kept_within Reads h l w =
    let long = length-sets l 0 (take (h.filled - h.place) (drop h.place l)) in
    subst (λ (k : Kept). Within k.held (length k.bytes) × (length k.bytes ≡ length l)) (sym (brought h l w))
    (record { ahead = omega arith; inside = omega (arith, long, w.inside) }, long)
kept_within Ends h l w = (w, refl)
kept_within Fails h l w = (w, refl)

-- what is kept was told the same
pub kept_told : (n : Next) (h : Held) (l : List ℕ) → (kept_for n h l).held.told ≡ h.told
unfolding kept_for as_it_was brought_kept
kept_told GoesOn h l = refl
kept_told Reads h l = go (is_within h (length l))
  where
    go : (t : Bool) → (cond t (brought_kept h l) (as_it_was h l)).held.told ≡ h.told
    go true = refl
    go false = refl
kept_told Ends h l = refl
kept_told Fails h l = refl

brought_same : (h : Held) (l : List ℕ) → Within h (length l) → held_in (brought_kept h l).held (brought_kept h l).bytes ≡ held_in h l
unfolding brought_kept held_in
brought_same h l w =
    let n = h.filled - h.place in
    let part = take n (drop h.place l) in
    let long : length part ≡ n = length_part l h.place h.filled w.ahead w.inside in
    ap (λ (k : ℕ). take k (sets l 0 part)) (sub-zero n ∙ sym long)
    ∙ ap (take (length part)) (sets-eq part l 0 (omega (arith, long, w.inside)))
    ∙ take_at part (drop (0 + length part) l) (length part) refl

pub kept_same : KeptSame
unfolding kept_for as_it_was
kept_same GoesOn h l w = refl
kept_same Reads h l w = ap (λ (k : Kept). held_in k.held k.bytes) (brought h l w) ∙ brought_same h l w
kept_same Ends h l w = refl
kept_same Fails h l w = refl

pub room_to_read : RoomToRead
unfolding brought_kept held_in
room_to_read h l w n =
    subst (λ (k : Kept). k.held.filled < length k.bytes) (sym (brought h l w))
    (omega (arith, n, length_part l h.place h.filled w.ahead w.inside, length-sets l 0 (take (h.filled - h.place) (drop h.place l))))

drop_part : (u n : ℕ) (l : List ℕ) → u ≤ n → take (n - u) (drop u l) ≡ drop u (take n l)
drop_part zero n l h = ap (λ (k : ℕ). take k l) (sub-zero n)
drop_part (suc u) zero l h = absurd (omega arith)
drop_part (suc u) (suc n) [] h = ap (λ (k : ℕ). take k []) (suc-sub-suc n u) ∙ take_none (n - u)
  where
    take_none : (k : ℕ) → ◌≡◌ {A = List ℕ} (take k []) []
    take_none zero = refl
    take_none (suc k) = refl
drop_part (suc u) (suc n) (x ∷ l) h = ap (λ (k : ℕ). take k (drop u l)) (suc-sub-suc n u) ∙ drop_part u n l (omega arith)

drop_part' : (u n : ℕ) (l : List ℕ) → take n (drop u l) ≡ drop u (take (u + n) l)
drop_part' u n l = let e : n ≡ u + n - u = omega arith in ap (λ (k : ℕ). take k (drop u l)) e ∙ drop_part u (u + n) l (omega arith)

pub held_after_use : HeldAfterUse
unfolding held_in
held_after_use h used l w =
    let rest : h.filled - (h.place + used) ≡ h.filled - h.place - used = omega arith in
    ap (λ (k : ℕ). take k (drop (h.place + used) l)) rest
    ∙ ap (take (h.filled - h.place - used)) (sym (drop-drop used h.place l))
    ∙ drop_part used (h.filled - h.place) (drop h.place l) w

pub held_after_reading : HeldAfterReading
unfolding held_in came_in
held_after_reading h k size l m w same =
    let n = h.filled - h.place in
    let c = min (suc k) (size - h.filled) in
    let more : h.filled + c - h.place ≡ n + c = omega (arith, w.ahead) in
    let at : h.place + n ≡ h.filled = omega (arith, w.ahead) in
    let front : take n (drop h.place m) ≡ take n (drop h.place l) =
    drop_part' h.place n m ∙ ap (drop h.place) (ap (λ (i : ℕ). take i m) at ∙ same ∙ sym (ap (λ (i : ℕ). take i l) at)) ∙ sym (drop_part' h.place n l) in
    ap (λ (i : ℕ). take i (drop h.place m)) more
    ∙ take-add n c (drop h.place m)
    ∙ ap (λ (x : List ℕ). x ++ take c (drop n (drop h.place m))) front
    ∙ ap (λ (x : List ℕ). take n (drop h.place l) ++ take c x) (drop-drop n h.place m ∙ ap (λ (i : ℕ). drop i m) at)

-- ---- where a program stands

module _ {S F : Type 0} (step : Stepping S) (final_of : S → F) (whole : Meaning S F) (right : Right step final_of whole) (start : S) where
  -- it holds bytes
  held_bytes : {n : ℕ} {read text : List ℕ} {s : S} {held : List ℕ} {said : Told} → Stood step start n read text s held said → AreBytes read → AreBytes held
  held_bytes at_first h = h
  held_bytes (after_a_turn {s = s} {held = held} {said = said} x e) h = bytes_drop (step s held said).used held (held_bytes x h)
  held_bytes (after_a_reading {read = read} {s = s} {held = held} {said = said} x e part) h =
      bytes_join (drop (step s held said).used held) part (bytes_drop (step s held said).used held (held_bytes x (bytes_front read part h))) (bytes_back read part h)
  held_bytes (after_the_end {s = s} {held = held} {said = said} x e) h = bytes_drop (step s held said).used held (held_bytes x h)
  held_bytes (after_a_failure {s = s} {held = held} {said = said} x e) h = bytes_drop (step s held said).used held (held_bytes x h)

  -- what was written before a turn that goes on, and what it writes
  and_its_text : (text : List ℕ) (s : S) (held : List ℕ) (said : Told) (l after : List ℕ) → AreBytes held → ((step s held said).next ≡ Ends → ⊥)
      → whole start l ≡ following text (whole s (held ++ after))
      → whole start l ≡ following (text ++ (step s held said).text) (whole (step s held said).state (drop (step s held said).used held ++ after))
  unfolding following
  and_its_text text s held said l after h n e =
      let T = step s held said in
      let W = whole T.state (drop T.used held ++ after) in
      e
      ∙ ap (following text) (right.on s held said after h n)
      ∙ ap (λ (x : List ℕ). record { text = x; final = W.final }) (sym (append_assoc text T.text W.text))

  so_far : {n : ℕ} {read text : List ℕ} {s : S} {held : List ℕ} {said : Told} → Stood step start n read text s held said → AreBytes read → (after : List ℕ)
      → whole start (read ++ after) ≡ following text (whole s (held ++ after))
  unfolding following
  so_far at_first h after = refl
  so_far (after_a_turn {text = text} {s = s} {held = held} {said = said} x e) h after =
      and_its_text text s held said _ after (held_bytes x h) (λ z. no_end refl (sym e ∙ z)) (so_far x h after)
  so_far (after_a_reading {read = read} {text = text} {s = s} {held = held} {said = said} x e part) h after =
      let K = drop (step s held said).used held in
      let b = bytes_front read part h in
      ap (whole start) (append_assoc read part after)
      ∙ and_its_text text s held said _ (part ++ after) (held_bytes x b) (λ z. no_end refl (sym e ∙ z)) (so_far x b (part ++ after))
      ∙ ap (λ (l : List ℕ). following (text ++ (step s held said).text) (whole (step s held said).state l)) (sym (append_assoc K part after))
  so_far (after_the_end {text = text} {s = s} {held = held} {said = said} x e) h after =
      and_its_text text s held said _ after (held_bytes x h) (λ z. no_end refl (sym e ∙ z)) (so_far x h after)
  so_far (after_a_failure {text = text} {s = s} {held = held} {said = said} x e) h after =
      and_its_text text s held said _ after (held_bytes x h) (λ z. no_end refl (sym e ∙ z)) (so_far x h after)

pub written_so_far : WrittenSoFar
written_so_far S F step final_of whole right start n read text s held said x h after = so_far step final_of whole right start x h after

pub ended_is_all : EndedIsAll
unfolding following
ended_is_all S F step final_of whole right start n s e h =
    let T = step e.state e.before e.said in
    let b = held_bytes step final_of whole right start e.turned.stands h in
    ap (whole start) (sym (append-nil e.turned.read))
    ∙ written_so_far S F step final_of whole right start n _ _ _ _ _ e.turned.stands h []
    ∙ ap (following e.turned.text) (right.last e.state e.before e.said [] b (λ i. omega arith) (λ z. refl) e.ends)
    ∙ ap (λ (x : S). record { text = e.turned.text ++ T.text; final = final_of x }) (sym e.left)

pub turn_stands : TurnStands
turn_stands S step start n s held said may s' held' said' a b c =
    let T = step s held said in
    record {
      goes = λ e.
          subst (λ (x : S). MayTurn step start (suc n) x held' said') (sym a)
          (subst (λ (l : List ℕ). MayTurn step start (suc n) T.state l said') (sym b)
          (subst (λ (t : Told). MayTurn step start (suc n) T.state (drop T.used held) t) (sym c)
          (record { read = may.read; text = _; stands = after_a_turn may.stands e })));
      reads = λ e. record { state = s; before = held; said = said; turned = may; asks = e; left = a; kept = b };
      ends = λ e. record { state = s; before = held; said = said; turned = may; ends = e; left = a };
    }

-- the same bytes are held in two buffers that agree up to the place that is filled
same_held : (h : Held) (t : Told) (l m : List ℕ) → h.place ≤ h.filled → take h.filled m ≡ take h.filled l → held_in (saying h t) m ≡ held_in h l
unfolding held_in saying
same_held h t l m w same =
    let n = h.filled - h.place in
    let at : h.place + n ≡ h.filled = omega arith in
    drop_part' h.place n m ∙ ap (drop h.place) (ap (λ (i : ℕ). take i m) at ∙ same ∙ sym (ap (λ (i : ℕ). take i l) at)) ∙ sym (drop_part' h.place n l)

module _ {S : Type 0} (step : Stepping S) (start : S) (n : ℕ) where
  -- what a reading said, and the bytes that are held after it
  told_so : (t : Told) → (s : S) (kept : List ℕ) → MayRead step start n s kept → MayTurn step start (suc n) s kept t
  told_so told.More s kept r =
      subst (λ (x : S). MayTurn step start (suc n) x kept told.More) (sym r.left)
      (subst (λ (l : List ℕ). MayTurn step start (suc n) (step r.state r.before r.said).state l told.More) (append-nil _ ∙ sym r.kept)
      (record { read = r.turned.read ++ []; text = _; stands = after_a_reading r.turned.stands r.asks [] }))
  told_so told.Ended s kept r =
      subst (λ (x : S). MayTurn step start (suc n) x kept told.Ended) (sym r.left)
      (subst (λ (l : List ℕ). MayTurn step start (suc n) (step r.state r.before r.said).state l told.Ended) (sym r.kept)
      (record { read = r.turned.read; text = _; stands = after_the_end r.turned.stands r.asks }))
  told_so told.Failed s kept r =
      subst (λ (x : S). MayTurn step start (suc n) x kept told.Failed) (sym r.left)
      (subst (λ (l : List ℕ). MayTurn step start (suc n) (step r.state r.before r.said).state l told.Failed) (sym r.kept)
      (record { read = r.turned.read; text = _; stands = after_a_failure r.turned.stands r.asks }))

  brought_more : (part : List ℕ) (s : S) (kept : List ℕ) → MayRead step start n s kept → MayTurn step start (suc n) s (kept ++ part) told.More
  brought_more part s kept r =
      subst (λ (x : S). MayTurn step start (suc n) x (kept ++ part) told.More) (sym r.left)
      (subst (λ (l : List ℕ). MayTurn step start (suc n) (step r.state r.before r.said).state (l ++ part) told.More) (sym r.kept)
      (record { read = r.turned.read ++ part; text = _; stands = after_a_reading r.turned.stands r.asks part }))

  said_so : (t : Told) (s : S) (h : Held) (l m : List ℕ) → h.place ≤ h.filled → take h.filled m ≡ take h.filled l → MayRead step start n s (held_in h l)
      → MayTurn step start (suc n) s (held_in (saying h t) m) (saying h t).told
  unfolding saying
  said_so t s h l m w same r = subst (λ (x : List ℕ). MayTurn step start (suc n) s x t) (sym (same_held h t l m w same)) (told_so t s (held_in h l) r)

pub reading_stands : ReadingStands
unfolding came_in
reading_stands S step start n s h l w r (Ok zero) m same = said_so step start n _ s h l m w.ahead same r
reading_stands S step start n s h l w r (Ok (suc k)) m same =
    subst (λ (x : List ℕ). MayTurn step start (suc n) s x told.More) (sym (held_after_reading h k (length l) l m w same)) (brought_more step start n _ s (held_in h l) r)
reading_stands S step start n s h l w r (Err why) m same = said_so step start n _ s h l m w.ahead same r
