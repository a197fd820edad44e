-- Laws of an account's lines: how many there are, and the one of a number. Assumes nothing.
use mathlib.Core.Path.{◌≡◌, refl, sym, ap, ◌∙◌}
use mathlib.Core.List.{List, [], ◌∷◌, ◌++◌}
use Prim.Native.Nat.{ℕ, zero, suc, ◌+◌, ◌-◌, ◌≤◌, ◌<◌, min}
use native.Mathlib.Nat.{add-zero, zero-add}
use native.Mathlib.Omega.{arith}
use lib.ListN.{length, get_or, take, length-append, get_or-append}
use lib.Seq.{get_or-append-add, get_or-take, length-take-le, take-nil}
use Rattle.quantity.specs.Kinds.{ticks}
use Rattle.replay_text.specs.Lines.{text_of, line_room}
use Rattle.replay_text.specs.declared.Line.{Line}
use Rattle.replay_text.specs.declared.Line.TheVariants.{Answer, Pick}
use Rattle.replay_text.proofs.Lengths.{no_longer}
use Rattle.replay_account.specs.declared.Account.{Account}
use Rattle.replay_account.specs.Account.{answer_lines, pick_lines, lines_of}
use Rattle.replay_account.specs.Steps.{shown_of, Within, LineAt}

-- ---- the answers

answers_many : (k : ℕ) (ns : List ℕ) → length (answer_lines k ns) ≡ length ns
unfolding answer_lines
answers_many k [] = refl
answers_many k (n ∷ ns) = ap suc (answers_many (k + 1) ns)

answer_at : (j : ℕ) (ns : List ℕ) (k : ℕ) (d : Line) → k < length ns → get_or (answer_lines j ns) k d ≡ Answer (j + k) (get_or ns k 0)
unfolding answer_lines
answer_at j [] k d h = absurd (omega arith)
answer_at j (n ∷ ns) zero d h = rw (add-zero j)
answer_at j (n ∷ ns) (suc k) d h =
    let e : j + 1 + k ≡ j + suc k = omega arith in
    answer_at (j + 1) ns k d (omega arith) ∙ ap (λ (i : ℕ). Answer i (get_or ns k 0)) e

-- ---- the picks

picks_many : (hs ms : List ℕ) → length (pick_lines hs ms) ≡ min (length hs) (length ms)
unfolding pick_lines
picks_many [] ms = omega arith
picks_many (h ∷ hs) [] = omega arith
picks_many (h ∷ hs) (m ∷ ms) = let ih = picks_many hs ms in omega arith

pick_at : (hs ms : List ℕ) (i : ℕ) (d : Line) → i < length hs → i < length ms → get_or (pick_lines hs ms) i d ≡ Pick (get_or hs i 0) (ticks (get_or ms i 0))
unfolding pick_lines
pick_at [] ms i d h g = absurd (omega arith)
pick_at (x ∷ hs) [] i d h g = absurd (omega arith)
pick_at (x ∷ hs) (m ∷ ms) zero d h g = refl
pick_at (x ∷ hs) (m ∷ ms) (suc i) d h g = pick_at hs ms i d (omega arith) (omega arith)

-- ---- no more of them than the lists hold

take_shown : (n : ℕ) (l : List ℕ) → take (min n (length l)) l ≡ take n l
take_shown zero l = let e : min 0 (length l) ≡ 0 = omega arith in ap (λ (i : ℕ). take i l) e
take_shown (suc n) [] = take-nil (min (suc n) 0)
take_shown (suc n) (x ∷ l) =
    let e : min (suc n) (suc (length l)) ≡ suc (min n (length l)) = omega arith in
    ap (λ (i : ℕ). take i (x ∷ l)) e ∙ ap (λ (t : List ℕ). x ∷ t) (take_shown n l)

picks_shown : (n : ℕ) (hs ms : List ℕ) → pick_lines (take (min (min n (length hs)) (length ms)) hs) ms ≡ pick_lines (take n hs) ms
unfolding pick_lines
picks_shown zero hs ms = let e : min (min 0 (length hs)) (length ms) ≡ 0 = omega arith in ap (λ (i : ℕ). pick_lines (take i hs) ms) e
picks_shown (suc n) [] ms = ap (λ (l : List ℕ). pick_lines l ms) (take-nil (min (min (suc n) 0) (length ms)))
picks_shown (suc n) (x ∷ hs) [] = let e : min (min (suc n) (suc (length hs))) 0 ≡ 0 = omega arith in ap (λ (i : ℕ). pick_lines (take i (x ∷ hs)) []) e
picks_shown (suc n) (x ∷ hs) (m ∷ ms) =
    let e : min (min (suc n) (suc (length hs))) (suc (length ms)) ≡ suc (min (min n (length hs)) (length ms)) = omega arith in
    ap (λ (i : ℕ). pick_lines (take i (x ∷ hs)) (m ∷ ms)) e ∙ ap (λ (t : List Line). Pick x (ticks m) ∷ t) (picks_shown n hs ms)

lines_shown : (a : Account) (answers picked moments : List ℕ) → lines_of (shown_of a (length answers) (length picked) (length moments)) answers picked moments ≡ lines_of a answers picked moments
unfolding lines_of shown_of
lines_shown a answers picked moments =
    ap (λ (l : List ℕ). answer_lines 0 l ++ (pick_lines (take (min (min a.picks (length picked)) (length moments)) picked) moments ++ (a.last ∷ []))) (take_shown a.frames answers)
    ∙ ap (λ (l : List Line). answer_lines 0 (take a.frames answers) ++ (l ++ (a.last ∷ []))) (picks_shown a.picks picked moments)

pub shows : (a : Account) (answers picked moments frames both picks : ℕ) → frames ≡ min a.frames answers → both ≡ min a.picks picked → picks ≡ min both moments
    → record { frames = frames; picks = picks; last = a.last } ≡ shown_of a answers picked moments
unfolding shown_of
shows a answers picked moments frames both picks e f g =
    ap (λ (n : ℕ). record { frames = n; picks = picks; last = a.last }) e
    ∙ ap (λ (n : ℕ). record { frames = min a.frames answers; picks = n; last = a.last }) (g ∙ ap (λ (n : ℕ). min n moments) f)

-- t is an account that shows no more of a
module _ (a t : Account) where
  pub same_lines : (answers picked moments : List ℕ) → t ≡ shown_of a (length answers) (length picked) (length moments) → lines_of t answers picked moments ≡ lines_of a answers picked moments
  same_lines answers picked moments e = ap (λ (x : Account). lines_of x answers picked moments) e ∙ lines_shown a answers picked moments

  pub shown_within : (answers picked moments : ℕ) → t ≡ shown_of a answers picked moments → length (text_of t.last) ≤ line_room → Within t answers picked moments
  unfolding shown_of
  shown_within answers picked moments e h = record {
    answered = omega (arith, ap (λ (x : Account). x.frames) e);
    handled = omega (arith, ap (λ (x : Account). x.picks) e);
    timed = omega (arith, ap (λ (x : Account). x.picks) e);
    short = h;
  }

-- ---- all of them, of an account that shows no more than the lists hold

module _ (a : Account) (answers picked moments : List ℕ) (w : Within a (length answers) (length picked) (length moments)) where
  answered_many : length (answer_lines 0 (take a.frames answers)) ≡ a.frames
  answered_many = answers_many 0 (take a.frames answers) ∙ length-take-le a.frames answers w.answered

  taken_many : length (take a.picks picked) ≡ a.picks
  taken_many = length-take-le a.picks picked w.handled

  picked_many : length (pick_lines (take a.picks picked) moments) ≡ a.picks
  picked_many = omega (arith, picks_many (take a.picks picked) moments, taken_many, w.timed)

  pub lines_many : length (lines_of a answers picked moments) ≡ a.frames + a.picks + 1
  unfolding lines_of
  lines_many = simp length-append (omega (arith, answered_many, picked_many))

  -- a line after the answers
  later : (i : ℕ) (d : Line) → get_or (lines_of a answers picked moments) (a.frames + i) d ≡ get_or (pick_lines (take a.picks picked) moments ++ (a.last ∷ [])) i d
  unfolding lines_of
  later i d =
      ap (λ (k : ℕ). get_or (lines_of a answers picked moments) (k + i) d) (sym answered_many)
      ∙ get_or-append-add (answer_lines 0 (take a.frames answers)) (pick_lines (take a.picks picked) moments ++ (a.last ∷ [])) i d

  pub answer_line : (k : ℕ) → k < a.frames → get_or answers k 0 < 256 → LineAt a answers picked moments k (Answer k (get_or answers k 0))
  unfolding lines_of
  answer_line k h b = record {
    is = sym
        (get_or-append (answer_lines 0 (take a.frames answers)) (pick_lines (take a.picks picked) moments ++ (a.last ∷ [])) a.last k (omega (arith, answered_many))
        ∙ answer_at 0 (take a.frames answers) k a.last (omega (arith, length-take-le a.frames answers w.answered))
        ∙ ap (λ (n : ℕ). Answer n (get_or (take a.frames answers) k 0)) (zero-add k)
        ∙ ap (Answer k) (get_or-take a.frames answers k 0 h));
    short = no_longer (Answer k (get_or answers k 0)) (omega arith);
  }

  pub pick_line : (k : ℕ) → a.frames ≤ k → k - a.frames < a.picks
      → LineAt a answers picked moments k (Pick (get_or picked (k - a.frames) 0) (ticks (get_or moments (k - a.frames) 0)))
  pick_line k h g =
      let i : ℕ = k - a.frames in
      let e : k ≡ a.frames + i = omega arith in
      record {
        is = sym
            (ap (λ (n : ℕ). get_or (lines_of a answers picked moments) n a.last) e
            ∙ later i a.last
            ∙ get_or-append (pick_lines (take a.picks picked) moments) (a.last ∷ []) a.last i (omega (arith, picked_many))
            ∙ pick_at (take a.picks picked) moments i a.last (omega (arith, taken_many)) (omega (arith, w.timed))
            ∙ ap (λ (n : ℕ). Pick n (ticks (get_or moments i 0))) (get_or-take a.picks picked i 0 g));
        short = no_longer (Pick (get_or picked i 0) (ticks (get_or moments i 0))) (omega arith);
      }

  -- the last line, or past it
  last_or_past : (j : ℕ) → get_or (a.last ∷ []) j a.last ≡ a.last
  last_or_past zero = refl
  last_or_past (suc j) = refl

  pub last_line : (k : ℕ) → a.frames ≤ k → a.picks ≤ k - a.frames → LineAt a answers picked moments k a.last
  last_line k h g =
      let j : ℕ = k - a.frames - a.picks in
      let e : k ≡ a.frames + (a.picks + j) = omega arith in
      record {
        is = sym
            (ap (λ (n : ℕ). get_or (lines_of a answers picked moments) n a.last) e
            ∙ later (a.picks + j) a.last
            ∙ ap (λ (n : ℕ). get_or (pick_lines (take a.picks picked) moments ++ (a.last ∷ [])) (n + j) a.last) (sym picked_many)
            ∙ get_or-append-add (pick_lines (take a.picks picked) moments) (a.last ∷ []) j a.last
            ∙ last_or_past j);
        short = w.short;
      }
