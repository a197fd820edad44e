-- Laws of a part under way: it starts, a line is put and it goes on, and it stops. Assumes nothing.
use mathlib.Core.Path.{◌≡◌, refl, sym, ap, ◌∙◌}
use mathlib.Core.Bool.{Bool, true, false, ◌&&◌}
use mathlib.Core.List.{List, [], ◌∷◌, ◌++◌, append_assoc, append-nil}
use Prim.Native.Nat.{ℕ, zero, suc, ◌+◌, ◌-◌, ◌≤◌, ◌<◌}
use native.Mathlib.Nat.{add-zero, zero-add, sub-zero}
use native.Mathlib.Numerals.{add-one}
use native.Mathlib.Omega.{arith}
use borrow.Author.Tests.{lt-ltb, le-ltb, le-leb, lt-leb, ltb-true, ltb-false, leb-true, leb-false}
use lib.Dec.{ltb, leb}
use lib.ListN.{length, get_or, drop, length-append, length-drop, drop_of_length-le}
use lib.Seq.{sets, length-sets, drop-cons}
use Rattle.quantity.proofs.Booleans.{both, cond_true}
use Rattle.text.specs.Places.{Placed, placed}
use Rattle.text.proofs.Stores.{fits}
use Rattle.text.proofs.Putting.{sets_append}
use Rattle.intake.specs.declared.Next.{Next}
use Rattle.intake.specs.declared.Next.TheVariants.{GoesOn, Ends, Fails}
use Rattle.replay_text.specs.Lines.{text_of, line_room, line_put}
use Rattle.replay_text.specs.declared.Line.{Line}
use Rattle.replay_account.specs.Account.{Fitting, no_line, onto, part_of, next_by, put_as, lines_put}
use Rattle.replay_account.specs.Steps.{next_after}
use Rattle.replay_account.proofs.Parts.{has_room_law, no_room}

-- lines behind so many others
pub behind : ℕ → List ℕ → Fitting → Fitting
behind n text x = record { count = n + x.count; text = text ++ x.text }

behind_onto : (n : ℕ) (text line : List ℕ) (x : Fitting) → behind n text (onto line x) ≡ behind (suc n) (text ++ line) x
unfolding behind onto
behind_onto n text line x =
    let e : n + suc x.count ≡ suc n + x.count = omega arith in
    ap (λ (m : ℕ). record { count = m; text = text ++ (line ++ x.text) }) e
    ∙ ap (λ (l : List ℕ). record { count = suc n + x.count; text = l }) (sym (append_assoc text line x.text))

behind_none : (n : ℕ) (text : List ℕ) → behind n text no_line ≡ record { count = n; text = text }
unfolding behind no_line
behind_none n text = ap (λ (m : ℕ). record { count = m; text = text ++ [] }) (add-zero n) ∙ ap (λ (l : List ℕ). record { count = n; text = l }) (append-nil text)

-- ---- a test that holds, or not

pub holds : (k lines room : ℕ) → ltb k lines && leb line_room room ≡ true → (k < lines) × (line_room ≤ room)
holds k lines room e = let p = both (ltb k lines) (leb line_room room) e in (ltb-true _ _ p.0, leb-true _ _ p.1)

pub may_go : (k lines room : ℕ) → k < lines → leb line_room room ≡ ltb k lines && leb line_room room
may_go k lines room h = let e : ltb k lines ≡ true = lt-ltb _ _ h in rw e

pub no_line_left : (k lines room : ℕ) → lines ≤ k → false ≡ ltb k lines && leb line_room room
no_line_left k lines room h = let e : ltb k lines ≡ false = le-ltb _ _ h in rw e

-- nothing more has room
none_more : (lines : List Line) (k room : ℕ) → ltb k (length lines) && leb line_room room ≡ false → part_of room (drop k lines) ≡ no_line
unfolding part_of
none_more lines k room e = go (ltb k (length lines)) refl e
  where
    go : (t : Bool) → ltb k (length lines) ≡ t → t && leb line_room room ≡ false → part_of room (drop k lines) ≡ no_line
    go true is e = no_room room (drop k lines) (leb-false _ _ e)
    go false is e = ap (part_of room) (drop_of_length-le lines (ltb-false _ _ is))

-- ---- what comes next

pub all_put : (from k lines : ℕ) → lines ≤ k → Ends ≡ next_after from k lines
unfolding next_after
all_put from k lines h = let e : leb lines k ≡ true = le-leb _ _ h in rw e

pub none_put : (from k lines : ℕ) → k < lines → k ≤ from → Fails ≡ next_after from k lines
unfolding next_after
none_put from k lines h g =
    let e : leb lines k ≡ false = lt-leb _ _ h in
    let f : leb k from ≡ true = le-leb _ _ g in
    rw (e, f)

pub some_left : (from k lines : ℕ) → k < lines → from < k → GoesOn ≡ next_after from k lines
unfolding next_after
some_left from k lines h g =
    let e : leb lines k ≡ false = lt-leb _ _ h in
    let f : leb k from ≡ false = lt-leb _ _ g in
    rw (e, f)

next_is : (lines : List Line) (from k : ℕ) → from ≤ k → next_after from k (length lines) ≡ next_by (k - from) (drop k lines)
unfolding next_by
next_is lines from k h = go (k - from) refl (drop k lines) refl
  where
    go : (n : ℕ) → n ≡ k - from → (left : List Line) → left ≡ drop k lines → next_after from k (length lines) ≡ next_by n left
    go n e [] f = sym (all_put from k (length lines) (omega (arith, ap length f, length-drop k lines)))
    go zero e (x ∷ left) f = sym (none_put from k (length lines) (omega (arith, ap length f, length-drop k lines)) (omega arith))
    go (suc n) e (x ∷ left) f = sym (some_left from k (length lines) (omega (arith, ap length f, length-drop k lines)) (omega arith))

-- ---- a line that has room is put

line_is_put : (out : List ℕ) (w : ℕ) (line : Line) → w + line_room ≤ length out → length (text_of line) ≤ line_room
    → (w' : ℕ) (out' : List ℕ) → record { next = w'; bytes = out' } ≡ line_put out w line
    → (w' ≡ w + length (text_of line)) × (out' ≡ sets out w (text_of line))
unfolding line_put
line_is_put out w line room short w' out' e =
    let p : ◌≡◌ {A = Placed} (record { next = w'; bytes = out' }) (record { next = w + length (text_of line); bytes = sets out w (text_of line) }) =
    e
    ∙ cond_true (leb (w + line_room) (length out)) (placed out w (text_of line)) (record { next = w; bytes = out }) (le-leb _ _ room)
    ∙ sym (fits out w (text_of line) (omega arith)) in
    (ap (λ (x : Placed). x.next) p, ap (λ (x : Placed). x.bytes) p)

-- n lines were put, whose text stands at the front
put_so_far : (lines : List Line) (from : ℕ) (out₀ : List ℕ) (k w : ℕ) (out : List ℕ) (next : Next) (n : ℕ) (text : List ℕ)
    → k ≡ from + n → next ≡ next_by n (drop k lines) → w ≡ length text → out ≡ sets out₀ 0 text
    → record { part = record { line = k; written = w; next = next }; out = out } ≡ put_as lines from out₀ (record { count = n; text = text })
unfolding put_as
put_so_far lines from out₀ k w out next n text at is ends stands =
    ap (λ (x : Next). record { part = record { line = k; written = w; next = x }; out = out }) is
    ∙ ap (λ (m : ℕ). record { part = record { line = m; written = w; next = next_by n (drop m lines) }; out = out }) at
    ∙ ap (λ (m : ℕ). record { part = record { line = from + n; written = m; next = next_by n (drop (from + n) lines) }; out = out }) ends
    ∙ ap (λ (o : List ℕ). record { part = record { line = from + n; written = length text; next = next_by n (drop (from + n) lines) }; out = o }) stands

-- ---- under way

-- from the number `from` up to the number k, with w bytes written: the text that stands at the front, with what is still to be put, is the whole part
pub record Underway (lines : List Line) (from : ℕ) (out₀ : List ℕ) (k w : ℕ) (out : List ℕ) : Type 0 where
  pub reached : from ≤ k
  pub text : List ℕ
  pub ends : w ≡ length text
  pub stands : out ≡ sets out₀ 0 text
  pub within : w ≤ length out₀
  pub long : length out ≡ length out₀
  pub total : part_of (length out₀) (drop from lines) ≡ behind (k - from) text (part_of (length out₀ - w) (drop k lines))

pub starts : (lines : List Line) (from : ℕ) (out : List ℕ) → Underway lines from out from 0 out
unfolding behind
starts lines from out = record {
  reached = omega arith;
  text = [];
  ends = refl;
  stands = refl;
  within = omega arith;
  long = refl;
  total =
      let x = part_of (length out) (drop from lines) in
      let e : x.count ≡ from - from + x.count = omega arith in
      ap (λ (n : ℕ). record { count = n; text = x.text }) e
      ∙ ap (λ (m : ℕ). record { count = from - from + (part_of m (drop from lines)).count; text = (part_of m (drop from lines)).text }) (sym (sub-zero (length out)));
}

module _ (lines : List Line) (from : ℕ) (out₀ : List ℕ) (k w : ℕ) (out : List ℕ) (u : Underway lines from out₀ k w out) where
  pub turns : (d line : Line) → k < length lines → line_room ≤ length out - w → line ≡ get_or lines k d → length (text_of line) ≤ line_room
      → (w' : ℕ) (out' : List ℕ) → record { next = w'; bytes = out' } ≡ line_put out w line
      → Underway lines from out₀ (k + 1) w' out'
  turns d line in_lines room is short w' out' e =
      let long = u.long in
      let put = line_is_put out w line (omega arith) short w' out' e in
      let here : drop k lines ≡ line ∷ drop (k + 1) lines = rw (add-one k, is) (drop-cons lines k d in_lines) in
      let left : length out₀ - w - length (text_of line) ≡ length out₀ - w' = omega (arith, put.0) in
      let more : suc (k - from) ≡ k + 1 - from = omega (arith, u.reached) in
      let stands : out' ≡ sets out₀ 0 (u.text ++ text_of line) =
      put.1
      ∙ ap (λ (l : List ℕ). sets l w (text_of line)) u.stands
      ∙ ap (λ (n : ℕ). sets (sets out₀ 0 u.text) n (text_of line)) (u.ends ∙ sym (zero-add (length u.text)))
      ∙ sets_append u.text (text_of line) out₀ 0 in
      record {
        reached = omega (arith, u.reached);
        text = u.text ++ text_of line;
        ends = put.0 ∙ ap (λ (n : ℕ). n + length (text_of line)) u.ends ∙ sym (length-append u.text (text_of line));
        stands = stands;
        within = omega (arith, put.0);
        long = ap length stands ∙ length-sets out₀ 0 (u.text ++ text_of line);
        total =
            u.total
            ∙ ap (λ (l : List Line). behind (k - from) u.text (part_of (length out₀ - w) l)) here
            ∙ ap (behind (k - from) u.text) (has_room_law (length out₀ - w) line (drop (k + 1) lines) (omega arith))
            ∙ behind_onto (k - from) u.text (text_of line) (part_of (length out₀ - w - length (text_of line)) (drop (k + 1) lines))
            ∙ ap (λ (m : ℕ). behind (suc (k - from)) (u.text ++ text_of line) (part_of m (drop (k + 1) lines))) left
            ∙ ap (λ (n : ℕ). behind n (u.text ++ text_of line) (part_of (length out₀ - w') (drop (k + 1) lines))) more;
      }

  pub stops : ltb k (length lines) && leb line_room (length out - w) ≡ false → (next : Next) → next ≡ next_after from k (length lines)
      → record { part = record { line = k; written = w; next = next }; out = out } ≡ lines_put lines from out₀
  unfolding lines_put
  stops e next is =
      let room : length out - w ≡ length out₀ - w = omega (arith, u.long) in
      let none_left = none_more lines k (length out₀ - w) (rw room at e) in
      put_so_far lines from out₀ k w out next (k - from) u.text (omega (arith, u.reached)) (is ∙ next_is lines from k u.reached) u.ends u.stands
      ∙ sym (ap (put_as lines from out₀) (u.total ∙ ap (behind (k - from) u.text) none_left ∙ behind_none (k - from) u.text))
