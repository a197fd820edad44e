-- Laws of the lines that have room. Assumes nothing.
use mathlib.Core.Path.{◌≡◌, refl, sym, ap, ◌∙◌, subst}
use mathlib.Core.Bool.{Bool, true, false, cond}
use mathlib.Core.List.{List, [], ◌∷◌, ◌++◌, append_assoc}
use Prim.Native.Nat.{ℕ, zero, suc, ◌-◌, ◌≤◌, ◌<◌}
use native.Mathlib.Omega.{arith}
use borrow.Author.Tests.{le-leb, lt-leb, leb-true}
use lib.Dec.{leb}
use lib.ListN.{length, drop, length-append}
use Rattle.quantity.proofs.Booleans.{cond_true, cond_false}
use Rattle.intake.specs.declared.Next.{Next}
use Rattle.intake.specs.declared.Next.TheVariants.{GoesOn, Reads, Ends, Fails}
use Rattle.replay_text.specs.Lines.{text_of, line_room}
use Rattle.replay_text.specs.declared.Line.{Line}
use Rattle.replay_account.specs.Account.{told, Fitting, no_line, onto, part_of, next_by}
use Rattle.replay_account.specs.Promises.{AllShort, none, and_one}

-- ---- with room, and without

module _ (room : ℕ) where
  pub has_room_law : (x : Line) (xs : List Line) → line_room ≤ room → part_of room (x ∷ xs) ≡ onto (text_of x) (part_of (room - length (text_of x)) xs)
  unfolding part_of
  has_room_law x xs h = cond_true (leb line_room room) (onto (text_of x) (part_of (room - length (text_of x)) xs)) no_line (le-leb _ _ h)

  pub no_room : (xs : List Line) → room < line_room → part_of room xs ≡ no_line
  unfolding part_of
  no_room [] h = refl
  no_room (x ∷ xs) h = cond_false (leb line_room room) (onto (text_of x) (part_of (room - length (text_of x)) xs)) no_line (lt-leb _ _ h)

-- what holds of no line, and of a line with room where it holds of those behind it, holds of the part
by_room : (P : Fitting → Type 0) (room : ℕ) (x : Line) (xs : List Line)
    → P no_line → (line_room ≤ room → P (onto (text_of x) (part_of (room - length (text_of x)) xs))) → P (part_of room (x ∷ xs))
unfolding part_of
by_room P room x xs without with-room = go (leb line_room room) refl
  where
    go : (t : Bool) → leb line_room room ≡ t → P (cond t (onto (text_of x) (part_of (room - length (text_of x)) xs)) no_line)
    go true is = with-room (leb-true _ _ is)
    go false is = without

-- ---- what a part is

-- its text, and then the texts of the lines behind it, are the texts of all
pub then_the_rest : (room : ℕ) (xs : List Line) → told xs ≡ (part_of room xs).text ++ told (drop (part_of room xs).count xs)
unfolding part_of told no_line onto
then_the_rest room [] = refl
then_the_rest room (x ∷ xs) =
    let rest = part_of (room - length (text_of x)) xs in
    by_room (λ p. told (x ∷ xs) ≡ p.text ++ told (drop p.count (x ∷ xs))) room x xs refl
    (λ h. ap (λ (l : List ℕ). text_of x ++ l) (then_the_rest (room - length (text_of x)) xs) ∙ sym (append_assoc (text_of x) rest.text (told (drop rest.count xs))))

pub no_more_lines : (room : ℕ) (xs : List Line) → (part_of room xs).count ≤ length xs
unfolding part_of no_line onto
no_more_lines room [] = omega arith
no_more_lines room (x ∷ xs) =
    by_room (λ p. p.count ≤ length (x ∷ xs)) room x xs (omega arith) (λ h. omega (arith, no_more_lines (room - length (text_of x)) xs))

pub some_put : (room : ℕ) (xs : List Line) → line_room ≤ room → 0 < length xs → 0 < (part_of room xs).count
unfolding onto
some_put room [] h n = absurd (omega arith)
some_put room (x ∷ xs) h n = subst (λ (p : Fitting). 0 < p.count) (sym (has_room_law room x xs h)) (omega arith)

pub text_within : (room : ℕ) {xs : List Line} → AllShort xs → length (part_of room xs).text ≤ room
unfolding part_of no_line onto
text_within room none = omega arith
text_within room (and_one {x} {xs} s rest) =
    by_room (λ p. length p.text ≤ room) room x xs (omega arith)
    (λ h. omega (arith, length-append (text_of x) (part_of (room - length (text_of x)) xs).text, text_within (room - length (text_of x)) rest))

pub short_behind : (k : ℕ) {xs : List Line} → AllShort xs → AllShort (drop k xs)
short_behind zero s = s
short_behind (suc k) none = none
short_behind (suc k) (and_one h s) = short_behind k s

pub short_both : {xs ys : List Line} → AllShort xs → AllShort ys → AllShort (xs ++ ys)
short_both none t = t
short_both (and_one h s) t = and_one h (short_both s t)

-- ---- what comes next

-- a number for each, by which they are told apart
abbrev which : Next → ℕ
which GoesOn = 0
which Reads = 1
which Ends = 2
which Fails = 3

pub on_means : (put : ℕ) (left : List Line) → next_by put left ≡ GoesOn → (0 < put) × (0 < length left)
unfolding next_by
on_means put [] e = absurd (omega (arith, ap which e))
on_means zero (x ∷ left) e = absurd (omega (arith, ap which e))
on_means (suc put) (x ∷ left) e = (omega arith, omega arith)

pub never_reads : (put : ℕ) (left : List Line) → next_by put left ≡ Reads → ⊥
unfolding next_by
never_reads put [] e = omega (arith, ap which e)
never_reads zero (x ∷ left) e = omega (arith, ap which e)
never_reads (suc put) (x ∷ left) e = omega (arith, ap which e)

pub end_means : (put : ℕ) (left : List Line) → next_by put left ≡ Ends → left ≡ []
unfolding next_by
end_means put [] e = refl
end_means zero (x ∷ left) e = absurd (omega (arith, ap which e))
end_means (suc put) (x ∷ left) e = absurd (omega (arith, ap which e))

pub failure_means : (put : ℕ) (left : List Line) → next_by put left ≡ Fails → (put ≡ 0) × (0 < length left)
unfolding next_by
failure_means put [] e = absurd (omega (arith, ap which e))
failure_means zero (x ∷ left) e = (refl, omega arith)
failure_means (suc put) (x ∷ left) e = absurd (omega (arith, ap which e))
