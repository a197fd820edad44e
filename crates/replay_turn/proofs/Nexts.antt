-- Laws of what comes next after a gathering. Assumes nothing.
use Rattle.std.specs.Prelude.{None}
use mathlib.Core.Path.{◌≡◌, refl, ap}
use mathlib.Core.Bool.{Bool, true, false, cond}
use Prim.Native.Nat.{ℕ}
use native.Mathlib.Omega.{arith}
use borrow.Author.Tests.{eqb-true, eqb-false}
use lib.Dec.{eqb}
use Rattle.quantity.specs.Numbers.{number_of}
use Rattle.quantity.specs.declared.Refusal.{Refusal}
use Rattle.quantity.specs.declared.Refusal.TheVariants.{CutShort}
use Rattle.intake.specs.declared.Told.{Told}
use Rattle.intake.specs.declared.Told.TheVariants.{More, Ended, Failed}
use Rattle.intake.specs.declared.Next.{Next}
use Rattle.intake.specs.declared.Next.TheVariants.{GoesOn, Reads, Ends, Fails}
use Rattle.replay_gathering.specs.declared.End.{End}
use Rattle.replay_gathering.specs.declared.End.TheVariants.{NothingLeft, Unreadable, NotSetUp, ListsFull}
use Rattle.replay_turn.specs.Turns.{at_edge, next_of, unread_note, note_of}
use Rattle.replay_turn.proofs.Meaning.{spoken}

-- ---- each of them is one

-- 0 to 3
abbrev rank : Next → ℕ
rank GoesOn = 0
rank Reads = 1
rank Ends = 2
rank Fails = 3

pub differ : {x y : Next} → x ≡ y → (rank x ≡ rank y → ⊥) → ⊥
differ e h = h (ap rank e)

-- ---- what was told, by what comes next

edge_ends : (told : Told) → at_edge told ≡ Ends → told ≡ Ended
unfolding at_edge
edge_ends More e = absurd (differ e (λ z. omega arith))
edge_ends Ended e = refl
edge_ends Failed e = absurd (differ e (λ z. omega arith))

edge_reads : (told : Told) → at_edge told ≡ Reads → told ≡ More
unfolding at_edge
edge_reads More e = refl
edge_reads Ended e = absurd (differ e (λ z. omega arith))
edge_reads Failed e = absurd (differ e (λ z. omega arith))

edge_fails : (told : Told) → at_edge told ≡ Fails → told ≡ Failed
unfolding at_edge
edge_fails More e = absurd (differ e (λ z. omega arith))
edge_fails Ended e = absurd (differ e (λ z. omega arith))
edge_fails Failed e = refl

edge_stays : (told : Told) → at_edge told ≡ GoesOn → ⊥
unfolding at_edge
edge_stays More e = differ e (λ z. omega arith)
edge_stays Ended e = differ e (λ z. omega arith)
edge_stays Failed e = differ e (λ z. omega arith)

-- ---- why the reading ends: what was held is all that there is, or the reader refused it for good, or a frame has no place
pub data Closed (told : Told) : End → Type 0 where
  at_the_end : told ≡ Ended → Closed told NothingLeft
  cut_at_the_end : (why : Refusal) → told ≡ Ended → Closed told (Unreadable why)
  refused_for_good : (why : Refusal) → (number_of why ≡ number_of CutShort → ⊥) → Closed told (Unreadable why)
  no_place : Closed told ListsFull

pub closed : (why : End) (told : Told) → next_of why told ≡ Ends → Closed told why
unfolding next_of
closed NothingLeft told e = at_the_end (edge_ends told e)
closed (Unreadable why) told e = go (eqb (number_of why) (number_of CutShort)) refl e
  where
    go : (t : Bool) → eqb (number_of why) (number_of CutShort) ≡ t → cond t (at_edge told) Ends ≡ Ends → Closed told (Unreadable why)
    go true q z = cut_at_the_end why (edge_ends told z)
    go false q z = refused_for_good why (eqb-false (number_of why) (number_of CutShort) q)
closed (NotSetUp why) told e = absurd (differ e (λ z. omega arith))
closed ListsFull told e = no_place

-- ---- and why more is read: what is left of what was held is no whole record
pub data Wanting : End → Type 0 where
  no_byte : Wanting NothingLeft
  cut_record : (why : Refusal) → number_of why ≡ number_of CutShort → Wanting (Unreadable why)

pub wanting : (why : End) (told : Told) → next_of why told ≡ Reads → Wanting why × (told ≡ More)
unfolding next_of
wanting NothingLeft told e = (no_byte, edge_reads told e)
wanting (Unreadable why) told e = go (eqb (number_of why) (number_of CutShort)) refl e
  where
    go : (t : Bool) → eqb (number_of why) (number_of CutShort) ≡ t → cond t (at_edge told) Ends ≡ Reads → Wanting (Unreadable why) × (told ≡ More)
    go true q z = (cut_record why (eqb-true (number_of why) (number_of CutShort) q), edge_reads told z)
    go false q z = absurd (differ z (λ w. omega arith))
wanting (NotSetUp why) told e = absurd (differ e (λ z. omega arith))
wanting ListsFull told e = absurd (differ e (λ z. omega arith))

-- it fails only where a reading did
pub failing : (why : End) (told : Told) → next_of why told ≡ Fails → told ≡ Failed
unfolding next_of
failing NothingLeft told e = edge_fails told e
failing (Unreadable why) told e = go (eqb (number_of why) (number_of CutShort)) e
  where
    go : (t : Bool) → cond t (at_edge told) Ends ≡ Fails → told ≡ Failed
    go true z = edge_fails told z
    go false z = absurd (differ z (λ w. omega arith))
failing (NotSetUp why) told e = absurd (differ e (λ z. omega arith))
failing ListsFull told e = absurd (differ e (λ z. omega arith))

-- and goes on only after a set-up that was refused
pub data AfterSetUp : End → Type 0 where
  after_set_up : (why : Refusal) → AfterSetUp (NotSetUp why)

pub going : (why : End) (told : Told) → next_of why told ≡ GoesOn → AfterSetUp why
unfolding next_of
going NothingLeft told e = absurd (edge_stays told e)
going (Unreadable why) told e = go (eqb (number_of why) (number_of CutShort)) e
  where
    go : (t : Bool) → cond t (at_edge told) Ends ≡ GoesOn → AfterSetUp (Unreadable why)
    go true z = absurd (edge_stays told z)
    go false z = absurd (differ z (λ w. omega arith))
going (NotSetUp why) told e = after_set_up why
going ListsFull told e = absurd (differ e (λ z. omega arith))

-- ---- where it does not end, it says what a gathering says
silent : (x : Next) (n offset number : ℕ) → (x ≡ Ends → ⊥) → unread_note x n offset number ≡ None
unfolding unread_note
silent GoesOn n offset number h = refl
silent Reads n offset number h = refl
silent Ends n offset number h = absurd (h refl)
silent Fails n offset number h = refl

pub note_on : (why : End) (told : Told) (n offset : ℕ) → (next_of why told ≡ Ends → ⊥) → note_of why (next_of why told) n offset ≡ spoken why n
unfolding note_of spoken next_of
note_on NothingLeft told n offset h = refl
note_on (Unreadable why) told n offset h = silent (next_of (Unreadable why) told) n offset (number_of why) h
note_on (NotSetUp why) told n offset h = refl
note_on ListsFull told n offset h = absurd (h refl)
