-- What of the input a lent buffer holds. No sentence of document 01 stands here.
-- h is what is held, l the buffer, size its bytes.
use Rattle.std.specs.Prelude.{ℕ, zero, suc, ◌+◌, ◌-◌, ◌≤◌, min, Bool, cond, ◌&&◌, List, Result, Ok, Err, ltb, leb, length, take, drop}
use Rattle.std.proofs.lemmas.List.Edits.{sets}
use Rattle.intake.specs.declared.Held.{Held}
use Rattle.intake.specs.declared.Next.{Next}
use Rattle.intake.specs.declared.Next.TheVariants.{GoesOn, Reads, Ends, Fails}
use Rattle.intake.specs.declared.Told.{Told}
use Rattle.intake.specs.declared.Told.TheVariants.{More, Ended, Failed}
use Rattle.intake.specs.declared.Unread.{Unread}
use Rattle.intake.specs.declared.Unread.TheVariants as unread

unfoldable pub nothing_held : Held
nothing_held = record { place = 0; filled = 0; told = More }

-- the bytes that are held
unfoldable pub held_in : Held → List ℕ → List ℕ
held_in h l = take (h.filled - h.place) (drop h.place l)

-- they are in a buffer of so many bytes
unfoldable pub is_within : Held → ℕ → Bool
is_within h size = leb h.place h.filled && leb h.filled size

pub record Within (h : Held) (size : ℕ) : Type 0 where
  pub ahead : h.place ≤ h.filled
  pub inside : h.filled ≤ size

-- ---- a reading

-- the same bytes, and what a reading said
unfoldable pub saying : Held → Told → Held
saying h t = record { place = h.place; filled = h.filled; told = t }

-- it only would have to wait, and then there may be more; or it failed
unfoldable pub told_unread : Unread → Told
told_unread unread.Waits = More
told_unread unread.Fails = Failed

-- after a reading into the places behind them. So many came; or none, which is the end, if there was a place to read into; or it brought nothing, and says why
unfoldable pub came_in : Held → Result ℕ Unread → ℕ → Held
came_in h (Ok zero) size = saying h (cond (ltb h.filled size) Ended Failed)
came_in h (Ok (suc k)) size = record { place = h.place; filled = h.filled + min (suc k) (size - h.filled); told = More }
came_in h (Err why) size = saying h (told_unread why)

-- ---- what is kept

pub record Kept : Type 0 where
  pub held : Held
  pub bytes : List ℕ

-- the bytes that are held brought to the front; the places behind them stay as they were
unfoldable pub brought_kept : Held → List ℕ → Kept
brought_kept h l = record { held = record { place = 0; filled = h.filled - h.place; told = h.told }; bytes = sets l 0 (held_in h l) }

unfoldable pub as_it_was : Held → List ℕ → Kept
as_it_was h l = record { held = h; bytes = l }

-- where a reading comes next; else, and where they are not in the buffer, they stay where they are
unfoldable pub kept_for : Next → Held → List ℕ → Kept
kept_for GoesOn h l = as_it_was h l
kept_for Reads h l = cond (is_within h (length l)) (brought_kept h l) (as_it_was h l)
kept_for Ends h l = as_it_was h l
kept_for Fails h l = as_it_was h l
