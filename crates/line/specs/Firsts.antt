-- What a run keeps beside the waiting places: of each class the entry that goes first. No sentence of document 01 stands here.
-- f is the list of what is noted, w the waiting places, c a class.
use Rattle.std.specs.Prelude.{ℕ, ◌≤◌, ◌<◌, ◌≡◌, true, Option, unwrap_or, List, length, get_or}
use Rattle.quantity.specs.Kinds.{ticks}
use Rattle.quantity.specs.Ranges.{most_of}
use Rattle.quantity.specs.declared.Item.TheVariants.{Class}
use Rattle.places.specs.Queue.{classes, Shaped}
use Rattle.classes.specs.Soundness.{entry_sound, all_sound}
use Rattle.firsts.specs.Firsts.{first_of}
use Rattle.places.specs.declared.Waiting.{Waiting}
use Rattle.firsts.specs.declared.First.{First}
use Rattle.line.specs.declared.Handed.{Handed}

-- later than the time of any entry
abbrev pub never : ℕ
never = 18_446_744_073_709_551_615

-- what is noted of a class: its first, or a time later than that of any entry
abbrev pub noted : Option First → First
noted o = unwrap_or o (record { place = 0; time = ticks never })

-- what is noted of class c
abbrev pub noted_at : List First → ℕ → First
noted_at f c = get_or f c (record { place = 0; time = ticks 0 })

-- the first of each class below n is noted
pub record Noted (ts fs : List ℕ) (f : List First) (n : ℕ) : Type 0 where
  pub long : length f ≡ classes
  pub first : (c : ℕ) → c < n → noted_at f c ≡ noted (first_of ts fs c)

-- sound waiting places, with the first of each class beside them
pub record Keeps (w : Waiting) (f : List First) : Type 0 where
  pub shaped : Shaped w
  pub sound : all_sound w.times w.bits w.fills ≡ true
  pub noted : Noted w.times w.fills f classes

-- what is handed on may enter
pub record Enterable (h : Handed) : Type 0 where
  pub class : h.class ≤ most_of Class
  pub entry : entry_sound h.entry.time.0 h.entry.bits.0 ≡ true
