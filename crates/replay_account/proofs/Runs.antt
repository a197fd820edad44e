-- Laws of what there is to tell of a run. Assumes nothing.
use mathlib.Core.Path.{◌≡◌, refl, sym, ap, ◌∙◌}
use Prim.Native.Nat.{ℕ, ◌≤◌}
use native.Mathlib.Omega.{arith}
use lib.ListN.{length}
use mir.Val.{WT}
use denote.Enum.Laws.{val}
use Rattle.replay_text.specs.contracts.Line as line-type
use Rattle.replay_text.proofs.Line.TheLaws as line-laws
use Rattle.quantity.specs.declared.Refusal.{Refusal}
use Rattle.quantity.proofs.Refusals.{refusal_number}
use Rattle.event.specs.Next.{stop_number}
use Rattle.event.specs.declared.Stop.{Stop}
use Rattle.event.specs.declared.Stop.TheVariants as stop
use Rattle.line.specs.declared.Ran.{Ran}
use Rattle.replay_text.specs.Lines.{text_of, line_room}
use Rattle.replay_text.specs.declared.Line.{Line}
use Rattle.replay_text.specs.declared.Line.TheVariants as line
use Rattle.replay_text.proofs.Lengths.{number_of, no_longer}
use Rattle.replay_account.specs.Account.{account_refused, account_stopped, account_by, account_of}

-- ---- by the stop

-- a run that was not refused: its stop is one of the others
not_refused : (x : Stop) → ((why : Refusal) → x ≡ stop.Refused why → ⊥) → (r : Ran) → account_stopped r ≡ account_by x r
unfolding account_by
not_refused stop.Done h r = refl
not_refused stop.BudgetSpent h r = refl
not_refused stop.TooLate h r = refl
not_refused stop.PicksFull h r = refl
not_refused (stop.Refused why) h r = absurd (h why refl)

module _ (r : Ran) (n : ℕ) (is : n ≡ stop_number r.stop) where
  pub stopped : ((why : Refusal) → r.stop ≡ stop.Refused why → ⊥)
      → record { frames = r.next; picks = r.picks; last = line.Stop n r.next r.free r.events r.picks } ≡ account_of r
  unfolding account_of account_stopped
  stopped h =
      ap (λ (m : ℕ). record { frames = r.next; picks = r.picks; last = line.Stop m r.next r.free r.events r.picks }) is
      ∙ not_refused r.stop h r

  pub refused : {x : Stop} → r.stop ≡ x → account_by x r ≡ account_refused r → record { frames = 0; picks = 0; last = line.Refused n } ≡ account_of r
  unfolding account_of account_refused
  refused e by =
      ap (λ (m : ℕ). record { frames = 0; picks = 0; last = line.Refused m }) is
      ∙ sym by
      ∙ ap (λ (x : Stop). account_by x r) (sym e)

-- ---- the last line is short

small_number : (x : Line) → WT (val line-type.the_type line-laws.the_laws x) → number_of x ≤ 255
small_number (line.Answer place number) w = omega arith
small_number (line.Pick handle moment) w = omega arith
small_number (line.Refused number) w = omega arith
small_number (line.Stop number next free events picks) w = omega arith

-- a line that the code holds
pub line_held : (x : Line) → WT (val line-type.the_type line-laws.the_laws x) → length (text_of x) ≤ line_room
line_held x w = no_longer x (small_number x w)

stop_small : (x : Stop) → stop_number x ≤ 255
unfolding stop_number
stop_small stop.Done = omega arith
stop_small stop.BudgetSpent = omega arith
stop_small stop.TooLate = omega arith
stop_small stop.PicksFull = omega arith
stop_small (stop.Refused why) = omega (arith, (refusal_number why).1)

last_by : (x : Stop) (r : Ran) → number_of (account_by x r).last ≤ 255
unfolding account_by account_stopped account_refused
last_by stop.Done r = stop_small r.stop
last_by stop.BudgetSpent r = stop_small r.stop
last_by stop.TooLate r = stop_small r.stop
last_by stop.PicksFull r = stop_small r.stop
last_by (stop.Refused why) r = stop_small r.stop

pub last_short : (r : Ran) → length (text_of (account_of r).last) ≤ line_room
unfolding account_of
last_short r = no_longer (account_of r).last (last_by r.stop r)
