-- What the private steps give. No sentence of the document stands here.
-- n is a count of lines, room the lent bytes that are left.
use Rattle.std.specs.Prelude.{ℕ, cond, Option, None, Some}
use Rattle.quantity.specs.declared.Ticks.{Ticks}
use Rattle.records.specs.Numbers.{answer_number}
use Rattle.records.specs.declared.Answer.{Answer}
use Rattle.records.specs.declared.Answer.TheVariants as answer
use Rattle.bridge.specs.History.{Reply}
use Rattle.calls.specs.Numbers.{set_up_number}
use Rattle.tablefile.specs.declared.Reading.{Reading}
use Rattle.tablefile.specs.declared.Reading.TheVariants.{Found, NothingLeft, Refused}
use Rattle.listing_text.specs.Lines.{values_of}
use Rattle.listing_text.specs.declared.Answered.{Answered}
use Rattle.listing_part.specs.Parts.{may_go_on}
use Rattle.listing_part.specs.declared.Step.{Step}
use Rattle.listing_part.specs.declared.Step.TheVariants.{Ends, Goes}
use Rattle.std.specs.declared.result.Result.{Result}
use Rattle.quantity.specs.declared.Refusal.{Refusal}

-- ---- answers

unfoldable pub reply_of : Answered → Reply
reply_of a = record { number = a.number; values = values_of a.time }

unfoldable pub set_up_answer : Result (Unit {0}) Refusal → Answered
set_up_answer a = record { number = set_up_number a; time = None }

unfoldable pub shown_of : Answer → Option Ticks
shown_of (answer.Released T) = Some T
shown_of (answer.Discarded T) = Some T
shown_of (answer.Refused why) = None

unfoldable pub frame_answer : Answer → Answered
frame_answer a = record { number = answer_number a; time = shown_of a }

-- ---- steps

unfoldable pub next_step : Reading → ℕ → ℕ → Step
next_step (Found r next) n room = cond (may_go_on n room) (Goes r next) (Ends (Found r next))
next_step NothingLeft n room = Ends NothingLeft
next_step (Refused why) n room = Ends (Refused why)
