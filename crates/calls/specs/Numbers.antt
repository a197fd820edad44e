-- Document 01, 'Numbers returned': the number of a set-up's answer; it has no values.
use Rattle.std.specs.Prelude.{ℕ, Ok, Err}
use Rattle.quantity.specs.Numbers.{number_of}
use Rattle.std.specs.declared.result.Result.{Result}
use Rattle.quantity.specs.declared.Refusal.{Refusal}

-- 0 done, or the refusal's
unfoldable pub set_up_number : Result (Unit {0}) Refusal → ℕ
set_up_number (Ok tt) = 0
set_up_number (Err why) = number_of why
