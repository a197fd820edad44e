-- Document 01, 'Numbers returned', for the table file: the number of each answer, and its values.
-- An answer from 9 up has no value, and neither has 5.
use Rattle.std.specs.Prelude.{ℕ, Ok, Err}
use Rattle.std.proofs.Math.Option.{Option, none, some}
use Rattle.quantity.specs.Numbers.{number_of}
use Rattle.tablefile.specs.declared.Record.{Record}
use Rattle.tablefile.specs.declared.Reading.{Reading}
use Rattle.tablefile.specs.declared.Reading.TheVariants as reading
use Rattle.std.specs.declared.result.Result.{Result}
use Rattle.quantity.specs.declared.Refusal.{Refusal}

-- done
abbrev pub done : ℕ
done = 0

-- nothing left to read
abbrev pub nothing_left : ℕ
nothing_left = 5

-- the number of what the reader finds
abbrev pub reading_number : Reading → ℕ
reading_number (reading.Found r next) = done
reading_number reading.NothingLeft = nothing_left
reading_number (reading.Refused why) = number_of why

-- and its values: the record and the place after it
abbrev pub reading_values : Reading → Option (Record × ℕ)
reading_values (reading.Found r next) = some (r, next)
reading_values reading.NothingLeft = none
reading_values (reading.Refused why) = none

-- the number of what the writer did
abbrev pub written_number : Result ℕ Refusal → ℕ
written_number (Ok n) = done
written_number (Err why) = number_of why

-- and its value: how many bytes were written
abbrev pub written_values : Result ℕ Refusal → Option ℕ
written_values (Ok n) = some n
written_values (Err why) = none
