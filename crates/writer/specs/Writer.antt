-- Document 01, 'The table file': what the writer answers, and what the lent part holds afterwards.
-- The lent part is a list of bytes of any length.
use Rattle.std.specs.Prelude.{ℕ, List, ◌++◌, cond, length, drop, ltb, Ok, Err}
use Rattle.quantity.specs.declared.Refusal.TheVariants.{NoRoom}
use Rattle.tablefile.specs.declared.Record.{Record}
use Rattle.tablefile.specs.Layout.{bytes_of}
use Rattle.std.specs.declared.result.Result.{Result}
use Rattle.quantity.specs.declared.Refusal.{Refusal}

-- an answer, and the lent part as it is left
pub record Writing : Type 0 where
  pub answer : Result ℕ Refusal
  pub part : List ℕ

-- a destination shorter than the record is refused, and stays; else the record fills the front, and the rest stays
unfoldable pub write_of : List ℕ → List ℕ → Writing
write_of bytes part =
    cond (ltb (length part) (length bytes)) (record { answer = Err NoRoom; part = part })
    (record { answer = Ok (length bytes); part = bytes ++ drop (length bytes) part })

-- what writing a record at the front of a lent part gives
unfoldable pub write_to : Record → List ℕ → Writing
write_to r part = write_of (bytes_of r) part
