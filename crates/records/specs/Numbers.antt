-- Document 01, 'Numbers returned': whether a stream is set up; the number and the values of an answer.
use Rattle.std.specs.Prelude.{ℕ, Bool, true, false, List, [], ◌∷◌}
use Rattle.quantity.specs.Numbers.{number_of}
use Rattle.records.specs.declared.Regulator.{Regulator}
use Rattle.records.specs.declared.Regulator.TheVariants.{Unset, Bucket}
use Rattle.records.specs.declared.Answer.{Answer}
use Rattle.records.specs.declared.Answer.TheVariants.{Released, Discarded, Refused}

-- the stream is set up
abbrev pub is_set_up : Regulator → Bool
is_set_up Unset = false
is_set_up (Bucket b e) = true

-- the number of an answer: 0 released, 1 discarded, or the refusal's
unfoldable pub answer_number : Answer → ℕ
answer_number (Released T) = 0
answer_number (Discarded T) = 1
answer_number (Refused why) = number_of why

-- its values: T of a judged frame, none of a refused one
unfoldable pub answer_values : Answer → List ℕ
answer_values (Released T) = T.0 ∷ []
answer_values (Discarded T) = T.0 ∷ []
answer_values (Refused why) = []
