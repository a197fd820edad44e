-- Document 01, 'Numbers returned': a frame is refused by the first test that it does not pass, else judged.
-- n is the frame's octets, A its arrival, L its charged bits.
use Rattle.std.specs.Prelude.{ℕ, Ok, Err}
use Rattle.quantity.specs.declared.Refusal.{Refusal}
use Rattle.records.specs.declared.Group.{Group}
use Rattle.records.specs.declared.Stream.{Stream}
use Rattle.records.specs.declared.Answer.TheVariants.{Refused as Refusing}
use Rattle.admission.specs.Tests.{tested}
use Rattle.shaper.specs.Frame.{process_frame}
use Rattle.records.specs.Judged.{Judged}
use Rattle.std.specs.declared.result.Result.{Result}
use Rattle.quantity.specs.declared.Bits.{Bits}

-- refused: the records stay
abbrev pub refused : Stream → Group → Refusal → Judged
refused s g why = record { answer = Refusing why; stream = s; group = g }

-- by what the tests make of the frame
unfoldable pub after_tests : Stream → Group → ℕ → Result Bits Refusal → Judged
after_tests s g A (Err why) = refused s g why
after_tests s g A (Ok L) = process_frame s g L.0 A

-- a frame of n octets arriving at A
unfoldable pub judged : Stream → Group → ℕ → ℕ → Judged
judged s g n A = after_tests s g A (tested s g n A)
