-- Document 01, 'The table file', for a replay: what a whole file gives, said by its records. The frames, in order, are the arrivals of the run.
-- y is what was gathered, most how many frames have a place, n a count of records; of a record, i is its id, c a class, M a residence limit, k a stream's group, r a rate, u a burst, o a frame's octets, A its arrival.
use Rattle.std.specs.Prelude.{ℕ, ◌+◌, Bool, true, false, cond, List, [], ◌∷◌, ◌++◌, Option, None, Some, Ok, Err, ltb, eqb, length}
use Rattle.quantity.specs.Numbers.{number_of}
use Rattle.tablefile.specs.Answers.{nothing_left}
use Rattle.tablefile.specs.Meaning.{default_residence}
use Rattle.tablefile.specs.declared.Record.{Record}
use Rattle.tablefile.specs.declared.Record.TheVariants.{Group, GroupDefault, Stream, Frame}
use Rattle.reader.specs.File.{Contents, contents}
use Rattle.bridge.specs.Calls.{group_called, stream_called}
use Rattle.bridge.specs.Tables.{fresh_bridge}
use Rattle.bridge.specs.declared.Bridge.{Bridge}
use Rattle.bridge.specs.Calls.{BridgeSetUp}
use Rattle.intake.specs.Promises.{Given, following}
use Rattle.replay_text.specs.Notes.{note_text}
use Rattle.replay_text.specs.declared.Note.{Note}
use Rattle.replay_text.specs.declared.Note.TheVariants.{NotSetUp, Unreadable, TooManyFrames}
use Rattle.std.specs.declared.result.Result.{Result}
use Rattle.quantity.specs.declared.Refusal.{Refusal}

-- ---- what is gathered

-- the tables, and of each frame so far its arrival, its stream and its octets
pub record Yard : Type 0 where
  pub bridge : Bridge
  pub arrivals : List ℕ
  pub ids : List ℕ
  pub octets : List ℕ

unfoldable pub fresh_yard : Yard
fresh_yard = record { bridge = fresh_bridge; arrivals = []; ids = []; octets = [] }

unfoldable pub with_bridge : Yard → Bridge → Yard
with_bridge y b = record { bridge = b; arrivals = y.arrivals; ids = y.ids; octets = y.octets }

-- a frame more, behind the others
unfoldable pub with_frame : Yard → ℕ → ℕ → ℕ → Yard
with_frame y i o A = record { bridge = y.bridge; arrivals = y.arrivals ++ (A ∷ []); ids = y.ids ++ (i ∷ []); octets = y.octets ++ (o ∷ []) }

-- how many frames there are
abbrev pub frames : Yard → ℕ
frames y = length y.arrivals

-- what a reading leaves: what it gathered, and whether that is the whole of the file
pub record Final : Type 0 where
  pub whole : Bool
  pub yard : Yard

-- it ends here, and says so
unfoldable pub ends_with : Option Note → Bool → Yard → Given Final
ends_with note whole y = record { text = note_text note; final = record { whole = whole; yard = y } }

-- ---- record by record

-- a set-up that was refused is told, and the reading goes on
unfoldable pub answer_note : ℕ → Result (Unit {0}) Refusal → Option Note
answer_note n (Ok tt) = None
answer_note n (Err why) = Some (NotSetUp n (number_of why))

-- after n records, at an offset: the file ended there, or what stands there is no record, and the number says why
unfoldable pub ended_at : Yard → ℕ → ℕ → ℕ → Given Final
ended_at y n offset number = cond (eqb number nothing_left) (ends_with None true y) (ends_with (Some (Unreadable (n + 1) offset number)) false y)

-- a set-up, and what follows it on the tables that it leaves: as they were, where it was refused
unfoldable pub set_up_made : ℕ → Yard → BridgeSetUp → (Yard → Given Final) → Given Final
set_up_made n y x rest = following (note_text (answer_note (n + 1) x.answer)) (rest (with_bridge y x.bridge))

-- a record after n others, and what follows it. GR, GD and ST are their calls on the tables; FR goes behind the frames before it, and one that has no place ends the reading
unfoldable pub taken : ℕ → ℕ → Yard → Record → (Yard → Given Final) → Given Final
taken most n y (Group i c M) rest = set_up_made n y (group_called y.bridge i c M.0) rest
taken most n y (GroupDefault i c) rest = set_up_made n y (group_called y.bridge i c default_residence) rest
taken most n y (Stream i k r u) rest = set_up_made n y (stream_called y.bridge i k r.0 u) rest
taken most n y (Frame i o A) rest = cond (ltb (frames y) most) (rest (with_frame y i o A.0)) (ends_with (Some TooManyFrames) false y)

-- one record after the other, and then the end
unfoldable pub records_taken : ℕ → ℕ → Yard → List Record → ℕ → ℕ → Given Final
records_taken most n y [] offset number = ended_at y n offset number
records_taken most n y (r ∷ rs) offset number = taken most n y r (λ z. records_taken most (n + 1) z rs offset number)

-- ---- the file

-- what bytes hold, gathered onto y, after n records and so many bytes of the file
unfoldable pub gathered_of : ℕ → Yard → ℕ → ℕ → Contents → Given Final
gathered_of most y n before c = records_taken most n y c.records (before + c.place) c.ended

abbrev pub gathered_on : ℕ → Yard → ℕ → ℕ → List ℕ → Given Final
gathered_on most y n before bytes = gathered_of most y n before (contents bytes)

-- a whole file
abbrev pub gathered_from : ℕ → List ℕ → Given Final
gathered_from most bytes = gathered_on most fresh_yard 0 0 bytes
