-- Demand 2 for the table file, through the calls: what the writer writes the reader reads, and the other way round.
-- The round trip between a record and its bytes stands in the crate reader.
use Rattle.std.specs.Prelude.{ℕ, ◌-◌, ◌≤◌, ◌≡◌, List, ◌++◌, length, take, drop, Ok}
use Rattle.std.proofs.Math.Option.{none}
use Rattle.tablefile.specs.Answers.{written_number, written_values, reading_number, reading_values, nothing_left}
use Rattle.quantity.specs.Numbers.{least_refusal}
use Rattle.tablefile.specs.declared.Record.{Record}
use Rattle.tablefile.specs.BigEndian.{AreBytes}
use Rattle.tablefile.specs.Layout.{Fits}
use Rattle.tablefile.specs.declared.Reading.TheVariants.{Found}
use Rattle.reader.specs.Reader.{read_at}
use Rattle.writer.specs.Writer.{write_to}

-- what the writer leaves in a lent part is read back from its front
abbrev pub WrittenIsRead : Type 0
WrittenIsRead =
    (r : Record) → Fits r → (part : List ℕ) (n : ℕ)
    → (write_to r part).answer ≡ Ok n → read_at (write_to r part).part 0 ≡ Found r n

-- writing a record that was read puts the bytes that were read at the front of the lent part
abbrev pub ReadIsWritten : Type 0
ReadIsWritten =
    (bytes : List ℕ) → AreBytes bytes → (place : ℕ) (r : Record) (next : ℕ) → read_at bytes place ≡ Found r next
    → (part : List ℕ) → next - place ≤ length part
    → write_to r part
    ≡ record { answer = Ok (next - place); part = take (next - place) (drop place bytes) ++ drop (next - place) part }

-- a number from 9 up of the writer leaves the lent part as it stood, and comes with no value
abbrev pub RefusedStays : Type 0
RefusedStays =
    (r : Record) (part : List ℕ) → least_refusal ≤ written_number (write_to r part).answer
    → ((write_to r part).part ≡ part) × (written_values (write_to r part).answer ≡ none)

-- a number from 9 up of the reader comes with no value, and so does 5
abbrev pub NothingWithoutRecord : Type 0
NothingWithoutRecord =
    (bytes : List ℕ) (place : ℕ) → nothing_left ≤ reading_number (read_at bytes place) → reading_values (read_at bytes place) ≡ none
