-- What is made of what std's reading and writing answer, and which bytes came and went where they are known.
-- e is an error or its number, got what a call answered.
use Rattle.std.specs.Prelude.{ℕ, ◌+◌, ◌-◌, ◌<◌, min, cond, leb, List, length, take, Option, Some, None, Result, Ok, Err, ⊤, ℤ, pos}
use Rattle.std.specs.Io.KnownBytes.{Keeps, Appends, Consumes}
use Rattle.std.specs.IoError.{raw_os_error, error_kind}
use Rattle.std.specs.declared.io.Error.{Error}
use Rattle.std.specs.declared.io.ErrorKind.{ErrorKind}
use Rattle.std.specs.declared.io.ErrorKind.TheVariants.{Interrupted, WouldBlock}
use Rattle.console.specs.declared.Unwritten.{Unwritten}

-- the number of an error that the system did not number, by its kind: EINTR, EAGAIN, or none
abbrev pub kind_number : ErrorKind → ℤ
kind_number Interrupted = pos 4
kind_number WouldBlock = pos 11
kind_number _ = pos 0

-- the system's number, or the kind's
abbrev pub number_or : Option ℤ → ErrorKind → ℤ
number_or (Some n) kind = n
number_or None kind = kind_number kind

abbrev pub error_number : Error → ℤ
error_number e = number_or (raw_os_error e) (error_kind e)

-- a count, or the error's number
abbrev pub numbered : Result ℕ Error → Result ℕ ℤ
numbered (Ok n) = Ok n
numbered (Err e) = Err (error_number e)

-- the place after so many bytes more, of so many
abbrev pub further : ℕ → Result ℕ ℤ → ℕ → ℕ
further at (Ok n) size = at + min n (size - at)
further at (Err e) size = at

-- what came of a reader's bytes, where they are known: the first of them stand where they were to be put
abbrev pub CameFrom : Option (List ℕ) → Option (List ℕ) → Result ℕ ℤ → List ℕ → Type 0
CameFrom old new (Ok n) behind = Consumes old new (take n behind)
CameFrom old new (Err e) behind = Keeps old new

-- what went to a writer, where its bytes are known: the first of those that it was given
abbrev pub WentTo : Option (List ℕ) → Option (List ℕ) → Result ℕ ℤ → List ℕ → Type 0
WentTo old new (Ok n) bytes = Appends old new (take n bytes)
WentTo old new (Err e) bytes = Keeps old new

-- what a writing came to that stopped at a place, of so many bytes
abbrev pub written_to : ℕ → ℕ → ℤ → Result ⊤ Unwritten
written_to at size e = cond (leb size at) (Ok tt) (Err (record { count = at; error = e }))

-- what a writing of so many bytes hands back of the system's answers: how many went, and the last one's error, none where all went
abbrev pub count_of : ℕ → Result ⊤ Unwritten → ℕ
count_of size (Ok done) = size
count_of size (Err part) = part.count

abbrev pub error_of : Result ⊤ Unwritten → ℤ
error_of (Ok done) = pos 0
error_of (Err part) = part.error

-- what went to it of bytes that were to be written: all of them, or not all and the first so many
abbrev pub Wrote : Option (List ℕ) → Option (List ℕ) → List ℕ → Result ⊤ Unwritten → Type 0
Wrote old new bytes (Ok done) = Appends old new bytes
Wrote old new bytes (Err part) = (part.count < length bytes) × Appends old new (take part.count bytes)
