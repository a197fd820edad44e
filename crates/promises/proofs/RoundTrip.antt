-- Demand 2 for the table file, through the calls, proved. Assumes nothing.
use mathlib.Core.Path.{◌≡◌, refl, ap, ◌∙◌}
use mathlib.Core.List.{List, []}
use mathlib.Core.Bool.{Bool, true, false}
use Prim.Native.Nat.{ℕ, ◌≤◌}
use native.Mathlib.Nat.{zero-add}
use native.Mathlib.Omega.{arith}
use borrow.Author.Tests.{le-ltb}
use lib.Dec.{ltb}
use lib.ListN.{length, drop}
use mathlib.Core.Option.{none}
use Rattle.tablefile.specs.declared.Reading.{Reading}
use Rattle.tablefile.specs.Answers.{written_number, written_values, reading_number, reading_values, nothing_left}
use Rattle.quantity.specs.Numbers.{least_refusal}
use Rattle.quantity.specs.declared.Refusal.TheVariants.{NoRoom}
use Rattle.tablefile.specs.declared.Record.{Record}
use Rattle.tablefile.specs.Layout.{Fits, bytes_of}
use Rattle.tablefile.specs.declared.Reading.TheVariants.{Found, NothingLeft, Refused as NotRead}
use Rattle.reader.specs.Reader.{read_at}
use Rattle.reader.proofs.OneRecord.{found_length}
use Rattle.reader.proofs.RoundTrip.{reads_back, writes_back}
use Rattle.writer.specs.Writer.{write_of, write_to}
use Rattle.promises.specs.RoundTrip.{WrittenIsRead, ReadIsWritten, RefusedStays, NothingWithoutRecord}
use Rattle.std.proofs.Common.{Ok, Err}

by_room : (r : Record) → Fits r → (part : List ℕ) (n : ℕ) (t : Bool) → ltb (length part) (length (bytes_of r)) ≡ t
    → (write_to r part).answer ≡ Ok n → read_at (write_to r part).part 0 ≡ Found r n
unfolding write_to write_of
by_room r h part n true t e =
    let refused : Err NoRoom ≡ Ok n = rw t at e in
    let z : ◌≡◌ {A = ℕ} 0 1 = cc in
    absurd (omega arith)
by_room r h part n false t e =
    let counted : Ok (length (bytes_of r)) ≡ Ok n = rw t at e in
    let count : length (bytes_of r) ≡ n = cc in
    rw t (reads_back r h [] (drop (length (bytes_of r)) part) ∙ ap (Found r) (zero-add (length (bytes_of r)) ∙ count))

pub written_is_read : WrittenIsRead
written_is_read r h part n e = by_room r h part n (ltb (length part) (length (bytes_of r))) refl e

stays : (bytes part : List ℕ) (t : Bool) → ltb (length part) (length bytes) ≡ t
    → least_refusal ≤ written_number (write_of bytes part).answer → ((write_of bytes part).part ≡ part) × (written_values (write_of bytes part).answer ≡ none)
unfolding write_of
stays bytes part true t h = rw t (refl, refl)
stays bytes part false t h =
    let done : least_refusal ≤ 0 = rw t at h in
    absurd (omega arith)

pub refused_stays : RefusedStays
unfolding write_to
refused_stays r part h = stays (bytes_of r) part (ltb (length part) (length (bytes_of r))) refl h

no_value : (x : Reading) → nothing_left ≤ reading_number x → reading_values x ≡ none
no_value (Found r next) h = absurd (omega arith)
no_value NothingLeft h = refl
no_value (NotRead why) h = refl

pub nothing_without_record : NothingWithoutRecord
nothing_without_record bytes place h = no_value (read_at bytes place) h

pub read_is_written : ReadIsWritten
unfolding write_to write_of
read_is_written bytes h p r next e part room =
    let w = writes_back bytes h p r next e in
    let count = found_length w in
    rw (le-ltb (length part) (length (bytes_of r)) (omega arith), count, w.same)
