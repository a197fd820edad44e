-- Demand 2 for the table file, proved: each theorem has the name of its statement in specs/RoundTrip. Assumes nothing.
use mathlib.Core.Path.{◌≡◌, sym, ap, ◌∙◌}
use mathlib.Core.List.{List, [], ◌++◌}
use Prim.Native.Nat.{ℕ, ◌+◌}
use lib.ListN.{length}
use Rattle.tablefile.specs.Layout.{bytes_of}
use Rattle.tablefile.specs.declared.Reading.TheVariants.{Found}
use Rattle.reader.specs.Reader.{read_at}
use Rattle.reader.specs.RoundTrip.{ReadsBack, WritesBack, FoundInTheWhole, SameBytes, OneAtATime, FileReadsBack, FileWritesBack}
use Rattle.reader.proofs.OneRecord.{read_back, written_back, found_in_longer}
use Rattle.reader.proofs.WholeFile.{unfolds, file_back, file_kept}

pub reads_back : ReadsBack
reads_back = read_back

pub writes_back : WritesBack
writes_back = written_back

pub found_in_the_whole : FoundInTheWhole
found_in_the_whole = found_in_longer

pub same_bytes : SameBytes
same_bytes r s hr hs e =
    let first = read_back r hr [] [] in
    let second = read_back s hs [] [] in
    let one : Found r (0 + length (bytes_of r)) ≡ Found s (0 + length (bytes_of s)) =
    sym first ∙ ap (λ (l : List ℕ). read_at (l ++ []) 0) e ∙ second in
    cc

pub one_at_a_time : OneAtATime
one_at_a_time = unfolds

pub file_reads_back : FileReadsBack
file_reads_back rs h = file_back rs h

pub file_writes_back : FileWritesBack
file_writes_back = file_kept
