-- The examples of the table file, proved. Assumes nothing.
use mathlib.Core.Path.{refl}
use native.Mathlib.Omega.{arith}
use lib.Dec.{lit≤}
use Rattle.tablefile.specs.BigEndian.{big_endian, number}
use Rattle.tablefile.specs.Layout.{kinds, total, field_bytes, field_numbers, size, Fits, no_field, and_field, bytes_of}
use Rattle.reader.specs.Reader.{is_mark, marked_among, read_fields, read_marked, read_left, read_at}
use Rattle.reader.specs.File.{no_record, and_record, file_of}
use Rattle.writer.specs.Writer.{write_of, write_to}
use Rattle.reader.specs.Figures.{group_line, frame_line, example_file}
use Rattle.reader.proofs.RoundTrip.{reads_back, writes_back, found_in_the_whole, same_bytes, file_reads_back, file_writes_back}
use Rattle.promises.proofs.RoundTrip.{written_is_read, read_is_written, refused_stays, nothing_without_record}
use Rattle.cases.specs.TableFile.{group_record, stream_record, frame_record, example_records, stream_of_its_line, lent, TableFileExamples}
use Rattle.cases.proofs.Bytes.{are_bytes}

group_fits : Fits group_record
group_fits = and_field {w = 1} {v = 0} (omega arith) (and_field {w = 1} {v = 6} (omega arith) (and_field {w = 8} {v = 224_000} (omega arith) no_field))

stream_fits : Fits stream_record
stream_fits = and_field {w = 1} {v = 0} (omega arith) (and_field {w = 1} {v = 0} (omega arith) (and_field {w = 8} {v = 9_000_000} (omega arith) (and_field {w = 4} {v = 1_344} (omega arith) no_field)))

frame_fits : Fits frame_record
frame_fits = and_field {w = 1} {v = 0} (omega arith) (and_field {w = 2} {v = 64} (omega arith) (and_field {w = 8} {v = 0} (omega arith) no_field))

pub table_file_examples : TableFileExamples
unfolding read_at read_left read_marked marked_among kinds is_mark read_fields field_numbers number total size bytes_of field_bytes big_endian file_of write_to write_of
table_file_examples = record {
  fits = stream_fits;
  its_bytes = refl;
  are_bytes = are_bytes example_file refl;
  found = refl;
  found_values = refl;
  fits_too = stream_fits;
  same_bytes = refl;
  all_fit = and_record group_fits (and_record stream_fits (and_record frame_fits (and_record frame_fits (and_record frame_fits no_record))));
  default_fits = and_field {w = 1} {v = 0} (omega arith) (and_field {w = 1} {v = 6} (omega arith) no_field);
  their_bytes = refl;
  written = refl;
  written_values_is = refl;
  room = omega arith;
  too_short = lit≤ tt;
  at_the_end = lit≤ tt;
  no_mark = lit≤ tt;
}

-- ---- each promise at these values: its premises are all among the examples
pub table_file_premises : TableFileExamples → Unit {0}
table_file_premises x =
    let back = reads_back stream_record x.fits group_line frame_line in
    let whole = writes_back example_file x.are_bytes 12 stream_record 28 x.found in
    let longer = found_in_the_whole group_line example_file frame_line x.are_bytes 12 stream_record 28 x.found in
    let same = same_bytes stream_record stream_of_its_line x.fits x.fits_too x.same_bytes in
    let file_back = file_reads_back example_records x.all_fit in
    let file-same = file_writes_back example_file x.are_bytes in
    let read = written_is_read stream_record x.fits (lent 20) 16 x.written in
    let written = read_is_written example_file x.are_bytes 12 stream_record 28 x.found (lent 20) x.room in
    let stays = refused_stays stream_record (lent 15) x.too_short in
    let ended = nothing_without_record example_file 67 x.at_the_end in
    let unknown = nothing_without_record example_file 65 x.no_mark in
    tt
