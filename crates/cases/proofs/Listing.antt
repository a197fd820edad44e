-- The examples of listings, proved. Assumes nothing.
use mathlib.Core.Path.{refl}
use lib.Dec.{lit≤}
use lib.ListN.{drop}
use Rattle.reader.specs.Figures.{example_file}
use Rattle.quantity.specs.Ranges.{in_range}
use Rattle.quantity.specs.Charge.{charged_bits}
use Rattle.records.specs.ExactTime.{exactly, moment_of, rounded_up, E_first}
use Rattle.records.specs.Numbers.{answer_number, answer_values}
use Rattle.records.specs.Sound.{sound, sound_group, sound_regulator}
use Rattle.setup.specs.SetUp.{group_set_up, stream_set_up, fresh_stream, fresh_group}
use Rattle.admission.specs.Tests.{above_burst, tested}
use Rattle.shaper.specs.Frame.{process_frame, settled, released, eligibility_time, earliest, after_release, S, F, E_after}
use Rattle.shaper.specs.Numbers.{after_tests, judged}
use Rattle.calls.specs.Calls.{group_placed, taken, stream_placed, judged_at}
use Rattle.calls.specs.Numbers.{set_up_number}
use Rattle.bridge.specs.Calls.{group_called, group_stored, stream_called, stream_stored, frame_called, frame_stored}
use Rattle.bridge.specs.History.{reply, after_call}
use Rattle.bridge.specs.Tables.{group_at, stream_at, with_group, with_stream, fresh_bridge}
use Rattle.tablefile.specs.BigEndian.{number}
use Rattle.tablefile.specs.Layout.{kinds, field_numbers, total, size}
use Rattle.tablefile.specs.declared.Reading.TheVariants.{NothingLeft}
use Rattle.reader.specs.Reader.{read_at, read_left, read_marked, marked_among, is_mark, read_fields}
use Rattle.text.specs.Decimal.{digit, last_digits, fewest, digit_count, decimal}
use Rattle.listing_text.specs.Lines.{line_of, column, end_line, ending}
use Rattle.listing_text.specs.Places.{put_where, may_end, end_put}
use Rattle.listing_part.specs.Records.{call_of, record_line}
use Rattle.listing_part.specs.Parts.{onto, may_go_on, going_on, stops_at, part_for, part_of}
use Rattle.listing_part.proofs.Promises.{listing_in_parts, listing_to_its_end}
use Rattle.listing_text.proofs.Promises.{end_within}
use Rattle.cases.specs.TableFile.{lent}
use Rattle.cases.specs.Listing.{cut_file, ListingExamples}
use Rattle.cases.proofs.Bytes.{are_bytes}

pub listing_examples : ListingExamples
unfolding part_of part_for stops_at going_on may_go_on onto end_put may_end put_where ending end_line record_line line_of column call_of reply after_call group_called group_stored group_placed taken stream_called stream_stored stream_placed frame_called frame_stored judged_at group_at stream_at with_group with_stream fresh_bridge set_up_number group_set_up stream_set_up fresh_stream fresh_group judged after_tests tested answer_number answer_values above_burst sound sound_group sound_regulator in_range process_frame settled released eligibility_time earliest after_release E_first S F E_after exactly moment_of rounded_up charged_bits read_at read_left read_marked marked_among kinds is_mark read_fields field_numbers number total size digit last_digits fewest digit_count decimal
listing_examples = record {
  are_bytes = are_bytes cut_file refl;
  lines_of_cut = refl;
  place_of_cut = refl;
  whole_are_bytes = are_bytes example_file refl;
  whole_ends = lit≤ tt;
  lines_of_whole = refl;
  cut_ends = lit≤ tt;
  cut_ends_25 = refl;
  within = lit≤ tt;
  after_end = refl;
}

-- ---- each promise at these values: its premises are all among the examples
pub listing_premises : ListingExamples → Unit {0}
listing_premises x =
    let parts = listing_in_parts cut_file (drop 33 example_file) x.are_bytes 300 fresh_bridge 0 in
    let whole = listing_to_its_end example_file x.whole_are_bytes 300 fresh_bridge 0 x.whole_ends in
    let cut = listing_to_its_end cut_file x.are_bytes 300 fresh_bridge 0 x.cut_ends in
    let end = end_within (lent 100) 20 5 NothingLeft x.within in
    tt
