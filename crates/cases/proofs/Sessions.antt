-- The examples of sessions, proved. Assumes nothing.
use mathlib.Core.Path.{refl, sym, ◌∙◌}
use mathlib.Core.List.{[], ◌∷◌}
use Prim.Native.Nat.{◌+◌, ◌<◌}
use native.Mathlib.Omega.{arith}
use lib.Dec.{lit≤}
use lib.ListN.{length}
use Rattle.reader.specs.Figures.{example_file}
use Rattle.quantity.specs.Ranges.{in_range}
use Rattle.quantity.specs.Charge.{charged_bits}
use Rattle.records.specs.ExactTime.{exactly, moment_of, rounded_up, E_first}
use Rattle.records.specs.Numbers.{answer_number, answer_values}
use Rattle.records.specs.Sound.{sound, sound_group, sound_regulator}
use Rattle.setup.specs.SetUp.{group_set_up, stream_set_up, fresh_stream, fresh_group}
use Rattle.calls.specs.Calls.{group_placed, taken, stream_placed}
use Rattle.calls.specs.Numbers.{set_up_number}
use Rattle.bridge.specs.Calls.{group_called, group_stored, stream_called, stream_stored}
use Rattle.bridge.specs.History.{reply, after_call}
use Rattle.bridge.specs.Tables.{group_at, stream_at, with_group, with_stream, fresh_bridge}
use Rattle.tablefile.specs.BigEndian.{number}
use Rattle.tablefile.specs.Layout.{kinds, field_numbers, total, size}
use Rattle.reader.specs.Reader.{read_at, read_left, read_marked, marked_among, is_mark, read_fields}
use Rattle.text.specs.Decimal.{digit, last_digits, fewest, digit_count, decimal}
use Rattle.listing_text.specs.Lines.{line_of, column}
use Rattle.listing_part.specs.Records.{call_of, record_line}
use Rattle.listing_part.specs.Parts.{onto, may_go_on, going_on, stops_at, part_for, part_of}
use Rattle.intake.specs.Sessions.{bytes_of, readings, at_its_end, after_more, stopped, written, onward, session}
use Rattle.intake.proofs.Promises.{no_end}
use Rattle.listing_turn.specs.Turns.{start, unended, at_edge, next_of, end_if, turn_of, list_turn}
use Rattle.listing_turn.specs.Promises.{listing_session}
use Rattle.listing_turn.proofs.Promises.{listing_of_all_readings, listing_so_far, no_end_before_the_end}
use Rattle.replay_turn.proofs.Promises.{gathered_from_all_readings}
use Rattle.replay_account.specs.Account.{answer_lines, pick_lines, lines_of}
use Rattle.replay_account.proofs.Promises.{account_in_parts}
use Rattle.cases.specs.TableFile.{lent}
use Rattle.cases.specs.Listing.{cut_file}
use Rattle.cases.specs.Sessions.{in_three, broken, two_frames, SessionExamples}
use Rattle.cases.proofs.Bytes.{are_bytes}

pub session_examples : SessionExamples
unfolding bytes_of readings listing_session session stopped written onward list_turn turn_of next_of at_edge unended end_if start lines_of answer_lines pick_lines part_of part_for stops_at going_on may_go_on onto record_line line_of column call_of reply after_call group_called group_stored group_placed taken stream_called stream_stored stream_placed group_at stream_at with_group with_stream fresh_bridge set_up_number group_set_up stream_set_up fresh_stream fresh_group answer_number answer_values sound sound_group sound_regulator in_range E_first exactly moment_of rounded_up charged_bits read_at read_left read_marked marked_among kinds is_mark read_fields field_numbers number total size digit last_digits fewest digit_count decimal
session_examples = record {
  all_of_it = refl;
  are_bytes = are_bytes example_file refl;
  ends_well = after_more (after_more (after_more at_its_end));
  few_lines = lit≤ tt;
  few_bytes = lit≤ tt;
  room = lit≤ tt;
  enough_turns = lit≤ tt;
  lists = record { for_arrivals = refl; for_ids = refl; for_octets = refl };
  broken_are_bytes = are_bytes cut_file refl;
  broken_fails = refl;
  five_lines = refl;
  line_room_is = lit≤ tt;
}

-- ---- each promise at these values: its premises are all among the examples
pub session_premises : SessionExamples → Unit {0}
session_premises x =
    let listed = listing_of_all_readings 74 72 in_three x.are_bytes x.ends_well x.room x.few_lines x.enough_turns in
    let all = no_end_before_the_end 74 72 in_three x.are_bytes listed.0 in
    let some = listing_so_far 300 5 broken x.broken_are_bytes [] (λ e. no_end refl (sym x.broken_fails ∙ e)) in
    let gathered = gathered_from_all_readings 3 72 (lent 3) (lent 3) (lent 3) in_three x.lists.for_arrivals x.lists.for_ids x.lists.for_octets x.are_bytes x.ends_well x.few_bytes x.enough_turns in
    let lines : length (lines_of two_frames (0 ∷ 0 ∷ []) (0 ∷ 1 ∷ []) (0 ∷ 672 ∷ [])) + 1 < 7 = omega (arith, x.five_lines) in
    let told = account_in_parts two_frames (0 ∷ 0 ∷ []) (0 ∷ 1 ∷ []) (0 ∷ 672 ∷ []) 116 7 x.line_room_is lines in
    tt
