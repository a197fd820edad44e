-- Document 01, 'The table file': the example, as the definitions have it, and the listing of an empty file.
-- The bytes stand in reader's figures, a record to a line; here stand the characters of each line of the listing.
use Rattle.std.specs.Prelude.{ℕ, ◌≡◌, refl, List, [], ◌∷◌, ◌++◌}
use Rattle.bridge.specs.Calls.{group_called, group_stored, stream_called, stream_stored, frame_called, frame_stored}
use Rattle.calls.specs.Calls.{group_placed, taken, stream_placed, judged_at}
use Rattle.bridge.specs.History.{reply, after_call}
use Rattle.calls.specs.Numbers.{set_up_number}
use Rattle.bridge.specs.Tables.{group_at, stream_at, with_group, with_stream, fresh_bridge}
use Rattle.quantity.specs.Ranges.{in_range}
use Rattle.listing_text.specs.Lines.{line_of, column, ending, end_line}
use Rattle.listing_part.specs.Records.{record_line, call_of}
use Rattle.listing_part.specs.Listing.{listing, listing_of, record_lines}
use Rattle.quantity.specs.Charge.{charged_bits}
use Rattle.records.specs.ExactTime.{exactly, moment_of, rounded_up, E_first}
use Rattle.shaper.specs.Frame.{process_frame, settled, discarded, released, eligibility_time, earliest, after_release, S, F, E_after}
use Rattle.shaper.specs.Numbers.{after_tests, judged}
use Rattle.admission.specs.Tests.{above_burst, tested}
use Rattle.records.specs.Numbers.{answer_number, answer_values}
use Rattle.setup.specs.SetUp.{group_set_up, stream_set_up, fresh_stream, fresh_group}
use Rattle.records.specs.Sound.{sound, sound_group, sound_regulator}
use Rattle.tablefile.specs.BigEndian.{number}
use Rattle.reader.specs.File.{answers, contents_from, onwards}
use Rattle.tablefile.specs.Layout.{kinds, field_numbers, total, size}
use Rattle.reader.specs.Reader.{read_at, read_left, read_marked, marked_among, is_mark, read_fields}
use Rattle.text.specs.Decimal.{digit, last_digits, fewest, digit_count, decimal}
use Rattle.reader.specs.Figures.{example_file}

-- 1 GR 0 -
abbrev pub line_1 : List ℕ
line_1 = 49 ∷ 32 ∷ 71 ∷ 82 ∷ 32 ∷ 48 ∷ 32 ∷ 45 ∷ 10 ∷ []

-- 2 ST 0 -
abbrev pub line_2 : List ℕ
line_2 = 50 ∷ 32 ∷ 83 ∷ 84 ∷ 32 ∷ 48 ∷ 32 ∷ 45 ∷ 10 ∷ []

-- 3 FR 0 0
abbrev pub line_3 : List ℕ
line_3 = 51 ∷ 32 ∷ 70 ∷ 82 ∷ 32 ∷ 48 ∷ 32 ∷ 48 ∷ 10 ∷ []

-- 4 FR 0 0
abbrev pub line_4 : List ℕ
line_4 = 52 ∷ 32 ∷ 70 ∷ 82 ∷ 32 ∷ 48 ∷ 32 ∷ 48 ∷ 10 ∷ []

-- 5 FR 0 74667
abbrev pub line_5 : List ℕ
line_5 = 53 ∷ 32 ∷ 70 ∷ 82 ∷ 32 ∷ 48 ∷ 32 ∷ 55 ∷ 52 ∷ 54 ∷ 54 ∷ 55 ∷ 10 ∷ []

-- end 5
abbrev pub last_line : List ℕ
last_line = 101 ∷ 110 ∷ 100 ∷ 32 ∷ 53 ∷ 10 ∷ []

pub example : listing example_file
    ≡ line_1 ++ (line_2 ++ (line_3 ++ (line_4 ++ (line_5 ++ last_line))))
unfolding listing_of record_lines ending end_line record_line line_of column call_of reply after_call group_called group_stored group_placed taken stream_called stream_stored stream_placed frame_called frame_stored judged_at group_at stream_at with_group with_stream fresh_bridge set_up_number group_set_up stream_set_up fresh_stream fresh_group judged after_tests tested answer_number answer_values above_burst sound sound_group sound_regulator in_range process_frame settled discarded released eligibility_time earliest after_release E_first S F E_after exactly moment_of rounded_up charged_bits contents_from answers onwards read_at read_left read_marked marked_among kinds is_mark read_fields field_numbers number total size digit last_digits fewest digit_count decimal
example = refl

pub empty_file : listing [] ≡ 101 ∷ 110 ∷ 100 ∷ 32 ∷ 48 ∷ 10 ∷ []
unfolding listing_of record_lines ending end_line contents_from answers onwards read_at read_left digit last_digits fewest digit_count decimal
empty_file = refl
