-- Document 01, 'Numbers returned': each order of refusals, and the numbers of a run. What is tried has every later fault of its order that can stand beside it, so that the order alone decides.
-- b is a bridge, w the waiting places.
use Rattle.std.specs.Prelude.{ℕ, ◌≡◌, refl, Bool, true, false, List, [], ◌∷◌, replicate, set}
use Rattle.quantity.specs.Kinds.{ticks, bits}
use Rattle.quantity.specs.Ranges.{in_range}
use Rattle.quantity.specs.Charge.{charged_bits}
use Rattle.records.specs.ExactTime.{exactly, moment_of, rounded_up, E_first}
use Rattle.records.specs.Sound.{sound_group, sound_regulator, sound}
use Rattle.records.specs.Numbers.{answer_number, answer_values}
use Rattle.records.specs.declared.Group.{Group}
use Rattle.setup.specs.SetUp.{fresh_group, fresh_stream, group_set_up, stream_set_up}
use Rattle.admission.specs.Tests.{above_burst, tested}
use Rattle.shaper.specs.Frame.{S, F, E_after, earliest, after_release, eligibility_time, discarded, released, settled, process_frame}
use Rattle.shaper.specs.Numbers.{after_tests, judged}
use Rattle.calls.specs.Calls.{taken, group_placed, stream_placed, judged_at}
use Rattle.calls.specs.Numbers.{set_up_number}
use Rattle.bridge.specs.Tables.{fresh_bridge, group_at, stream_at, with_group, with_stream}
use Rattle.bridge.specs.Calls.{group_stored, group_called, stream_stored, stream_called, frame_stored, frame_called}
use Rattle.bridge.specs.History.{Call, group, stream, frame, reply, after_call, after}
use Rattle.bridge.specs.declared.Bridge.{Bridge}
use Rattle.places.specs.Queue.{count_of, entry_at}
use Rattle.places.specs.Places.{has_room, with_last, take_gives}
use Rattle.places.specs.declared.Waiting.{Waiting}
use Rattle.places.specs.declared.Entry.{Entry}
use Rattle.firsts.specs.Firsts.{part, first_from, first_in, first_of, smaller, smallest_below, smallest_of}
use Rattle.classes.specs.Soundness.{every, entry_sound, sound_at, class_sound, all_sound}
use Rattle.classes.specs.Calls.{not_entered, enter_gives, due_or, due_below, due_of, take_due, pick_gives}
use Rattle.waiting.specs.Answers.{entered_number, picked_number}
use Rattle.event.specs.Next.{pick, none, arrives_by, at_candidate, next_event, arrival_step, pick_step, step_for, stop_number}
use Rattle.event.specs.declared.Step.{Step}
use Rattle.event.specs.declared.Step.TheVariants.{Ends, Arrival, Pick}
use Rattle.line.specs.Run.{Input, sending_ticks, step, begun, stopped, lists_fit, line_fits, start_of, start_at, started_by, run_for, onward, run_gives}
use Rattle.tablefile.specs.Answers.{reading_number, written_number}
use Rattle.tablefile.specs.BigEndian.{big_endian, number}
use Rattle.tablefile.specs.Layout.{kinds, total, size, field_bytes, field_numbers, bytes_of}
use Rattle.tablefile.specs.declared.Record.TheVariants.{GroupDefault}
use Rattle.reader.specs.Reader.{is_mark, marked_among, read_fields, read_marked, read_left, read_at}
use Rattle.writer.specs.Writer.{write_of, write_to}
use Rattle.lent.specs.InPlace.{judged_in, received}

-- ---- calls on the tables

-- the tables of the figures: group 0, and stream 0 in it
abbrev pub yard : Bridge
yard = after fresh_bridge (group 0 6 224_000 ∷ stream 0 0 9_000_000 1_344 ∷ [])

-- the same after a frame at 1,000
abbrev pub later : Bridge
later = after_call yard (frame 0 64 1_000)

-- a group's record with class 8, which is unsound
abbrev pub unsound_group : Group
unsound_group = record { used = true; class = 8; residence = ticks 224_000; time = ticks 0; last = ticks 0; discards = 0 }

abbrev pub harmed : Bridge
harmed = with_group yard 0 unsound_group

-- one tick after the last that an arrival may have, and a pick of a run
abbrev pub past_arrivals : ℕ
past_arrivals = 4_000_000_000_000_000_001

abbrev pub number_on : Bridge → Call → ℕ
number_on b x = (reply b x).number

-- 10 twice, above 63 and not set up; 9, 11, 12, 13, 14; and at the last arrival itself
unfoldable pub of_frames : List ℕ
of_frames =
    number_on harmed (frame 64 2_001 past_arrivals)
    ∷ number_on harmed (frame 1 2_001 past_arrivals)
    ∷ number_on harmed (frame 0 2_001 past_arrivals)
    ∷ number_on later (frame 0 2_001 past_arrivals)
    ∷ number_on later (frame 0 149 past_arrivals)
    ∷ number_on later (frame 0 64 past_arrivals)
    ∷ number_on later (frame 0 64 999)
    ∷ number_on later (frame 0 64 1_000)
    ∷ []

-- 15, 16, 21, 20
unfoldable pub of_groups : List ℕ
of_groups =
    number_on yard (group 16 8 10_000_000_001)
    ∷ number_on yard (group 0 8 10_000_000_001)
    ∷ number_on yard (group 1 8 10_000_000_001)
    ∷ number_on yard (group 1 7 10_000_000_001)
    ∷ number_on yard (group 1 7 10_000_000_000)
    ∷ []

-- 15, 16; 17 twice, out of range and not set up; 9, 18, 19
unfoldable pub of_streams : List ℕ
of_streams =
    number_on harmed (stream 64 16 999 0)
    ∷ number_on harmed (stream 0 16 999 0)
    ∷ number_on harmed (stream 63 16 999 0)
    ∷ number_on harmed (stream 63 1 999 0)
    ∷ number_on harmed (stream 63 0 999 0)
    ∷ number_on yard (stream 63 0 999 0)
    ∷ number_on yard (stream 63 0 1_000 0)
    ∷ number_on yard (stream 63 0 1_000 1)
    ∷ []

-- ---- the waiting places

-- of 672 bits each, all with time 5: class 0 has 32 entries, class 3 more than places
abbrev pub crowded : Waiting
crowded = record { times = replicate 256 5; handles = replicate 256 7; bits = replicate 256 672; fills = 32 ∷ 0 ∷ 0 ∷ 33 ∷ 0 ∷ 0 ∷ 0 ∷ 0 ∷ [] }

-- the same, with one entry in class 0 and none in the others
abbrev pub alone : Waiting
alone = record { times = replicate 256 5; handles = replicate 256 7; bits = replicate 256 672; fills = 1 ∷ 0 ∷ 0 ∷ 0 ∷ 0 ∷ 0 ∷ 0 ∷ 0 ∷ [] }

abbrev pub entry_with : ℕ → ℕ → Entry
entry_with time n = record { handle = 7; time = ticks time; bits = bits n }

-- one tick after the last that an entry may have, and line-free
abbrev pub past_entries : ℕ
past_entries = 5_000_000_000_000_000_001

-- 21, 9, 11 on either side, 13, 22; and two that are taken
unfoldable pub of_entries : List ℕ
of_entries =
    entered_number (enter_gives crowded 8 (entry_with past_entries 167)).answer
    ∷ entered_number (enter_gives crowded 3 (entry_with past_entries 167)).answer
    ∷ entered_number (enter_gives crowded 0 (entry_with past_entries 167)).answer
    ∷ entered_number (enter_gives crowded 0 (entry_with past_entries 16_161)).answer
    ∷ entered_number (enter_gives crowded 0 (entry_with past_entries 168)).answer
    ∷ entered_number (enter_gives crowded 0 (entry_with 5_000_000_000_000_000_000 168)).answer
    ∷ entered_number (enter_gives crowded 5 (entry_with 5_000_000_000_000_000_000 168)).answer
    ∷ entered_number (enter_gives crowded 5 (entry_with 0 16_160)).answer
    ∷ []

-- 9 although class 0 has an entry that is due; 2 before the entry's time; 0 at it
unfoldable pub of_picks : List ℕ
of_picks =
    picked_number (pick_gives crowded 5).answer
    ∷ picked_number (pick_gives alone 4).answer
    ∷ picked_number (pick_gives alone 5).answer
    ∷ []

-- an entry of 167 bits, and one with a time above 5·10¹⁸, make their class unsound; beyond the fill nothing is looked at
unfoldable pub of_classes : List Bool
of_classes =
    class_sound alone.times (set alone.bits 0 167) alone.fills 0
    ∷ class_sound (set alone.times 0 past_entries) alone.bits alone.fills 0
    ∷ class_sound (set alone.times 1 past_entries) (set alone.bits 1 167) alone.fills 0
    ∷ []

-- ---- runs

abbrev pub input_of : List ℕ → ℕ → Input
input_of octets rate = record { arrivals = 0 ∷ []; ids = 0 ∷ []; octets = octets; rate = rate }

-- a run of one frame that is to make no event; its stop's number
abbrev pub run_number : List ℕ → ℕ → Waiting → ℕ → ℕ → ℕ
run_number octets rate w start free = stop_number (run_gives (input_of octets rate) 0 (begun yard w start free (0 ∷ []) [] [])).ran.stop

-- 28 for the lists and for the start; 29 for the rate on either side and for line-free; 9; and the budget of no event is spent
unfoldable pub of_runs : List ℕ
of_runs =
    run_number [] 0 crowded 0 past_entries
    ∷ run_number (64 ∷ []) 0 crowded 2 past_entries
    ∷ run_number (64 ∷ []) 9_999_999 crowded 1 0
    ∷ run_number (64 ∷ []) 10_000_000_001 crowded 1 0
    ∷ run_number (64 ∷ []) 10_000_000_000 crowded 1 past_entries
    ∷ run_number (64 ∷ []) 10_000_000_000 crowded 1 5_000_000_000_000_000_000
    ∷ run_number (64 ∷ []) 10_000_000_000 alone 1 5_000_000_000_000_000_000
    ∷ []

-- input lists of 65,536 places and of one more; the start at the end and beyond it; lists of unequal length; an answer list that is as long, and one that is shorter
unfoldable pub of_lists : List Bool
of_lists =
    lists_fit 65_536 65_536 65_536 65_536 65_536
    ∷ lists_fit 65_537 65_537 65_537 0 65_537
    ∷ lists_fit 65_536 65_536 65_536 65_537 65_537
    ∷ lists_fit 2 1 2 0 2
    ∷ lists_fit 2 2 2 0 1
    ∷ []

-- how long a line sends, taken up to a whole tick: 16.8 ticks, and 672 that need no rounding
unfoldable pub of_sending : List ℕ
of_sending = sending_ticks 168 10_000_000_000 ∷ sending_ticks 672 1_000_000_000 ∷ []

-- the number of a stop
abbrev pub stop_of : Step → List ℕ
stop_of (Ends why) = stop_number why ∷ []
stop_of Arrival = []
stop_of (Pick m) = []

-- 0 before 3; 3 before 27; 27 before 4; 4 for either list; and a pick at 4·10¹⁸ itself is none of them
unfoldable pub of_stops : List (List ℕ)
of_stops =
    stop_of (step_for 0 0 0 0 none)
    ∷ stop_of (step_for 0 0 0 0 (pick past_arrivals))
    ∷ stop_of (step_for 1 0 0 0 (pick past_arrivals))
    ∷ stop_of (step_for 1 1 1 2 (pick 4_000_000_000_000_000_000))
    ∷ stop_of (step_for 1 1 2 1 (pick 4_000_000_000_000_000_000))
    ∷ stop_of (step_for 1 1 2 2 (pick 4_000_000_000_000_000_000))
    ∷ []

-- ---- the table file

-- no byte left; one byte left that begins a mark, and one that begins none; two that are no mark; a GD cut short; a GD
unfoldable pub of_reading : List ℕ
of_reading =
    reading_number (read_at [] 0)
    ∷ reading_number (read_at (0x47 ∷ []) 0)
    ∷ reading_number (read_at (0x58 ∷ []) 0)
    ∷ reading_number (read_at (0x58 ∷ 0x59 ∷ []) 0)
    ∷ reading_number (read_at (0x47 ∷ 0x44 ∷ 0x00 ∷ []) 0)
    ∷ reading_number (read_at (0x47 ∷ 0x44 ∷ 0x00 ∷ 0x00 ∷ []) 0)
    ∷ []

-- a destination one byte shorter than a GD, and one that is as long
unfoldable pub of_writing : List ℕ
of_writing =
    written_number (write_to (GroupDefault 0 0) (replicate 3 0)).answer
    ∷ written_number (write_to (GroupDefault 0 0) (replicate 4 0)).answer
    ∷ []

-- ---- the interrupt side

-- a frame of stream k in the lent record of group i, of a run with so many places of the yard's first stream
abbrev pub lent_number : ℕ → Group → ℕ → ℕ → ℕ → ℕ
lent_number i g places k n = answer_number (received i g (replicate places (stream_at yard 0)) k n 0).answer

-- 9 for the length, before 10 for the stream; 9 for another group, whose record is sound, and for a record that is not; 11
unfoldable pub of_lent : List ℕ
of_lent =
    lent_number 1 unsound_group 63 64 0
    ∷ lent_number 1 unsound_group 64 64 0
    ∷ lent_number 1 (group_at yard 0) 64 63 0
    ∷ lent_number 0 unsound_group 64 63 0
    ∷ lent_number 0 (group_at yard 0) 64 63 0
    ∷ lent_number 0 (group_at yard 0) 64 63 64
    ∷ []

-- ---- what comes of it

-- of frames, groups, streams and lent records
pub on_tables : of_frames ∷ of_groups ∷ of_streams ∷ of_lent ∷ []
    ≡ (10 ∷ 10 ∷ 9 ∷ 11 ∷ 12 ∷ 13 ∷ 14 ∷ 0 ∷ [])
    ∷ (15 ∷ 16 ∷ 21 ∷ 20 ∷ 0 ∷ [])
    ∷ (15 ∷ 16 ∷ 17 ∷ 17 ∷ 9 ∷ 18 ∷ 19 ∷ 0 ∷ [])
    ∷ (9 ∷ 10 ∷ 9 ∷ 9 ∷ 11 ∷ 0 ∷ [])
    ∷ []
unfolding of_frames of_groups of_streams of_lent received judged_in reply after_call after group_called group_stored group_placed taken stream_called stream_stored stream_placed frame_called frame_stored judged_at group_at stream_at with_group with_stream fresh_bridge set_up_number group_set_up stream_set_up fresh_stream fresh_group judged after_tests tested answer_number answer_values above_burst sound sound_group sound_regulator in_range process_frame settled discarded released eligibility_time earliest after_release E_first S F E_after exactly moment_of rounded_up charged_bits
on_tables = refl

pub entries : of_entries ≡ 21 ∷ 9 ∷ 11 ∷ 11 ∷ 13 ∷ 22 ∷ 0 ∷ 0 ∷ []
unfolding of_entries enter_gives not_entered with_last has_room class_sound every sound_at entry_sound in_range
entries = refl

pub picks : of_picks ≡ 9 ∷ 2 ∷ 0 ∷ []
unfolding of_picks pick_gives take_due take_gives due_of due_below due_or first_of first_in first_from part count_of entry_at all_sound class_sound every sound_at entry_sound in_range
picks = refl

pub runs : of_runs ≡ 28 ∷ 28 ∷ 29 ∷ 29 ∷ 29 ∷ 9 ∷ 3 ∷ []
unfolding of_runs run_gives started_by start_at start_of lists_fit line_fits begun stopped run_for onward step step_for pick_step arrival_step next_event at_candidate arrives_by smallest_of smallest_below smaller first_of first_in first_from part count_of all_sound class_sound every sound_at entry_sound in_range stop_number
runs = refl

pub reading : of_reading ≡ 5 ∷ 25 ∷ 25 ∷ 24 ∷ 25 ∷ 0 ∷ []
unfolding of_reading read_at read_left read_marked marked_among kinds is_mark read_fields field_numbers number total size
reading = refl

pub writing : of_writing ≡ 26 ∷ 0 ∷ []
unfolding of_writing write_to write_of bytes_of field_bytes big_endian
writing = refl

pub sending : of_sending ≡ 17 ∷ 672 ∷ []
unfolding of_sending sending_ticks
sending = refl

pub stops : of_stops ≡ (0 ∷ []) ∷ (3 ∷ []) ∷ (27 ∷ []) ∷ (4 ∷ []) ∷ (4 ∷ []) ∷ [] ∷ []
unfolding of_stops step_for arrival_step pick_step stop_number in_range
stops = refl

pub lists : of_lists ≡ true ∷ false ∷ false ∷ false ∷ false ∷ []
unfolding of_lists lists_fit in_range
lists = refl

pub classes : of_classes ≡ false ∷ false ∷ true ∷ []
unfolding of_classes class_sound every sound_at entry_sound in_range
classes = refl
