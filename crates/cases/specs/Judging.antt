-- Document 01, 'One frame through a scheduler', 'The table file' and 'Errors that look right': numbers that the P rows do not show.
-- An answer is its number, and T where there is one.
use Rattle.std.specs.Prelude.{ℕ, ◌≡◌, refl, List, [], ◌∷◌}
use Rattle.quantity.specs.Ranges.{in_range}
use Rattle.quantity.specs.Charge.{charged_bits}
use Rattle.records.specs.ExactTime.{exactly, moment_of, rounded_up, E_first}
use Rattle.records.specs.Sound.{sound_group, sound_regulator, sound}
use Rattle.records.specs.Numbers.{answer_number, answer_values}
use Rattle.setup.specs.SetUp.{fresh_group, fresh_stream, group_set_up, stream_set_up}
use Rattle.admission.specs.Tests.{above_burst, tested}
use Rattle.shaper.specs.Frame.{S, F, E_after, earliest, after_release, eligibility_time, discarded, released, settled, process_frame}
use Rattle.shaper.specs.Numbers.{after_tests, judged}
use Rattle.calls.specs.Calls.{taken, group_placed, stream_placed, judged_at}
use Rattle.calls.specs.Numbers.{set_up_number}
use Rattle.bridge.specs.Tables.{fresh_bridge, group_at, stream_at, with_group, with_stream}
use Rattle.bridge.specs.Calls.{group_stored, group_called, stream_stored, stream_called, frame_stored, frame_called}
use Rattle.bridge.specs.History.{Call, group, stream, frame, Reply, reply, after_call, replies}
use Rattle.tablefile.specs.declared.Record.TheVariants.{GroupDefault}
use Rattle.listing_part.specs.Records.{call_of}

-- an answer's number and its values
unfoldable pub numbered : List Reply → List (List ℕ)
numbered [] = []
numbered (r ∷ rs) = (r.number ∷ r.values) ∷ numbered rs

-- what calls answer one after the other, from a fresh start
unfoldable pub answers_to : List Call → List (List ℕ)
answers_to xs = numbered (replies fresh_bridge xs)

-- the residence of a GD is 10,000,000: a frame of 16,160 bits lasts so long at this rate. The third would wait one tick longer and is discarded, the fourth waits just so long
unfoldable pub by_default : List Call
by_default =
    call_of (GroupDefault 0 6)
    ∷ stream 0 0 1_616_000 16_160
    ∷ frame 0 2_000 0
    ∷ frame 0 2_000 0
    ∷ frame 0 2_000 9_999_999
    ∷ frame 0 2_000 10_000_000
    ∷ []

-- discarded, and the last arrival is that frame's: one before it is refused by 14, and one with it is not
unfoldable pub last_arrival : List Call
last_arrival = group 0 6 0 ∷ stream 0 0 9_000_000 672 ∷ frame 0 64 0 ∷ frame 0 64 10 ∷ frame 0 64 9 ∷ frame 0 64 10 ∷ []

-- the fraction is in neither G nor E: with r = 10,000,000,000 and b = 672 three frames of 64 octets at 0 get 0, 68, 136
unfoldable pub whole_ticks : List Call
whole_ticks = group 0 6 1_000_000 ∷ stream 0 0 10_000_000_000 672 ∷ frame 0 64 0 ∷ frame 0 64 0 ∷ frame 0 64 0 ∷ []

unfoldable pub given : List (List (List ℕ))
given = answers_to by_default ∷ answers_to last_arrival ∷ answers_to whole_ticks ∷ []

unfoldable pub expected : List (List (List ℕ))
expected =
    ((0 ∷ []) ∷ (0 ∷ []) ∷ (0 ∷ 0 ∷ []) ∷ (0 ∷ 10_000_000 ∷ []) ∷ (1 ∷ 20_000_000 ∷ []) ∷ (0 ∷ 20_000_000 ∷ []) ∷ [])
    ∷ ((0 ∷ []) ∷ (0 ∷ []) ∷ (0 ∷ 0 ∷ []) ∷ (1 ∷ 74_667 ∷ []) ∷ (14 ∷ []) ∷ (1 ∷ 74_667 ∷ []) ∷ [])
    ∷ ((0 ∷ []) ∷ (0 ∷ []) ∷ (0 ∷ 0 ∷ []) ∷ (0 ∷ 68 ∷ []) ∷ (0 ∷ 136 ∷ []) ∷ [])
    ∷ []

pub judging : given ≡ expected
unfolding given expected answers_to numbered by_default last_arrival whole_ticks call_of replies reply after_call group_called group_stored group_placed taken stream_called stream_stored stream_placed frame_called frame_stored judged_at group_at stream_at with_group with_stream fresh_bridge set_up_number group_set_up stream_set_up fresh_stream fresh_group judged after_tests tested answer_number answer_values above_burst sound sound_group sound_regulator in_range process_frame settled discarded released eligibility_time earliest after_release E_first S F E_after exactly moment_of rounded_up charged_bits
judging = refl
