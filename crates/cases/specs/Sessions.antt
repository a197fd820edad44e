-- Readings at which the premises of the promises of `listing_turn`, `replay_turn` and `replay_account` hold: document 01's example in three readings, the second of which only would have to wait, and one that fails.
-- Each field of the record is a premise at these values, or what comes of it. Turns, rooms and counts are plain numbers.
use Rattle.std.specs.Prelude.{◌+◌, ◌≤◌, ◌<◌, ◌≡◌, [], ◌∷◌, length, drop}
use Rattle.quantity.specs.Kinds.{ticks}
use Rattle.text.specs.Numeral.{most}
use Rattle.tablefile.specs.BigEndian.{AreBytes}
use Rattle.reader.specs.Figures.{example_file}
use Rattle.intake.specs.Sessions.{Input, more, ended, failed, bytes_of, readings, EndsWell}
use Rattle.intake.specs.declared.Next.TheVariants.{Fails}
use Rattle.listing_text.specs.Places.{line_room, end_room, most_lines}
use Rattle.listing_turn.specs.Promises.{listing_session}
use Rattle.replay_text.specs.Lines as replay
use Rattle.replay_text.specs.declared.Line.TheVariants.{Stop}
use Rattle.replay_turn.specs.Protocol.{Places}
use Rattle.replay_account.specs.declared.Account.{Account}
use Rattle.replay_account.specs.Account.{lines_of}
use Rattle.cases.specs.TableFile.{lent}
use Rattle.cases.specs.Listing.{cut_file}

-- the example, cut in the middle of its third record, and a reading in between that only would have to wait
abbrev pub in_three : Input
in_three = more cut_file (more [] (more (drop 33 example_file) ended))

-- the same, where the second reading fails
abbrev pub broken : Input
broken = more cut_file failed

-- two frames were released and picked, and the run is done
abbrev pub two_frames : Account
two_frames = record { frames = 2; picks = 2; last = Stop 0 2 (ticks 1344) 4 2 }

pub record SessionExamples : Type 0 where
  -- ListingOfAllReadings, GatheredFromAllReadings: the readings bring the example, none fails, and the turns suffice
  pub all_of_it : bytes_of in_three ≡ example_file
  pub are_bytes : AreBytes (bytes_of in_three)
  pub ends_well : EndsWell in_three
  pub few_lines : length (bytes_of in_three) < most_lines
  pub few_bytes : length (bytes_of in_three) < most
  pub room : line_room + end_room ≤ 74
  pub enough_turns : length (bytes_of in_three) + readings in_three + 1 < 72
  pub lists : Places 3 (lent 3) (lent 3) (lent 3)
  -- ListingSoFar: a session over readings of which one fails does not end
  pub broken_are_bytes : AreBytes (bytes_of broken)
  pub broken_fails : (listing_session 300 5 broken).close ≡ Fails
  -- AccountInParts: five lines, each of which has room
  pub five_lines : length (lines_of two_frames (0 ∷ 0 ∷ []) (0 ∷ 1 ∷ []) (0 ∷ 672 ∷ [])) ≡ 5
  pub line_room_is : replay.line_room ≤ 116
