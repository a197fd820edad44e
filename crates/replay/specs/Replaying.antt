-- What a replay writes: the account of the run of what the table file gathers.
-- r is the line's rate, f the moment it is free from; answers, picked and moments are the three lists that are lent to the run, as they stood before it.
-- Each statement has a name here, and its proof under the same name in the file Replaying of proofs/.
use Rattle.std.specs.Prelude.{◌≡◌, ℕ, ◌+◌, ◌<◌, ◌≤◌, true, cond, List, [], length}
use Rattle.text.specs.Numeral.{most}
use Rattle.tablefile.specs.BigEndian.{AreBytes}
use Rattle.places.specs.Queue.{nothing}
use Rattle.line.specs.Run.{Outcome, begun, run_gives}
use Rattle.line.specs.declared.Ran.{Ran}
use Rattle.intake.specs.Sessions.{Input, bytes_of, readings, EndsWell, ended, session_of}
use Rattle.intake.specs.declared.Next.TheVariants.{Ends}
use Rattle.replay_text.specs.Lines.{line_room}
use Rattle.replay_turn.specs.Gathered.{Yard, Final, gathered_from}
use Rattle.replay_turn.specs.Turns.{yard_of, final_of, reached_by}
use Rattle.replay_turn.specs.Promises.{reading_session}
use Rattle.replay_turn.specs.Protocol.{Places, HasGathered}
use Rattle.replay_turn.specs.declared.Standing.{Standing}
use Rattle.replay_account.specs.Account.{account_of, lines_of, account_text}
use Rattle.replay_account.specs.Promises.{account_turn}

-- the places of each list, and the events that a run may take: one arrival and one pick for each place
abbrev pub places : ℕ
places = 65536

abbrev pub budget : ℕ
budget = 131_072

-- the run of what was gathered, from empty queues and the first arrival on
unfoldable pub run_of : ℕ → ℕ → List ℕ → List ℕ → List ℕ → Yard → Outcome
run_of r f answers picked moments y =
    run_gives (record { arrivals = y.arrivals; ids = y.ids; octets = y.octets; rate = r }) budget (begun y.bridge nothing 0 f answers picked moments)

-- all that is told of it
unfoldable pub told_of : Outcome → List ℕ
told_of o = account_text (account_of o.ran) o.answers o.picked o.moments

-- by what was gathered: nothing is run but a whole file
unfoldable pub replayed_by : ℕ → ℕ → List ℕ → List ℕ → List ℕ → Final → List ℕ
replayed_by r f answers picked moments g = cond g.whole (told_of (run_of r f answers picked moments g.yard)) []

-- the replay of a file
unfoldable pub replay_text : ℕ → ℕ → List ℕ → List ℕ → List ℕ → List ℕ → List ℕ
replay_text r f answers picked moments bytes = replayed_by r f answers picked moments (gathered_from places bytes).final

-- ---- from the readings to what is written

-- however the readings cut the file: the session of its reading comes to its end, and says what is said of its records; and where the whole of it was taken, the session of the account comes to its end, and has written the replay of the file
abbrev pub ReplayOfAllReadings : Type 0
ReplayOfAllReadings =
    (r f size turns parts : ℕ) (arrivals ids octets answers picked moments : List ℕ) (input : Input)
    → Places places arrivals ids octets → AreBytes (bytes_of input) → EndsWell input → length (bytes_of input) < most
    → length (bytes_of input) + readings input + 1 < turns → line_room ≤ size
    → let S = reading_session turns arrivals ids octets input in
    let g = final_of S.state in
    let o = run_of r f answers picked moments g.yard in
    let lines = lines_of (account_of o.ran) o.answers o.picked o.moments in
    let P = session_of (account_turn size lines) parts 0 ended in
    length lines + 1 < parts
    → (S.close ≡ Ends)
    × (S.text ≡ (gathered_from places (bytes_of input)).text)
    × (g.whole ≡ true → (P.close ≡ Ends) × (P.text ≡ replay_text r f answers picked moments (bytes_of input)))

-- ---- what the program prints

-- a run's result and its lists, of what a file gave that was read to its end
pub record Replayed (ran : Ran) (answers picked moments : List ℕ) : Type 0 where
  pub standing : Standing
  pub arrivals : List ℕ
  pub ids : List ℕ
  pub octets : List ℕ
  pub gathered : HasGathered places standing arrivals ids octets
  pub whole : standing.whole ≡ true
  pub rate : ℕ
  pub free : ℕ
  pub answers₀ : List ℕ
  pub picked₀ : List ℕ
  pub moments₀ : List ℕ
  pub is : record { ran = ran; answers = answers; picked = picked; moments = moments } ≡ run_of rate free answers₀ picked₀ moments₀ (yard_of (reached_by standing arrivals ids octets))

-- its account is the replay of all bytes that were read
abbrev pub AccountIsTheReplay : Type 0
AccountIsTheReplay =
    (ran : Ran) (answers picked moments : List ℕ) (x : Replayed ran answers picked moments)
    → let read = x.gathered.ended.turned.read in
    AreBytes read
    → account_text (account_of ran) answers picked moments ≡ replay_text x.rate x.free x.answers₀ x.picked₀ x.moments₀ read
