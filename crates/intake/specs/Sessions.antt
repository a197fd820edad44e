-- A session: turns over the bytes that are held, and readings where a turn asks for them.
-- S is what a program keeps from turn to turn; step its turn, by that state, the held bytes and what the last reading said.
use Rattle.std.specs.Prelude.{ℕ, zero, suc, ◌≡◌, List, [], ◌++◌, drop}
use Rattle.intake.specs.declared.Told.{Told}
use Rattle.intake.specs.declared.Told.TheVariants as told
use Rattle.intake.specs.declared.Next.{Next}
use Rattle.intake.specs.declared.Next.TheVariants.{GoesOn, Reads, Ends, Fails}

-- what the readings bring, one after the other: bytes, as many as may be, and none where one only would have to wait; then the end or a failure
pub data Input : Type 0 where
  more : List ℕ → Input → Input
  ended : Input
  failed : Input

-- all of them
unfoldable pub bytes_of : Input → List ℕ
bytes_of (more part rest) = part ++ bytes_of rest
bytes_of ended = []
bytes_of failed = []

-- how many readings bring something
unfoldable pub readings : Input → ℕ
readings (more part rest) = suc (readings rest)
readings ended = 0
readings failed = 0

-- no reading fails
pub data EndsWell : Input → Type 0 where
  at_its_end : EndsWell ended
  after_more : {part : List ℕ} {rest : Input} → EndsWell rest → EndsWell (more part rest)

-- what a turn gives: the bytes to write, the state after it, how many of the held bytes it used, and what comes next
pub record Turn (S : Type 0) : Type 0 where
  pub text : List ℕ
  pub state : S
  pub used : ℕ
  pub next : Next

abbrev pub Stepping : Type 0 → Type 0
Stepping S = S → List ℕ → Told → Turn S

-- what a session gives: all bytes written, and the state, the held bytes and the readings that are left where it stopped.
-- It stopped because a turn ended it or said that it failed; GoesOn where its turns were used up
pub record Outcome (S : Type 0) : Type 0 where
  pub text : List ℕ
  pub state : S
  pub held : List ℕ
  pub left : Input
  pub close : Next

unfoldable pub stopped : {S : Type 0} → S → List ℕ → Input → Next → Outcome S
stopped s held input close = record { text = []; state = s; held = held; left = input; close = close }

-- text in front
unfoldable pub written : {S : Type 0} → List ℕ → Outcome S → Outcome S
written text o = record { text = text ++ o.text; state = o.state; held = o.held; left = o.left; close = o.close }

-- by what comes next: a turn with what was kept, a turn after a reading, or the stop. An input that has ended has ended for good
unfoldable pub onward : {S : Type 0} → Next → S → List ℕ → Told → Input → (S → List ℕ → Told → Input → Outcome S) → Outcome S
onward GoesOn s kept said input go = go s kept said input
onward Reads s kept said (more part rest) go = go s (kept ++ part) told.More rest
onward Reads s kept said ended go = go s kept told.Ended ended
onward Reads s kept said failed go = go s kept told.Failed failed
onward Ends s kept said input go = stopped s kept input Ends
onward Fails s kept said input go = stopped s kept input Fails

-- a session of at most so many turns
unfoldable pub session : {S : Type 0} → Stepping S → ℕ → S → List ℕ → Told → Input → Outcome S
session step zero s held said input = stopped s held input GoesOn
session step (suc turns) s held said input =
    written (step s held said).text
    (onward (step s held said).next (step s held said).state (drop (step s held said).used held) said input (session step turns))

-- from the start: nothing is held, and there may be more
abbrev pub session_of : {S : Type 0} → Stepping S → ℕ → S → Input → Outcome S
session_of step turns s input = session step turns s [] told.More input

-- ---- where a program stands in its session

-- after so many turns, by the bytes read and the bytes written so far: at the start; after a turn that goes on; and after a turn that asks for more, and a reading that brought a part, or said that the input has ended, or that it failed
pub data Stood {S : Type 0} (step : Stepping S) (start : S) : ℕ → List ℕ → List ℕ → S → List ℕ → Told → Type 0 where
  at_first : Stood step start zero [] [] start [] told.More
  after_a_turn : {n : ℕ} {read text : List ℕ} {s : S} {held : List ℕ} {said : Told} → Stood step start n read text s held said → (step s held said).next ≡ GoesOn
      → Stood step start (suc n) read (text ++ (step s held said).text) (step s held said).state (drop (step s held said).used held) said
  after_a_reading : {n : ℕ} {read text : List ℕ} {s : S} {held : List ℕ} {said : Told} → Stood step start n read text s held said → (step s held said).next ≡ Reads → (part : List ℕ)
      → Stood step start (suc n) (read ++ part) (text ++ (step s held said).text) (step s held said).state (drop (step s held said).used held ++ part) told.More
  after_the_end : {n : ℕ} {read text : List ℕ} {s : S} {held : List ℕ} {said : Told} → Stood step start n read text s held said → (step s held said).next ≡ Reads
      → Stood step start (suc n) read (text ++ (step s held said).text) (step s held said).state (drop (step s held said).used held) told.Ended
  after_a_failure : {n : ℕ} {read text : List ℕ} {s : S} {held : List ℕ} {said : Told} → Stood step start n read text s held said → (step s held said).next ≡ Reads
      → Stood step start (suc n) read (text ++ (step s held said).text) (step s held said).state (drop (step s held said).used held) told.Failed

-- a program may make its turn of this number where it stands so, whatever was read and written
pub record MayTurn {S : Type 0} (step : Stepping S) (start : S) (n : ℕ) (s : S) (held : List ℕ) (said : Told) : Type 0 where
  pub read : List ℕ
  pub text : List ℕ
  pub stands : Stood step start n read text s held said

-- and it may read after a turn that asked for more and left this
pub record MayRead {S : Type 0} (step : Stepping S) (start : S) (n : ℕ) (s : S) (held : List ℕ) : Type 0 where
  pub state : S
  pub before : List ℕ
  pub said : Told
  pub turned : MayTurn step start n state before said
  pub asks : (step state before said).next ≡ Reads
  pub left : s ≡ (step state before said).state
  pub kept : held ≡ drop (step state before said).used before

-- and it has ended after a turn that said so and left this
pub record HasEnded {S : Type 0} (step : Stepping S) (start : S) (n : ℕ) (s : S) : Type 0 where
  pub state : S
  pub before : List ℕ
  pub said : Told
  pub turned : MayTurn step start n state before said
  pub ends : (step state before said).next ≡ Ends
  pub left : s ≡ (step state before said).state

-- what lies open to a program after its turn of this number, which gave t and left these
pub record Turned {S : Type 0} (step : Stepping S) (start : S) (n : ℕ) (t : Turn S) (s : S) (held : List ℕ) (said : Told) : Type 0 where
  pub goes : t.next ≡ GoesOn → MayTurn step start (suc n) s held said
  pub reads : t.next ≡ Reads → MayRead step start n s held
  pub ends : t.next ≡ Ends → HasEnded step start n s
