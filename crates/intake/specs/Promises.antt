-- What is promised of a session, whatever its turns do, where each turn is right and moves on.
-- Each statement has a name here, and its proof under the same name in the file Promises of proofs/.
use Rattle.std.specs.Prelude.{ℕ, suc, ◌+◌, ◌-◌, ◌≤◌, ◌<◌, min, ◌≡◌, List, [], ◌++◌, Result, Ok, length, take, drop}
use Rattle.tablefile.specs.BigEndian.{AreBytes}
use Rattle.intake.specs.declared.Told.{Told}
use Rattle.intake.specs.declared.Told.TheVariants.{More, Ended, Failed}
use Rattle.intake.specs.declared.Next.{Next}
use Rattle.intake.specs.declared.Next.TheVariants.{GoesOn, Reads, Ends, Fails}
use Rattle.intake.specs.declared.Held.{Held}
use Rattle.intake.specs.declared.Unread.{Unread}
use Rattle.intake.specs.Holding.{Within, held_in, came_in, kept_for}
use Rattle.intake.specs.Sessions.{Input, bytes_of, readings, EndsWell, Stepping, session_of, Stood, MayTurn, MayRead, HasEnded, Turned}

-- ---- what is written

-- what a program makes of a whole input: all that it writes, and what it holds in the end
pub record Given (F : Type 0) : Type 0 where
  pub text : List ℕ
  pub final : F

-- text in front
unfoldable pub following : {F : Type 0} → List ℕ → Given F → Given F
following text g = record { text = text ++ g.text; final = g.final }

abbrev pub Meaning : Type 0 → Type 0 → Type 0
Meaning S F = S → List ℕ → Given F

-- a turn is right: whatever follows the held bytes, what it writes and then what the rest of them gives from its state, are what the whole gives;
-- and where it ends the session, what it writes is all, and its state the last, whatever follows, or where nothing follows if it was told of the end
pub record Right {S F : Type 0} (step : Stepping S) (final_of : S → F) (whole : Meaning S F) : Type 0 where
  pub on : (s : S) (held : List ℕ) (said : Told) (after : List ℕ) → AreBytes held → ((step s held said).next ≡ Ends → ⊥)
      → whole s (held ++ after) ≡ following (step s held said).text (whole (step s held said).state (drop (step s held said).used held ++ after))
  pub last : (s : S) (held : List ℕ) (said : Told) (after : List ℕ) → AreBytes held → AreBytes after → (said ≡ Ended → after ≡ []) → (step s held said).next ≡ Ends
      → whole s (held ++ after) ≡ record { text = (step s held said).text; final = final_of (step s held said).state }

-- a session that was ended gives what the whole input gives, however the readings cut it
abbrev pub AllOfIt : Type 1
AllOfIt =
    (S F : Type 0) (step : Stepping S) (final_of : S → F) (whole : Meaning S F) → Right step final_of whole
    → (turns : ℕ) (s : S) (input : Input) → AreBytes (bytes_of input)
    → (session_of step turns s input).close ≡ Ends
    → whole s (bytes_of input) ≡ record { text = (session_of step turns s input).text; final = final_of (session_of step turns s input).state }

-- a session that stopped otherwise, as after a failure, has written the beginning of it: the rest is what its state gives for the bytes that it held, those not read yet and whatever could have followed
abbrev pub TheBeginning : Type 1
TheBeginning =
    (S F : Type 0) (step : Stepping S) (final_of : S → F) (whole : Meaning S F) → Right step final_of whole
    → (turns : ℕ) (s : S) (input : Input) → AreBytes (bytes_of input) → (after : List ℕ)
    → ((session_of step turns s input).close ≡ Ends → ⊥)
    → whole s (bytes_of input ++ after)
    ≡ following (session_of step turns s input).text
    (whole (session_of step turns s input).state ((session_of step turns s input).held ++ (bytes_of (session_of step turns s input).left ++ after)))

-- wherever a program stands in its session, what it has written and then what its state gives for the bytes that it holds and whatever follows, are what the whole gives
abbrev pub WrittenSoFar : Type 1
WrittenSoFar =
    (S F : Type 0) (step : Stepping S) (final_of : S → F) (whole : Meaning S F) → Right step final_of whole
    → (start : S) (n : ℕ) (read text : List ℕ) (s : S) (held : List ℕ) (said : Told) → Stood step start n read text s held said → AreBytes read → (after : List ℕ)
    → whole start (read ++ after) ≡ following text (whole s (held ++ after))

-- and where it has ended, that is all
abbrev pub EndedIsAll : Type 1
EndedIsAll =
    (S F : Type 0) (step : Stepping S) (final_of : S → F) (whole : Meaning S F) → Right step final_of whole
    → (start : S) (n : ℕ) (s : S) (e : HasEnded step start n s) → AreBytes e.turned.read
    → whole start e.turned.read ≡ record { text = e.turned.text ++ (step e.state e.before e.said).text; final = final_of s }

-- ---- that it ends

-- a session moves on: Stands says how a state may stand with so many bytes still to be used, and work how much is to be done beside them.
-- A turn that goes on, and one that asks for more, keep within that; the first leaves less to do, the second was told that there may be more; and none fails but where a reading did
pub record Moves {S : Type 0} (step : Stepping S) (Stands : S → ℕ → Type 0) (work : S → ℕ) : Type 0 where
  pub goes : (s : S) (held : List ℕ) (said : Told) (n : ℕ) → AreBytes held → Stands s (length held + n) → (step s held said).next ≡ GoesOn
      → (work (step s held said).state + length (drop (step s held said).used held) < work s + length held)
      × Stands (step s held said).state (length (drop (step s held said).used held) + n)
  pub reads : (s : S) (held : List ℕ) (said : Told) (n : ℕ) → AreBytes held → Stands s (length held + n) → (step s held said).next ≡ Reads
      → (said ≡ More)
      × (work (step s held said).state + length (drop (step s held said).used held) ≤ work s + length held)
      × Stands (step s held said).state (length (drop (step s held said).used held) + n)
  pub fails : (s : S) (held : List ℕ) (said : Told) (n : ℕ) → AreBytes held → Stands s (length held + n) → (step s held said).next ≡ Fails → said ≡ Failed

-- where no reading fails, a session of enough turns is ended by one of them
abbrev pub ComesToItsEnd : Type 1
ComesToItsEnd =
    (S : Type 0) (step : Stepping S) (Stands : S → ℕ → Type 0) (work : S → ℕ) → Moves step Stands work
    → (turns : ℕ) (s : S) (input : Input) → AreBytes (bytes_of input) → EndsWell input → Stands s (length (bytes_of input))
    → work s + length (bytes_of input) + readings input + 1 < turns
    → (session_of step turns s input).close ≡ Ends

-- ---- turns and readings

-- a turn lets the program make the next one, read, or end, by what it says comes next
abbrev pub TurnStands : Type 1
TurnStands =
    (S : Type 0) (step : Stepping S) (start : S) (n : ℕ) (s : S) (held : List ℕ) (said : Told) → MayTurn step start n s held said
    → (s' : S) (held' : List ℕ) (said' : Told)
    → s' ≡ (step s held said).state → held' ≡ drop (step s held said).used held → said' ≡ said
    → Turned step start n (step s held said) s' held' said'

-- a reading behind the bytes that were kept, which left them as they were, lets the program make its next turn
abbrev pub ReadingStands : Type 1
ReadingStands =
    (S : Type 0) (step : Stepping S) (start : S) (n : ℕ) (s : S) (h : Held) (l : List ℕ) → Within h (length l) → MayRead step start n s (held_in h l)
    → (got : Result ℕ Unread) (m : List ℕ) → take h.filled m ≡ take h.filled l
    → MayTurn step start (suc n) s (held_in (came_in h got (length l)) m) (came_in h got (length l)).told

-- ---- the buffer

-- what is held stays within the buffer: after a reading, and brought to the front
abbrev pub ReadingWithin : Type 0
ReadingWithin = (h : Held) (got : Result ℕ Unread) (size : ℕ) → Within h size → Within (came_in h got size) size

abbrev pub KeptWithin : Type 0
KeptWithin =
    (x : Next) (h : Held) (l : List ℕ) → Within h (length l)
    → Within (kept_for x h l).held (length (kept_for x h l).bytes) × (length (kept_for x h l).bytes ≡ length l)

-- and it is the same bytes
abbrev pub KeptSame : Type 0
KeptSame = (x : Next) (h : Held) (l : List ℕ) → Within h (length l) → held_in (kept_for x h l).held (kept_for x h l).bytes ≡ held_in h l

-- where a reading comes next, there is room for one behind them, if they are fewer than the buffer's bytes
abbrev pub RoomToRead : Type 0
RoomToRead =
    (h : Held) (l : List ℕ) → Within h (length l) → length (held_in h l) < length l → (kept_for Reads h l).held.filled < length (kept_for Reads h l).bytes

-- what is held after so many bytes of it were used
abbrev pub HeldAfterUse : Type 0
HeldAfterUse =
    (h : Held) (used : ℕ) (l : List ℕ) → used ≤ h.filled - h.place
    → held_in (record { place = h.place + used; filled = h.filled; told = h.told }) l ≡ drop used (held_in h l)

-- and after a reading that left those bytes as they were and brought more: they and what it brought
abbrev pub HeldAfterReading : Type 0
HeldAfterReading =
    (h : Held) (k : ℕ) (size : ℕ) (l m : List ℕ) → Within h size → take h.filled m ≡ take h.filled l
    → held_in (came_in h (Ok (suc k)) size) m ≡ held_in h l ++ take (min (suc k) (size - h.filled)) (drop h.filled m)
