-- What becomes of the frame at a place of a run's lists: it is the call at that place, and what enters is its released frame. Assumes nothing.
use mathlib.Core.Path.{◌≡◌, refl, sym}
use mathlib.Core.List.{List, [], ◌∷◌, ◌++◌}
use mathlib.Core.Logic.{◌⊎◌, inl, inr, ⊎_elim}
use Prim.Native.Nat.{ℕ}
use native.Mathlib.Omega.{arith}
use lib.ListN.{get_or}
use Rattle.quantity.specs.Charge.{charged}
use Rattle.quantity.specs.declared.Ticks.{Ticks}
use Rattle.quantity.proofs.Refusals.{refusal_number}
use Rattle.records.specs.Numbers.{answer_number}
use Rattle.records.specs.declared.Group.{Group}
use Rattle.records.specs.declared.Answer.{Answer}
use Rattle.records.specs.declared.Answer.TheVariants.{Released, Discarded, Refused}
use Rattle.places.specs.declared.Waiting.{Waiting}
use Rattle.classes.specs.Calls.{Entered, enter_gives}
use Rattle.std.specs.Prelude.{Ok, Err}
use Rattle.waiting.specs.Answers.{entered_number}
use Rattle.bridge.specs.Tables.{group_at, stream_at}
use Rattle.bridge.specs.History.{Call, reply, after_call, Frame, Outcome, released, outcome_of, outcome}
use Rattle.bridge.specs.declared.Bridge.{Bridge}
use Rattle.line.specs.Run.{Input, State, handed, entered, settled, frame_at}
use Rattle.line.specs.Events.{frame_call, entering_by, entering_of}
use Rattle.line.specs.declared.Handed.{Handed}
use Rattle.line.proofs.Happening.{Enter, Pass}
use Rattle.promises_of_runs.specs.Entries.{EntryOf, Among, enters, passes, Settles, room, full, other}

module _ (i : Input) (b : Bridge) (k : ℕ) where
  -- the frame's octets, its stream's group, and its judged frame where T is its eligibility time
  abbrev octets_at : ℕ
  octets_at = get_or i.octets k 0

  abbrev home_at : Group
  home_at = group_at b (stream_at b (get_or i.ids k 0)).group

  abbrev judged_at : ℕ → Frame
  judged_at T = record { stream = get_or i.ids k 0; group = (stream_at b (get_or i.ids k 0)).group; bits = charged octets_at; arrival = get_or i.arrivals k 0; time = T }

  abbrev becomes : Answer → List Outcome
  becomes a = outcome_of (get_or i.ids k 0) (stream_at b (get_or i.ids k 0)).group (charged octets_at) (get_or i.arrivals k 0) a

  -- ---- the frame at a place is the call at it
  pub called : (frame_at i b k).bridge ≡ after_call b (frame_call i k)
  unfolding frame_at frame_call after_call
  called = refl

  pub judged : outcome b (frame_call i k) ≡ becomes (frame_at i b k).answer
  unfolding frame_at frame_call outcome
  judged = refl

  pub answered : (reply b (frame_call i k)).number ≡ answer_number (frame_at i b k).answer
  unfolding frame_at frame_call reply
  answered = refl

  -- what is handed to the queue is the released frame's entry
  own_entry : (T : ℕ) → EntryOf i b (handed home_at k octets_at T) (judged_at T)
  unfolding handed
  own_entry T = record { stream = refl; time = refl; bits = refl; class = refl }

-- ---- what enters, from any queues: by what entering answers, and by what the frame is answered
module _ (i : Input) (b : Bridge) (w : Waiting) (k : ℕ) (xs : List Call) (hs : List Handed) (more : Among i (after_call b (frame_call i k)) xs hs) where
  enters_by : (T : ℕ) → outcome b (frame_call i k) ≡ released (judged_at i b k T) ∷ [] → (a : Entered) → Among i b (frame_call i k ∷ xs) (entering_by (handed (home_at i b k) k (octets_at i b k) T) a ++ hs)
  unfolding entering_by
  enters_by T o (Ok done) = enters (judged_at i b k T) o (own_entry i b k T) more
  enters_by T o (Err why) = passes more

  pub enters_of : (a : Answer) → outcome b (frame_call i k) ≡ becomes i b k a → Among i b (frame_call i k ∷ xs) (entering_of w (home_at i b k) k (octets_at i b k) a ++ hs)
  unfolding entering_of outcome_of
  enters_of (Released T) o = enters_by T.0 o (enter_gives w (handed (home_at i b k) k (octets_at i b k) T.0).class (handed (home_at i b k) k (octets_at i b k) T.0).entry).answer
  enters_of (Discarded T) o = passes more
  enters_of (Refused why) o = passes more

-- ---- its number too, from sound queues
module _ (i : Input) (s : State) (xs : List Call) (ns : List ℕ) (hs : List Handed) (more : Settles i (after_call s.bridge (frame_call i s.next)) xs ns hs) where
  abbrev b : Bridge
  b = s.bridge

  abbrev k : ℕ
  k = s.next

  abbrev g : Group
  g = home_at i b k

  abbrev n : ℕ
  n = octets_at i b k

  abbrev Ways : Answer → Type 0
  Ways a = Enter s.waiting g k n a ⊎ Pass s.waiting g k n a

  settles_by : (T : Ticks) → outcome b (frame_call i k) ≡ released (judged_at i b k T.0) ∷ [] → (a : Entered) → (settled s.waiting g k n (Released T)).number ≡ entered_number a → Ways (Released T)
      → Settles i b (frame_call i k ∷ xs) ((settled s.waiting g k n (Released T)).number ∷ ns) (entering_by (handed g k n T.0) a ++ hs)
  unfolding entering_by answer_number
  settles_by T o (Ok done) q v = room (judged_at i b k T.0) o q (own_entry i b k T.0) more
  settles_by T o (Err why) q (inl v) = let z = v.zero in let y = (refusal_number why).0 in absurd (omega arith)
  settles_by T o (Err why) q (inr v) = full (judged_at i b k T.0) o (⊎_elim (λ y. absurd (v.some y)) (λ y. y.1) v.number) more

  pub settles_of : (a : Answer) → outcome b (frame_call i k) ≡ becomes i b k a → (reply b (frame_call i k)).number ≡ answer_number a → Ways a
      → Settles i b (frame_call i k ∷ xs) ((settled s.waiting g k n a).number ∷ ns) (entering_of s.waiting g k n a ++ hs)
  unfolding entering_of settled entered outcome_of
  settles_of (Released T) o q v = settles_by T o (enter_gives s.waiting (handed g k n T.0).class (handed g k n T.0).entry).answer refl v
  settles_of (Discarded T) o q v = other no_release (sym q) more where
    no_release : (f : Frame) → outcome b (frame_call i k) ≡ released f ∷ [] → ⊥
    no_release f e = let z : ◌≡◌ {A = ℕ} 0 1 = cc in omega arith
  settles_of (Refused why) o q v = other no_release (sym q) more where
    no_release : (f : Frame) → outcome b (frame_call i k) ≡ released f ∷ [] → ⊥
    no_release f e = let z : ◌≡◌ {A = ℕ} 0 1 = cc in omega arith
