-- Laws of gathering a file in parts: further bytes in front move the places, and further bytes behind change nothing that was found. Assumes nothing.
use mathlib.Core.Path.{◌≡◌, refl, sym, ap, ◌∙◌, subst}
use mathlib.Core.Bool.{Bool, true, false}
use mathlib.Core.List.{List, [], ◌++◌}
use Prim.Native.Nat.{ℕ, zero, suc, ◌+◌, ◌≤◌, ◌<◌}
use native.Mathlib.Nat.{add_assoc, zero-add}
use native.Mathlib.Omega.{arith}
use lib.ListN.{length, drop}
use lib.Seq.{drop-append-add, drop-append-le}
use Rattle.quantity.specs.declared.Refusal.TheVariants.{UnknownMark, CutShort}
use Rattle.tablefile.specs.BigEndian.{AreBytes}
use Rattle.tablefile.specs.Layout.{widths, size, record_of, field_numbers}
use Rattle.reader.specs.Reader.{read_left, read_at}
use Rattle.tablefile.specs.declared.Record.{Record}
use Rattle.tablefile.specs.declared.Record.TheVariants as rec
use Rattle.tablefile.specs.declared.Reading.{Reading}
use Rattle.tablefile.specs.declared.Reading.TheVariants.{Found, NothingLeft, Refused}
use Rattle.reader.proofs.Further as reading
use Rattle.reader.proofs.OneRecord.{Front, empty, cut, strange, whole, front, found_in_longer}
use Rattle.bridge.specs.declared.Bridge.{Bridge}
use Rattle.replay_gathering.specs.declared.End.{End}
use Rattle.replay_gathering.specs.declared.End.TheVariants as end
use Rattle.replay_gathering.specs.declared.Task.{Task}
use Rattle.replay_gathering.specs.declared.Task.TheVariants.{Ends, Sets, Frame}
use Rattle.replay_gathering.specs.Gathering.{State, Outcome, ended, task_of, task_for, room_in, task_at, called, set_up_taken, after_set_up, setting_up, frame_taken, onward, gather_from}
use Rattle.replay_gathering.specs.Promises.{WantsMore, nothing_left, cut_short, moved, after}
use Rattle.replay_gathering.proofs.Turns.{Ahead, ends, sets, frame, task_ahead, unfolds}
use Rattle.std.proofs.Common.{Result, Ok, Err}
use Rattle.quantity.specs.declared.Refusal.{Refusal}

-- ---- further bytes in front

-- a task, so many places on
moved_task : ℕ → Task → Task
moved_task n (Ends why) = Ends why
moved_task n (Sets w next) = Sets w (n + next)
moved_task n (Frame i o A next) = Frame i o A (n + next)

task_of_moved : (n : ℕ) (room : Bool) (r : Record) (next : ℕ) → task_of room r (n + next) ≡ moved_task n (task_of room r next)
unfolding task_of moved_task
task_of_moved n room (rec.Group i c M) next = refl
task_of_moved n room (rec.GroupDefault i c) next = refl
task_of_moved n room (rec.Stream i k r u) next = refl
task_of_moved n true (rec.Frame i o A) next = refl
task_of_moved n false (rec.Frame i o A) next = refl

task_for_moved : (n : ℕ) (room : Bool) (x : Reading) → task_for room (reading.moved n x) ≡ moved_task n (task_for room x)
unfolding task_for reading.moved moved_task
task_for_moved n room (Found r next) = task_of_moved n room r next
task_for_moved n room NothingLeft = refl
task_for_moved n room (Refused why) = refl

module _ (before bytes : List ℕ) (m : ℕ) where
  n : ℕ
  n = length before

  task_moved : (s : State) → task_at (before ++ bytes) (moved n m s) ≡ moved_task n (task_at bytes s)
  unfolding task_at read_at room_in moved n
  task_moved s =
      ap (λ (l : List ℕ). task_for (room_in s) (read_left l (length before + s.at))) (drop-append-add before bytes s.at)
      ∙ ap (task_for (room_in s)) (reading.moved_left (drop s.at bytes) (length before) s.at)
      ∙ task_for_moved (length before) (room_in s) (read_left (drop s.at bytes) s.at)

  after_moved : (a : Result (Unit {0}) Refusal) (x : State) (f g : State → Outcome) → f (moved n m x) ≡ after n m (g x) → after_set_up a (moved n m x) f ≡ after n m (after_set_up a x g)
  unfolding after_set_up after ended moved
  after_moved (Ok tt) x f g e = e
  after_moved (Err why) x f g e = refl

  taken_moved : (s : State) (next : ℕ) (b : Bridge) → set_up_taken (moved n m s) (n + next) b ≡ moved n m (set_up_taken s next b)
  unfolding set_up_taken moved
  taken_moved s next b = rw (add_assoc m s.records 1)

  frame_moved : (s : State) (next i o A : ℕ) → frame_taken (moved n m s) (n + next) i o A ≡ moved n m (frame_taken s next i o A)
  unfolding frame_taken moved
  frame_moved s next i o A = rw (add_assoc m s.records 1)

  onward_moved : {t : Task} (s : State) → Ahead s.at (length bytes) t → (f g : State → Outcome) → ((x : State) → s.at < x.at → x.at ≤ length bytes → f (moved n m x) ≡ after n m (g x))
      → onward (moved n m s) (moved_task n t) f ≡ after n m (onward s t g)
  unfolding onward moved_task setting_up after ended moved set_up_taken frame_taken
  onward_moved s (ends why) f g h = refl
  onward_moved s (sets w next a b) f g h =
      let x = called s.bridge w in
      ap (λ (y : State). after_set_up x.answer y f) (taken_moved s next x.bridge) ∙ after_moved x.answer (set_up_taken s next x.bridge) f g (h (set_up_taken s next x.bridge) a b)
  onward_moved s (frame i o A next a b) f g h = ap f (frame_moved s next i o A.0) ∙ h (frame_taken s next i o A.0) a b

  moves : (fuel : ℕ) (s : State) → length bytes < s.at + fuel → s.at ≤ length bytes → gather_from (before ++ bytes) (moved n m s) ≡ after n m (gather_from bytes s)
  moves zero s h w = absurd (omega arith)
  moves (suc fuel) s h w =
      unfolds (before ++ bytes) (moved n m s)
      ∙ ap (λ (t : Task). onward (moved n m s) t (gather_from (before ++ bytes))) (task_moved s)
      ∙ onward_moved s (task_ahead bytes s) (gather_from (before ++ bytes)) (gather_from bytes) (λ x l i. moves fuel x (omega arith) i)
      ∙ ap (after n m) (sym (unfolds bytes s))

-- a gathering after further bytes and records
pub gather_moved : (before bytes : List ℕ) (m : ℕ) (s : State) → s.at ≤ length bytes → gather_from (before ++ bytes) (moved (length before) m s) ≡ after (length before) m (gather_from bytes s)
unfolding n
gather_moved before bytes m s w = moves before bytes m (suc (length bytes)) s (omega arith) w

-- ---- further bytes behind

-- an end that wants more is one of two
wanted : {e : End} → WantsMore e → (e ≡ end.NothingLeft → ⊥) → (e ≡ end.Unreadable CutShort → ⊥) → ⊥
wanted nothing_left a b = a refl
wanted cut_short a b = b refl

-- a task that further bytes do not change is none that wants more
Settled : Task → Type 0
Settled t = (why : End) → t ≡ Ends why → WantsMore why → ⊥

record_settled : (room : Bool) (r : Record) (next : ℕ) → Settled (task_of room r next)
unfolding task_of Settled
record_settled room (rec.Group i c M) next why e w = let z : ◌≡◌ {A = ℕ} 0 1 = cc in omega arith
record_settled room (rec.GroupDefault i c) next why e w = let z : ◌≡◌ {A = ℕ} 0 1 = cc in omega arith
record_settled room (rec.Stream i k r u) next why e w = let z : ◌≡◌ {A = ℕ} 0 1 = cc in omega arith
record_settled true (rec.Frame i o A) next why e w = let z : ◌≡◌ {A = ℕ} 0 1 = cc in omega arith
record_settled false (rec.Frame i o A) next why e w =
    wanted w (λ q. let z : ◌≡◌ {A = ℕ} 0 1 = cc in omega arith) (λ q. let z : ◌≡◌ {A = ℕ} 0 1 = cc in omega arith)

strange_settled : Settled (Ends (end.Unreadable UnknownMark))
unfolding Settled
strange_settled why e w =
    wanted w (λ q. let z : ◌≡◌ {A = ℕ} 0 1 = cc in omega arith) (λ q. let z : ◌≡◌ {A = ℕ} 0 1 = cc in omega arith)

-- the state in which a gathering ended
unfoldable pub resumed : Outcome → State
resumed o = record { at = o.gathered.at; records = o.gathered.records; count = o.gathered.count; bridge = o.gathered.bridge; arrivals = o.arrivals; ids = o.ids; octets = o.octets }

module _ (part rest : List ℕ) (bytes : AreBytes part) where
  -- what the whole gives, w, where a part gives o
  pub record Continues (w o : Outcome) : Type 0 where
    pub inside : o.gathered.at ≤ length part
    pub more : WantsMore o.gathered.why → w ≡ gather_from (part ++ rest) (resumed o)
    pub done : (WantsMore o.gathered.why → ⊥) → w ≡ o

  -- what a part finds: more is wanted, or the whole finds it too
  data Fate (s : State) : Task → Type 0 where
    open_end : (why : End) → WantsMore why → Fate s (Ends why)
    found : (t : Task) → task_at (part ++ rest) s ≡ t → Settled t → Fate s t

  reading_fate : (s : State) → s.at ≤ length part → (x : Reading) → read_at part s.at ≡ x → Front (drop s.at part) s.at x → Fate s (task_for (room_in s) x)
  unfolding task_for task_at read_at
  reading_fate s i x e (empty f) = open_end end.NothingLeft nothing_left
  reading_fate s i x e cut = open_end (end.Unreadable CutShort) cut_short
  reading_fate s i x e strange =
      found (Ends (end.Unreadable UnknownMark))
      (ap (λ (l : List ℕ). task_for (room_in s) (read_left l s.at)) (drop-append-le s.at part rest i)
      ∙ ap (task_for (room_in s)) (reading.refused_for_good UnknownMark (λ z. omega (arith, z)) (drop s.at part) rest s.at s.at e))
      strange_settled
  reading_fate s i x e (whole k left is long) =
      let r = record_of k (field_numbers (widths k) left) in
      found (task_of (room_in s) r (s.at + size k))
      (ap (task_for (room_in s)) (rw (zero-add s.at, zero-add (s.at + size k)) at (found_in_longer [] part rest bytes s.at r (s.at + size k) e)))
      (record_settled (room_in s) r (s.at + size k))

  task_fate : (s : State) → s.at ≤ length part → Fate s (task_at part s)
  unfolding task_at read_at
  task_fate s i = reading_fate s i (read_left (drop s.at part) s.at) refl (front (drop s.at part) s.at)

  ended_continues : (s : State) (why : End) → s.at ≤ length part → (WantsMore why → ⊥) → Continues (ended why s) (ended why s)
  unfolding ended
  ended_continues s why i closed = record { inside = i; more = λ w. absurd (closed w); done = λ w. refl }

  after_continues : (a : Result (Unit {0}) Refusal) (x : State) → x.at ≤ length part → Continues (gather_from (part ++ rest) x) (gather_from part x) → Continues (after_set_up a x (gather_from (part ++ rest))) (after_set_up a x (gather_from part))
  unfolding after_set_up
  after_continues (Ok tt) x i c = c
  after_continues (Err why) x i c =
      ended_continues x (end.NotSetUp why) i
      (λ w. wanted w (λ q. let z : ◌≡◌ {A = ℕ} 0 1 = cc in omega arith) (λ q. let z : ◌≡◌ {A = ℕ} 0 1 = cc in omega arith))

  onward_continues : {t : Task} (s : State) → s.at ≤ length part → Ahead s.at (length part) t → Settled t → ((x : State) → s.at < x.at → x.at ≤ length part → Continues (gather_from (part ++ rest) x) (gather_from part x))
      → Continues (onward s t (gather_from (part ++ rest))) (onward s t (gather_from part))
  unfolding onward setting_up set_up_taken frame_taken Settled
  onward_continues s i (ends why) closed h = ended_continues s why i (λ w. closed why refl w)
  onward_continues s i (sets v next a b) closed h = let x = called s.bridge v in after_continues x.answer (set_up_taken s next x.bridge) b (h (set_up_taken s next x.bridge) a b)
  onward_continues s i (frame j o A next a b) closed h = h (frame_taken s next j o A.0) a b

  by_fate : {t : Task} (s : State) → s.at ≤ length part → Fate s t → Ahead s.at (length part) t → ((x : State) → s.at < x.at → x.at ≤ length part → Continues (gather_from (part ++ rest) x) (gather_from part x))
      → Continues (gather_from (part ++ rest) s) (onward s t (gather_from part))
  unfolding onward ended resumed
  by_fate s i (open_end why w) a h = record { inside = i; more = λ v. refl; done = λ closed. absurd (closed w) }
  by_fate s i (found t e closed) a h =
      subst (λ (w : Outcome). Continues w (onward s t (gather_from part)))
      (sym (unfolds (part ++ rest) s ∙ ap (λ (y : Task). onward s y (gather_from (part ++ rest))) e))
      (onward_continues s i a closed h)

  continues_for : (fuel : ℕ) (s : State) → length part < s.at + fuel → s.at ≤ length part → Continues (gather_from (part ++ rest) s) (gather_from part s)
  continues_for zero s h i = absurd (omega arith)
  continues_for (suc fuel) s h i =
      subst (λ (o : Outcome). Continues (gather_from (part ++ rest) s) o) (sym (unfolds part s))
      (by_fate s i (task_fate s i) (task_ahead part s) (λ x l j. continues_for fuel x (omega arith) j))

  pub continues : (s : State) → s.at ≤ length part → Continues (gather_from (part ++ rest) s) (gather_from part s)
  continues s i = continues_for (suc (length part)) s (omega arith) i
