-- A gathering, record by record: what the loop keeps, and one law for each way through a turn. Assumes nothing.
use mathlib.Core.Path.{◌≡◌, refl, sym, ap, ◌∙◌, subst}
use mathlib.Core.Bool.{Bool, true, false, ◌&&◌}
use mathlib.Core.List.{List}
use Prim.Native.Nat.{ℕ, zero, suc, ◌+◌, ◌≤◌, ◌<◌}
use native.Mathlib.Omega.{arith}
use lib.Dec.{ltb}
use lib.ListN.{length, drop, length-append, length-drop, length-set}
use borrow.Author.Tests.{ltb-true, lt-ltb, le-ltb}
use Rattle.quantity.specs.declared.Refusal.{Refusal}
use Rattle.quantity.specs.declared.Ticks.{Ticks}
use Rattle.quantity.proofs.Booleans.{both}
use Rattle.tablefile.specs.Layout.{mark, widths, record_of, field_numbers, size}
use Rattle.reader.specs.Reader.{read_at}
use Rattle.tablefile.specs.declared.Record.{Record}
use Rattle.tablefile.specs.declared.Record.TheVariants as rec
use Rattle.tablefile.specs.declared.Reading.{Reading}
use Rattle.tablefile.specs.declared.Reading.TheVariants as reading
use Rattle.tablefile.proofs.Fields.{mark_width_law}
use Rattle.reader.proofs.Marks.{none_left}
use Rattle.reader.proofs.OneRecord.{Front, empty, cut, strange, whole, front}
use Rattle.bridge.specs.Calls.{BridgeSetUp}
use Rattle.replay_gathering.specs.declared.End.{End}
use Rattle.replay_gathering.specs.declared.End.TheVariants.{NothingLeft, NotSetUp, ListsFull}
use Rattle.replay_gathering.specs.declared.Task.{Task}
use Rattle.replay_gathering.specs.declared.Task.TheVariants.{Ends, Sets, Frame}
use Rattle.replay_gathering.specs.declared.Wanted.{Wanted}
use Rattle.replay_gathering.specs.Steps.{task_after}
use Rattle.replay_gathering.specs.Gathering.{State, Outcome, ended, has_room, task_of, task_for, room_in, task_at, called, set_up_taken, after_set_up, setting_up, frame_taken, onward, gather_for, gather_from}
use Rattle.std.proofs.Common.{Result, Ok, Err}

-- ---- what the code tests

module _ (count arrivals ids octets : ℕ) where
  pub full_arrivals : arrivals ≤ count → false ≡ has_room count arrivals ids octets
  unfolding has_room
  full_arrivals h = rw (le-ltb count arrivals h)

  pub full_ids : count < arrivals → ids ≤ count → false ≡ has_room count arrivals ids octets
  unfolding has_room
  full_ids a h = rw (lt-ltb count arrivals a, le-ltb count ids h)

  pub by_octets : count < arrivals → count < ids → ltb count octets ≡ has_room count arrivals ids octets
  unfolding has_room
  by_octets a b = rw (lt-ltb count arrivals a, lt-ltb count ids b)

pub frame_waits : (room : Bool) (x : Record) (i o : ℕ) (A : Ticks) (next : ℕ) → x ≡ rec.Frame i o A → room ≡ false → Ends ListsFull ≡ task_of room x next
unfolding task_of
frame_waits room x i o A next e h = rw (e, h)

pub frame_goes : (room : Bool) (x : Record) (i o : ℕ) (A : Ticks) (next : ℕ) → x ≡ rec.Frame i o A → room ≡ true → Frame i o A next ≡ task_of room x next
unfolding task_of
frame_goes room x i o A next e h = rw (e, h)

-- a set-up that was refused leaves no other task
pub after_done : (a : Result (Unit {0}) Refusal) (t u : Task) → a ≡ (Ok tt) → t ≡ u → t ≡ task_after a u
unfolding task_after
after_done a t u e f = rw e f

pub after_refused : (a : Result (Unit {0}) Refusal) (why : Refusal) → a ≡ Err why → (u : Task) → Ends (NotSetUp why) ≡ task_after a u
unfolding task_after
after_refused a why e u = rw e

-- ---- a task leads on to a later place, and not beyond the bytes
pub data Ahead (p n : ℕ) : Task → Type 0 where
  ends : (why : End) → Ahead p n (Ends why)
  sets : (w : Wanted) (next : ℕ) → p < next → next ≤ n → Ahead p n (Sets w next)
  frame : (i o : ℕ) (A : Ticks) (next : ℕ) → p < next → next ≤ n → Ahead p n (Frame i o A next)

record_ahead : (p n : ℕ) (room : Bool) (r : Record) (next : ℕ) → p < next → next ≤ n → Ahead p n (task_of room r next)
unfolding task_of
record_ahead p n room (rec.Group i c M) next a b = sets _ next a b
record_ahead p n room (rec.GroupDefault i c) next a b = sets _ next a b
record_ahead p n room (rec.Stream i k r u) next a b = sets _ next a b
record_ahead p n true (rec.Frame i o A) next a b = frame i o A next a b
record_ahead p n false (rec.Frame i o A) next a b = ends ListsFull

reading_ahead : (bytes : List ℕ) (p : ℕ) (room : Bool) {x : Reading} → Front (drop p bytes) p x → Ahead p (length bytes) (task_for room x)
unfolding task_for size
reading_ahead bytes p room (empty e) = ends NothingLeft
reading_ahead bytes p room cut = ends _
reading_ahead bytes p room strange = ends _
reading_ahead bytes p room (whole k left is long) =
    record_ahead p (length bytes) room (record_of k (field_numbers (widths k) left)) (p + size k) (omega arith)
    (omega (arith, length-drop p bytes, ap length is, length-append (mark k) left, mark_width_law k))

pub task_ahead : (bytes : List ℕ) (s : State) → Ahead s.at (length bytes) (task_at bytes s)
unfolding task_at read_at
task_ahead bytes s = reading_ahead bytes s.at (room_in s) (front (drop s.at bytes) s.at)

after_ahead : {p n : ℕ} (a : Result (Unit {0}) Refusal) {t : Task} → Ahead p n t → Ahead p n (task_after a t)
unfolding task_after
after_ahead (Ok tt) h = h
after_ahead (Err why) h = ends (NotSetUp why)

sets_ahead : {p n : ℕ} {w : Wanted} {next : ℕ} → Ahead p n (Sets w next) → (p < next) × (next ≤ n)
sets_ahead (sets w next a b) = (a, b)

frame_ahead : {p n i o : ℕ} {A : Ticks} {next : ℕ} → Ahead p n (Frame i o A next) → (p < next) × (next ≤ n)
frame_ahead (frame i o A next a b) = (a, b)

-- ---- one record at a time

-- what follows a set-up matters only in the state after it
after_same : (a : Result (Unit {0}) Refusal) (x : State) (f g : State → Outcome) → f x ≡ g x → after_set_up a x f ≡ after_set_up a x g
unfolding after_set_up
after_same (Ok tt) x f g e = e
after_same (Err why) x f g e = refl

-- and what follows a task only in states at later places
later : {n : ℕ} {t : Task} (s : State) → Ahead s.at n t → (f g : State → Outcome) → ((x : State) → s.at < x.at → f x ≡ g x) → onward s t f ≡ onward s t g
unfolding onward setting_up set_up_taken frame_taken
later s (ends why) f g h = refl
later s (sets w next a b) f g h = let x = called s.bridge w in after_same x.answer _ f g (h (set_up_taken s next x.bridge) a)
later s (frame i o A next a b) f g h = h (frame_taken s next i o A.0) a

module _ (bytes : List ℕ) where
  enough : (n : ℕ) (s : State) → length bytes < s.at + n → gather_for n bytes s ≡ gather_for (suc n) bytes s
  unfolding gather_for onward task_at task_for
  enough zero s h = rw (← none_left bytes s.at (omega arith))
  enough (suc n) s h = later s (task_ahead bytes s) (gather_for n bytes) (gather_for (suc n) bytes) (λ x l. enough n x (omega arith))

  pub unfolds : (s : State) → gather_from bytes s ≡ onward s (task_at bytes s) (gather_from bytes)
  unfolding gather_from gather_for
  unfolds s =
      let n = length bytes in
      later s (task_ahead bytes s) (gather_for n bytes) (gather_for (suc n) bytes) (λ x l. enough n x (omega arith))

  -- after a set-up with this answer the gathering ends, or goes on with the next task
  goes_on : (a : Result (Unit {0}) Refusal) (s : State) → onward s (task_after a (task_at bytes s)) (gather_from bytes) ≡ after_set_up a s (gather_from bytes)
  unfolding onward task_after after_set_up
  goes_on (Ok tt) s = sym (unfolds s)
  goes_on (Err why) s = refl

-- ---- what the loop keeps, where a is what the set-up answered that was just made
pub record Gathers (bytes : List ℕ) (s₀ : State) (a : Result (Unit {0}) Refusal) (s : State) : Type 0 where
  pub same : after_set_up a s (gather_from bytes) ≡ gather_from bytes s₀
  pub within : s.at ≤ length bytes
  pub few : s.records ≤ s.at
  pub arrivals_long : length s.arrivals ≡ length s₀.arrivals
  pub ids_long : length s.ids ≡ length s₀.ids
  pub octets_long : length s.octets ≡ length s₀.octets

pub starts : (bytes : List ℕ) (s : State) → s.at ≡ 0 → s.records ≡ 0 → Gathers bytes s (Ok tt) s
unfolding after_set_up
starts bytes s e f = record { same = refl; within = omega arith; few = omega arith; arrivals_long = refl; ids_long = refl; octets_long = refl }

-- ---- a frame is a task only where there is room for it, and no set-up was refused

room_of : (room : Bool) (x : Record) (here i o : ℕ) (A : Ticks) (next : ℕ) → task_of room x here ≡ Frame i o A next → room ≡ true
unfolding task_of
room_of true x here i o A next e = refl
room_of false (rec.Group a b d) here i o A next e = let z : ◌≡◌ {A = ℕ} 0 1 = cc in absurd (omega arith)
room_of false (rec.GroupDefault a b) here i o A next e = let z : ◌≡◌ {A = ℕ} 0 1 = cc in absurd (omega arith)
room_of false (rec.Stream a b d f) here i o A next e = let z : ◌≡◌ {A = ℕ} 0 1 = cc in absurd (omega arith)
room_of false (rec.Frame a b d) here i o A next e = let z : ◌≡◌ {A = ℕ} 0 1 = cc in absurd (omega arith)

room_for : (room : Bool) (x : Reading) (i o : ℕ) (A : Ticks) (next : ℕ) → task_for room x ≡ Frame i o A next → room ≡ true
unfolding task_for
room_for room (reading.Found r here) i o A next e = room_of room r here i o A next e
room_for room reading.NothingLeft i o A next e = let z : ◌≡◌ {A = ℕ} 0 1 = cc in absurd (omega arith)
room_for room (reading.Refused why) i o A next e = let z : ◌≡◌ {A = ℕ} 0 1 = cc in absurd (omega arith)

none_refused : (a : Result (Unit {0}) Refusal) (t : Task) (i o : ℕ) (A : Ticks) (next : ℕ) → task_after a t ≡ Frame i o A next → (a ≡ (Ok tt)) × (t ≡ Frame i o A next)
unfolding task_after
none_refused (Ok tt) t i o A next e = (refl, e)
none_refused (Err why) t i o A next e = let z : ◌≡◌ {A = ℕ} 0 1 = cc in absurd (omega arith)

-- a place that each list has
pub record Room (s : State) : Type 0 where
  pub arrivals : s.count < length s.arrivals
  pub ids : s.count < length s.ids
  pub octets : s.count < length s.octets

has_room_law : (s : State) → room_in s ≡ true → Room s
unfolding room_in has_room
has_room_law s e =
    let a = length s.arrivals in
    let b = length s.ids in
    let c = length s.octets in
    let x = both (ltb s.count a) (ltb s.count b && ltb s.count c) e in
    let y = both (ltb s.count b) (ltb s.count c) x.1 in
    record { arrivals = ltb-true s.count a x.0; ids = ltb-true s.count b y.0; octets = ltb-true s.count c y.1 }

-- ---- a turn of the loop

-- its task is the one of the definition
pub record Turn (bytes : List ℕ) (s₀ : State) (a : Result (Unit {0}) Refusal) (s : State) (t : Task) : Type 0 where
  pub gathers : Gathers bytes s₀ a s
  pub task : t ≡ task_after a (task_at bytes s)

-- as the code finds it
pub turn : (bytes : List ℕ) (s₀ : State) (a : Result (Unit {0}) Refusal) (s : State) → Gathers bytes s₀ a s
    → (room : Bool) → room ≡ has_room s.count (length s.arrivals) (length s.ids) (length s.octets) → (x : Reading) → x ≡ read_at bytes s.at
    → (t : Task) → t ≡ task_after a (task_for room x) → Turn bytes s₀ a s t
unfolding task_at room_in
turn bytes s₀ a s G room e x h t f = record {
  gathers = G;
  task = f ∙ ap (λ (y : Reading). task_after a (task_for room y)) h ∙ ap (λ (b : Bool). task_after a (task_for b (read_at bytes s.at))) e;
}

module _ {bytes : List ℕ} {s₀ : State} {a : Result (Unit {0}) Refusal} {s : State} {t : Task} (T : Turn bytes s₀ a s t) where
  done : onward s t (gather_from bytes) ≡ gather_from bytes s₀
  done = ap (λ (x : Task). onward s x (gather_from bytes)) T.task ∙ goes_on bytes a s ∙ T.gathers.same

  ahead : Ahead s.at (length bytes) t
  ahead = subst (Ahead s.at (length bytes)) (sym T.task) (after_ahead a (task_ahead bytes s))

  pub turn_ends : (why : End) → t ≡ Ends why → ended why s ≡ gather_from bytes s₀
  unfolding onward
  turn_ends why g = sym (ap (λ (x : Task). onward s x (gather_from bytes)) g) ∙ done

  -- a set-up
  module _ (w : Wanted) (next : ℕ) (g : t ≡ Sets w next) where
    pub sets_within : (s.at < next) × (next ≤ length bytes)
    sets_within = sets_ahead (subst (Ahead s.at (length bytes)) g ahead)

    pub turn_sets : (c : BridgeSetUp) → c ≡ called s.bridge w → Gathers bytes s₀ c.answer (set_up_taken s next c.bridge)
    unfolding onward setting_up set_up_taken
    turn_sets c k = record {
      same =
          ap (λ (y : BridgeSetUp). setting_up s next y (gather_from bytes)) k
          ∙ sym (ap (λ (y : Task). onward s y (gather_from bytes)) g)
          ∙ done;
      within = sets_within.1;
      few = omega (arith, T.gathers.few, sets_within.0);
      arrivals_long = T.gathers.arrivals_long;
      ids_long = T.gathers.ids_long;
      octets_long = T.gathers.octets_long;
    }

  -- a frame
  module _ (i o : ℕ) (A : Ticks) (next : ℕ) (g : t ≡ Frame i o A next) where
    pub frame_within : (s.at < next) × (next ≤ length bytes)
    frame_within = frame_ahead (subst (Ahead s.at (length bytes)) g ahead)

    alone : (a ≡ (Ok tt)) × (task_at bytes s ≡ Frame i o A next)
    alone = none_refused a (task_at bytes s) i o A next (sym T.task ∙ g)

    pub frame_room : Room s
    unfolding task_at
    frame_room = has_room_law s (room_for (room_in s) (read_at bytes s.at) i o A next alone.1)

    pub turn_takes : Gathers bytes s₀ a (frame_taken s next i o A.0)
    unfolding onward frame_taken after_set_up
    turn_takes = record {
      same =
          ap (λ (x : Result (Unit {0}) Refusal). after_set_up x (frame_taken s next i o A.0) (gather_from bytes)) alone.0
          ∙ sym (ap (λ (x : Task). onward s x (gather_from bytes)) g)
          ∙ done;
      within = frame_within.1;
      few = omega (arith, T.gathers.few, frame_within.0);
      arrivals_long = simp length-set T.gathers.arrivals_long;
      ids_long = simp length-set T.gathers.ids_long;
      octets_long = simp length-set T.gathers.octets_long;
    }
