-- Laws of where a gathering ends, and why it does. Assumes nothing.
use mathlib.Core.Path.{◌≡◌, refl, sym, ◌∙◌, subst}
use mathlib.Core.Bool.{Bool, true, false}
use mathlib.Core.List.{List}
use Prim.Native.Nat.{ℕ, zero, suc, ◌+◌, ◌≤◌, ◌<◌}
use native.Mathlib.Omega.{arith}
use lib.ListN.{length, length-set}
use Rattle.quantity.specs.Kinds.{ticks}
use Rattle.quantity.specs.declared.Refusal.{Refusal}
use Rattle.quantity.specs.declared.Ticks.{Ticks}
use Rattle.tablefile.specs.Meaning.{default_residence}
use Rattle.tablefile.specs.declared.Record.TheVariants as rec
use Rattle.tablefile.specs.declared.Reading.{Reading}
use Rattle.tablefile.specs.declared.Reading.TheVariants as reading
use Rattle.reader.specs.Reader.{read_at}
use Rattle.bridge.specs.declared.Bridge.{Bridge}
use Rattle.replay_gathering.specs.declared.End.{End}
use Rattle.replay_gathering.specs.declared.End.TheVariants.{NothingLeft, Unreadable, NotSetUp, ListsFull}
use Rattle.replay_gathering.specs.declared.Task.TheVariants.{Sets, Frame}
use Rattle.replay_gathering.specs.declared.Wanted.{Wanted}
use Rattle.replay_gathering.specs.declared.Wanted.TheVariants as wanted
use Rattle.replay_gathering.specs.Gathering.{State, Outcome, ended, task_of, task_for, room_in, task_at, called, set_up_taken, after_set_up, setting_up, frame_taken, onward, gather_from}
use Rattle.replay_gathering.proofs.Turns.{Ahead, sets, frame, task_ahead, unfolds}
use Rattle.replay_gathering.proofs.Parts.{resumed}
use Rattle.replay_turn.proofs.Places.{roomy}
use Rattle.std.proofs.Common.{Result, Ok, Err}

-- a record that is a task leads on to a later place, and not beyond the bytes
sets_on : {p n : ℕ} {w : Wanted} {next : ℕ} → Ahead p n (Sets w next) → (p < next) × (next ≤ n)
sets_on (sets w next a b) = (a, b)

frame_on : {p n i o : ℕ} {A : Ticks} {next : ℕ} → Ahead p n (Frame i o A next) → (p < next) × (next ≤ n)
frame_on (frame i o A next a b) = (a, b)

module _ (bytes : List ℕ) where
  -- why a gathering from a place on ended in the state r: what the reader gives there, or a set-up before it
  pub data Halted (from : ℕ) (r : State) : End → Type 0 where
    nothing_left : read_at bytes r.at ≡ reading.NothingLeft → Halted from r NothingLeft
    unreadable : (why : Refusal) → read_at bytes r.at ≡ reading.Refused why → Halted from r (Unreadable why)
    not_set_up : (why : Refusal) → from < r.at → Halted from r (NotSetUp why)
    lists_full : (i o : ℕ) (A : Ticks) (next : ℕ) → read_at bytes r.at ≡ reading.Found (rec.Frame i o A) next → room_in r ≡ false → Halted from r ListsFull

  -- each end says one thing
  pub says_nothing_left : {from : ℕ} {r : State} → Halted from r NothingLeft → read_at bytes r.at ≡ reading.NothingLeft
  says_nothing_left (nothing_left e) = e

  pub says_unreadable : {from : ℕ} {r : State} {why : Refusal} → Halted from r (Unreadable why) → read_at bytes r.at ≡ reading.Refused why
  says_unreadable (unreadable why e) = e

  pub says_later : {from : ℕ} {r : State} {why : Refusal} → Halted from r (NotSetUp why) → from < r.at
  says_later (not_set_up why k) = k

  sooner : {from : ℕ} {r : State} {why : End} (p : ℕ) → p < from → Halted from r why → Halted p r why
  sooner p h (nothing_left e) = nothing_left e
  sooner p h (unreadable why e) = unreadable why e
  sooner p h (not_set_up why k) = not_set_up why (omega arith)
  sooner p h (lists_full i o A next e f) = lists_full i o A next e f

  -- what a gathering from the state s gives: it ends within the bytes, each of its records has one at least, and the lists are as long
  pub record Halts (s : State) (g : Outcome) : Type 0 where
    pub on : s.at ≤ g.gathered.at
    pub inside : g.gathered.at ≤ length bytes
    pub few : g.gathered.records + s.at ≤ g.gathered.at + s.records
    pub arrivals_long : length g.arrivals ≡ length s.arrivals
    pub ids_long : length g.ids ≡ length s.ids
    pub octets_long : length g.octets ≡ length s.octets
    pub arrivals_taken : s.count ≤ length s.arrivals → g.gathered.count ≤ length s.arrivals
    pub ids_taken : s.count ≤ length s.ids → g.gathered.count ≤ length s.ids
    pub octets_taken : s.count ≤ length s.octets → g.gathered.count ≤ length s.octets
    pub halted : Halted s.at (resumed g) g.gathered.why

  -- one record on
  record Beyond (s t : State) : Type 0 where
    later : s.at < t.at
    one : t.records ≡ s.records + 1
    arrivals_same : length t.arrivals ≡ length s.arrivals
    ids_same : length t.ids ≡ length s.ids
    octets_same : length t.octets ≡ length s.octets
    arrivals_still : s.count ≤ length s.arrivals → t.count ≤ length s.arrivals
    ids_still : s.count ≤ length s.ids → t.count ≤ length s.ids
    octets_still : s.count ≤ length s.octets → t.count ≤ length s.octets

  beyond : {s t : State} {g : Outcome} → Beyond s t → Halts t g → Halts s g
  beyond {s} {t} {g} b h = record {
    on = omega (arith, b.later, h.on);
    inside = h.inside;
    few = omega (arith, b.later, b.one, h.few);
    arrivals_long = h.arrivals_long ∙ b.arrivals_same;
    ids_long = h.ids_long ∙ b.ids_same;
    octets_long = h.octets_long ∙ b.octets_same;
    arrivals_taken = λ c. rw b.arrivals_same at (h.arrivals_taken (rw b.arrivals_same (b.arrivals_still c)));
    ids_taken = λ c. rw b.ids_same at (h.ids_taken (rw b.ids_same (b.ids_still c)));
    octets_taken = λ c. rw b.octets_same at (h.octets_taken (rw b.octets_same (b.octets_still c)));
    halted = sooner s.at b.later h.halted;
  }

  -- ended where it stands
  at_once : (s : State) (why : End) → s.at ≤ length bytes → Halted s.at s why → Halts s (ended why s)
  unfolding ended resumed
  at_once s why i h = record {
    on = omega arith;
    inside = i;
    few = omega arith;
    arrivals_long = refl;
    ids_long = refl;
    octets_long = refl;
    arrivals_taken = λ c. c;
    ids_taken = λ c. c;
    octets_taken = λ c. c;
    halted = h;
  }

  -- a set-up that was refused ends it after its record
  refused_after : (s t : State) (why : Refusal) → Beyond s t → t.at ≤ length bytes → Halts s (ended (NotSetUp why) t)
  unfolding ended resumed
  refused_after s t why b i = record {
    on = omega (arith, b.later);
    inside = i;
    few = omega (arith, b.later, b.one);
    arrivals_long = b.arrivals_same;
    ids_long = b.ids_same;
    octets_long = b.octets_same;
    arrivals_taken = b.arrivals_still;
    ids_taken = b.ids_still;
    octets_taken = b.octets_still;
    halted = not_set_up why b.later;
  }

  set_beyond : (s : State) (next : ℕ) (b : Bridge) → s.at < next → Beyond s (set_up_taken s next b)
  unfolding set_up_taken
  set_beyond s next b h = record {
    later = h;
    one = refl;
    arrivals_same = refl;
    ids_same = refl;
    octets_same = refl;
    arrivals_still = λ c. c;
    ids_still = λ c. c;
    octets_still = λ c. c;
  }

  frame_beyond : (s : State) (next i o A : ℕ) → room_in s ≡ true → s.at < next → Beyond s (frame_taken s next i o A)
  unfolding frame_taken
  frame_beyond s next i o A r h =
      let room = roomy s r in
      record {
        later = h;
        one = refl;
        arrivals_same = simp length-set;
        ids_same = simp length-set;
        octets_same = simp length-set;
        arrivals_still = λ c. omega (arith, room.arrivals);
        ids_still = λ c. omega (arith, room.ids);
        octets_still = λ c. omega (arith, room.octets);
      }

  after_halts : (s t : State) (a : Result (Unit {0}) Refusal) → Beyond s t → t.at ≤ length bytes → Halts t (gather_from bytes t) → Halts s (after_set_up a t (gather_from bytes))
  unfolding after_set_up
  after_halts s t (Ok tt) b i h = beyond b h
  after_halts s t (Err why) b i h = refused_after s t why b i

  module _ (s : State) (ih : (t : State) → s.at < t.at → t.at ≤ length bytes → Halts t (gather_from bytes t)) where
    set_halts : (w : Wanted) (next : ℕ) → (s.at < next) × (next ≤ length bytes) → Halts s (onward s (Sets w next) (gather_from bytes))
    unfolding onward setting_up set_up_taken
    set_halts w next h =
        let x = called s.bridge w in
        let t = set_up_taken s next x.bridge in
        after_halts s t x.answer (set_beyond s next x.bridge h.0) h.1 (ih t h.0 h.1)

    frame_halts : (i o : ℕ) (A : Ticks) (next : ℕ) → read_at bytes s.at ≡ reading.Found (rec.Frame i o A) next → s.at ≤ length bytes
        → (t : Bool) → room_in s ≡ t → Ahead s.at (length bytes) (task_of t (rec.Frame i o A) next)
        → Halts s (onward s (task_of t (rec.Frame i o A) next) (gather_from bytes))
    unfolding onward task_of frame_taken
    frame_halts i o A next e w true r a =
        let h = frame_on a in
        let t = frame_taken s next i o A.0 in
        beyond (frame_beyond s next i o A.0 r h.0) (ih t h.0 h.1)
    frame_halts i o A next e w false r a = at_once s ListsFull w (lists_full i o A next e r)

    by_reading : (x : Reading) → read_at bytes s.at ≡ x → s.at ≤ length bytes → Ahead s.at (length bytes) (task_for (room_in s) x)
        → Halts s (onward s (task_for (room_in s) x) (gather_from bytes))
    unfolding task_for task_of onward
    by_reading (reading.Found (rec.Group i c M) next) e w a = set_halts (wanted.Group i c M) next (sets_on a)
    by_reading (reading.Found (rec.GroupDefault i c) next) e w a = set_halts (wanted.Group i c (ticks default_residence)) next (sets_on a)
    by_reading (reading.Found (rec.Stream i k r u) next) e w a = set_halts (wanted.Stream i k r u) next (sets_on a)
    by_reading (reading.Found (rec.Frame i o A) next) e w a = frame_halts i o A next e w (room_in s) refl a
    by_reading reading.NothingLeft e w a = at_once s NothingLeft w (nothing_left e)
    by_reading (reading.Refused why) e w a = at_once s (Unreadable why) w (unreadable why e)

  halts_for : (fuel : ℕ) (s : State) → length bytes < s.at + fuel → s.at ≤ length bytes → Halts s (gather_from bytes s)
  unfolding task_at
  halts_for zero s h w = absurd (omega arith)
  halts_for (suc fuel) s h w =
      subst (Halts s) (sym (unfolds bytes s))
      (by_reading s (λ t l i. halts_for fuel t (omega arith) i) (read_at bytes s.at) refl w (task_ahead bytes s))

  pub halts : (s : State) → s.at ≤ length bytes → Halts s (gather_from bytes s)
  halts s w = halts_for (suc (length bytes)) s (omega arith) w
