-- One group's judged frames in ℕ, as a relation: what is true of each frame and its time in the state that those before it left. Every theorem about many
-- frames speaks of such traces; whatever judges frames only has to show that its outcomes are one. A stream's `full` is its X. Assumes nothing.
use mathlib.Core.Path.{◌≡◌, refl}
use mathlib.Core.Bool.{cond}
use mathlib.Core.List.{List, [], ◌∷◌}
use Prim.Native.Nat.{ℕ, ◌+◌, ◌*◌, ◌≤◌, ◌<◌, max}
use lib.Dec.{eqb}
use borrow.Author.Tests.{eq-eqb, ne_eqb}
use Rattle.quantity.specs.Kinds.{ticks_per_second}
use Rattle.bridge.specs.History.{Frame, Outcome, released, discarded}

abbrev pub K : ℕ
K = ticks_per_second

-- what a stream is held to
pub record Rule : Type 0 where
  pub rate : ℕ
  pub burst : ℕ

-- a rule for each stream, and the group's residence limit
pub record Settings : Type 0 where
  pub rule : ℕ → Rule
  pub stay : ℕ

pub record State : Type 0 where
  pub time : ℕ
  pub last : ℕ
  pub full : ℕ → ℕ

abbrev pub fresh : State
fresh = record { time = 0; last = 0; full = λ i. 0 }

unfoldable pub upd : (ℕ → ℕ) → ℕ → ℕ → ℕ → ℕ
upd f i v j = cond (eqb i j) v (f j)

pub upd_same : (f : ℕ → ℕ) (i v : ℕ) → upd f i v i ≡ v
unfolding upd
upd_same f i v = rw (eq-eqb i i refl)

pub upd_other : (f : ℕ → ℕ) (i v j : ℕ) → (i ≡ j → ⊥) → upd f i v j ≡ f j
unfolding upd
upd_other f i v j h = rw (ne_eqb i j h)

-- a stream's full time after l bits at t
abbrev pub fill : Rule → (x l t : ℕ) → ℕ
fill q x l t = max x (t * q.rate) + l * K

abbrev pub filled : Settings → (ℕ → ℕ) → Frame → ℕ → ℕ
filled c x f = upd x f.stream (fill (c.rule f.stream) (x f.stream) f.bits f.time)

abbrev pub next : Settings → State → Outcome → State
next c s (released f) = record { time = f.time; last = f.arrival; full = filled c s.full f }
next c s (discarded f) = record { time = s.time; last = f.arrival; full = s.full }

-- l bits fit at the tick t
abbrev pub Fit : Rule → (x l t : ℕ) → Type 0
Fit q x l t = x + l * K ≤ t * q.rate + q.burst * K

abbrev pub Room : Settings → State → Frame → ℕ → Type 0
Room c s f t = Fit (c.rule f.stream) (s.full f.stream) f.bits t

-- what is true of a judged frame and its time
pub record Judged (c : Settings) (s : State) (f : Frame) : Type 0 where
  pub small : f.bits ≤ (c.rule f.stream).burst
  pub order : s.last ≤ f.arrival
  pub arrived : f.arrival ≤ f.time
  pub fifo : s.time ≤ f.time
  pub room : Room c s f f.time
  pub least : (t : ℕ) → f.arrival ≤ t → s.time ≤ t → Room c s f t → f.time ≤ t

abbrev pub Ok : Settings → State → Outcome → Type 0
Ok c s (released f) = Judged c s f × (f.time ≤ f.arrival + c.stay)
Ok c s (discarded f) = Judged c s f × (f.arrival + c.stay < f.time)

abbrev pub Trace : Settings → State → List Outcome → Type 0
Trace c s [] = Unit {0}
Trace c s (o ∷ os) = Ok c s o × Trace c (next c s o) os
