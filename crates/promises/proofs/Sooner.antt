-- Nothing sooner: any other list of times for a trace's frames that never falls, is not before the arrivals and keeps every stream within its burst and rate,
-- has no time before the trace's. So frames that arrive within burst and rate are eligible as they arrive. Assumes nothing.
use mathlib.Core.Path.{◌≡◌, refl, ap}
use mathlib.Core.List.{List, [], ◌∷◌}
use Prim.Native.Nat.{ℕ, ◌+◌, ◌-◌, ◌*◌, ◌≤◌, zero-le}
use native.Mathlib.Nat.{mul-le-mul_right, mul-sub, le_refl, le_trans}
use native.Mathlib.Decide.{ℕ_discrete}
use native.Mathlib.Omega.{arith}
use Rattle.bridge.specs.History.{Frame, Outcome, released, discarded, frame_of}
use Rattle.bridge.specs.Spans.{Sent, arriving, bits_in, WithinBurstAndRate}
use Rattle.promises.proofs.Trace.{K, Settings, State, fresh, upd, upd_same, upd_other, fill, filled, next, Judged, Trace}
use Rattle.promises.proofs.Sums.{bits_hit, bits_tail, bits_later}

-- a frame's bits at another tick, and other ticks for the same frames
abbrev pub sent_at : Frame → ℕ → Sent
sent_at f t = record { stream = f.stream; bits = f.bits; tick = t }

abbrev pub plan : List Outcome → List ℕ → List Sent
plan [] us = []
plan (o ∷ os) [] = []
plan (o ∷ os) (u ∷ us) = sent_at (frame_of o) u ∷ plan os us

-- a relation of each frame to its tick in the plan
abbrev pub Each : (Frame → ℕ → Type 0) → List Outcome → List ℕ → Type 0
Each R [] [] = Unit {0}
Each R [] (u ∷ us) = ⊥
Each R (o ∷ os) [] = ⊥
Each R (o ∷ os) (u ∷ us) = R (frame_of o) u × Each R os us

-- never falling, from lo on
abbrev pub Rising : ℕ → List ℕ → Type 0
Rising lo [] = Unit {0}
Rising lo (u ∷ us) = (lo ≤ u) × Rising u us

-- every stream within its burst and rate
abbrev pub Within : Settings → List Sent → Type 0
Within c es = (j : ℕ) → WithinBurstAndRate (c.rule j).burst (c.rule j).rate j es

-- the same, with a span's end in place of its length
Spans : Settings → List Sent → Type 0
Spans c es = (j lo hi : ℕ) → lo ≤ hi → lo * (c.rule j).rate + bits_in j lo hi es * K ≤ hi * (c.rule j).rate + (c.rule j).burst * K

-- the plan's own full times, y, leave room for the rest of the plan
Fits : Settings → (ℕ → ℕ) → ℕ → List Sent → Type 0
Fits c y lo es = (j hi : ℕ) → lo ≤ hi → y j + bits_in j lo hi es * K ≤ hi * (c.rule j).rate + (c.rule j).burst * K

spans : (c : Settings) (es : List Sent) → Within c es → Spans c es
unfolding Spans WithinBurstAndRate
spans c es w j lo hi h =
    let e : lo + (hi - lo) ≡ hi = omega arith in
    omega (arith, rw e at (w j lo (hi - lo)), mul-sub (c.rule j).rate hi lo, mul-le-mul_right (c.rule j).rate h)

spans_tail : (c : Settings) (e : Sent) (es : List Sent) → Spans c (e ∷ es) → Spans c es
unfolding Spans
spans_tail c e es w j lo hi h = omega (arith, w j lo hi h, bits_tail j lo hi e es)

-- the plan's full times after its frame f at u
planned : Settings → (ℕ → ℕ) → Frame → ℕ → ℕ → ℕ
planned c y f u = upd y f.stream (fill (c.rule f.stream) (y f.stream) f.bits u)

fits_next : (c : Settings) (y : ℕ → ℕ) (f : Frame) (lo u : ℕ) (es : List Sent) → lo ≤ u → Spans c (sent_at f u ∷ es) → Fits c y lo (sent_at f u ∷ es) → Fits c (planned c y f u) u es
unfolding Fits Spans planned
fits_next c y f lo u es h sp fi j hi k = go (ℕ_discrete f.stream j)
  where
    go : Dec (f.stream ≡ j) → planned c y f u j + bits_in j u hi es * K ≤ hi * (c.rule j).rate + (c.rule j).burst * K
    go (yes p) =
        rw (← p, upd_same)
        (omega (arith, sp f.stream u hi k, fi f.stream hi (omega arith), bits_hit f.stream u hi (sent_at f u) es refl (omega arith) k, bits_hit f.stream lo hi (sent_at f u) es refl h k, bits_later f.stream lo u hi es h))
    go (no p) = rw (upd_other _ _ _ _ p) (omega (arith, fi j hi (omega arith), bits_tail j lo hi (sent_at f u) es, bits_later j lo u hi es h))

not_after : (c : Settings) (s : State) (f : Frame) (y : ℕ → ℕ) (lo u : ℕ) (es : List Sent) → Judged c s f → s.full f.stream ≤ y f.stream → s.time ≤ lo → lo ≤ u → f.arrival ≤ u → Fits c y lo (sent_at f u ∷ es) → f.time ≤ u
unfolding Fits
not_after c s f y lo u es ok below g h arr fi =
    ok.least u arr (omega arith) (omega (arith, fi f.stream u h, bits_hit f.stream lo u (sent_at f u) es refl h (omega arith)))

module _ (c : Settings) (s : State) (f : Frame) (y : ℕ → ℕ) (u : ℕ) (below : (j : ℕ) → s.full j ≤ y j) where
  below_kept : f.time ≤ u → (j : ℕ) → filled c s.full f j ≤ planned c y f u j
  unfolding planned
  below_kept h j = go (ℕ_discrete f.stream j)
    where
      go : Dec (f.stream ≡ j) → filled c s.full f j ≤ planned c y f u j
      go (yes p) = rw (← p, upd_same, upd_same) (omega (arith, below f.stream, mul-le-mul_right (c.rule f.stream).rate h))
      go (no p) = rw (upd_other _ _ _ _ p, upd_other _ _ _ _ p) (below j)

  below_lost : (j : ℕ) → s.full j ≤ planned c y f u j
  unfolding planned
  below_lost j = go (ℕ_discrete f.stream j)
    where
      go : Dec (f.stream ≡ j) → s.full j ≤ planned c y f u j
      go (yes p) = rw (← p, upd_same) (omega (arith, below f.stream))
      go (no p) = rw (upd_other _ _ _ _ p) (below j)

-- the plan's full times are not below ours, and its last tick is not below our group time: then our times are not after the plan's
ahead : (c : Settings) (s : State) (y : ℕ → ℕ) (lo : ℕ) (os : List Outcome) (us : List ℕ) → ((j : ℕ) → s.full j ≤ y j) → s.time ≤ lo → Trace c s os → Spans c (plan os us) → Fits c y lo (plan os us) → Rising lo us → Each (λ f u. f.arrival ≤ u) os us → Each (λ f u. f.time ≤ u) os us
ahead c s y lo [] [] below g tr sp fi ri arr = tt
ahead c s y lo [] (u ∷ us) below g tr sp fi ri arr = arr
ahead c s y lo (o ∷ os) [] below g tr sp fi ri arr = arr
ahead c s y lo (released f ∷ os) (u ∷ us) below g tr sp fi ri arr =
    let h : f.time ≤ u = not_after c s f y lo u (plan os us) tr.0.0 (below f.stream) g ri.0 arr.0 fi in (
      h,
      ahead c (next c s (released f)) (planned c y f u) u os us (below_kept c s f y u below h) h tr.1 (spans_tail c (sent_at f u) (plan os us) sp)
          (fits_next c y f lo u (plan os us) ri.0 sp fi) ri.1 arr.1,
    )
ahead c s y lo (discarded f ∷ os) (u ∷ us) below g tr sp fi ri arr =
    let h : f.time ≤ u = not_after c s f y lo u (plan os us) tr.0.0 (below f.stream) g ri.0 arr.0 fi in (
      h,
      ahead c (next c s (discarded f)) (planned c y f u) u os us (below_lost c s f y u below) (le_trans g ri.0) tr.1 (spans_tail c (sent_at f u) (plan os us) sp)
          (fits_next c y f lo u (plan os us) ri.0 sp fi) ri.1 arr.1,
    )

pub nothing_sooner : (c : Settings) (os : List Outcome) (us : List ℕ) → Trace c fresh os → Within c (plan os us) → Rising 0 us → Each (λ f u. f.arrival ≤ u) os us → Each (λ f u. f.time ≤ u) os us
unfolding Fits Spans
nothing_sooner c os us tr wi = ahead c fresh (λ j. 0) 0 os us (λ j. zero-le) zero-le tr sp (λ j hi h. omega (arith, sp j 0 hi h))
  where
    sp : Spans c (plan os us)
    sp = spans c (plan os us) wi

-- ---- the plan is the arrivals themselves
abbrev arrivals : List Outcome → List ℕ
arrivals [] = []
arrivals (o ∷ os) = (frame_of o).arrival ∷ arrivals os

abbrev pub Prompt : Outcome → Type 0
Prompt (released f) = f.time ≡ f.arrival
Prompt (discarded f) = ⊥

abbrev pub All : (Outcome → Type 0) → List Outcome → Type 0
All P [] = Unit {0}
All P (o ∷ os) = P o × All P os

plan_arrivals : (os : List Outcome) → plan os (arrivals os) ≡ arriving os
unfolding arriving
plan_arrivals [] = refl
plan_arrivals (o ∷ os) = ap (λ es. sent_at (frame_of o) (frame_of o).arrival ∷ es) (plan_arrivals os)

arrived : (os : List Outcome) → Each (λ f u. f.arrival ≤ u) os (arrivals os)
arrived [] = tt
arrived (o ∷ os) = (le_refl _, arrived os)

rising : (c : Settings) (s : State) (os : List Outcome) → Trace c s os → Rising s.last (arrivals os)
rising c s [] tr = tt
rising c s (released f ∷ os) tr = (tr.0.0.order, rising c (next c s (released f)) os tr.1)
rising c s (discarded f ∷ os) tr = (tr.0.0.order, rising c (next c s (discarded f)) os tr.1)

prompt : (c : Settings) (s : State) (os : List Outcome) → Trace c s os → Each (λ f u. f.time ≤ u) os (arrivals os) → All Prompt os
prompt c s [] tr h = tt
prompt c s (released f ∷ os) tr h = (omega (arith, tr.0.0.arrived, h.0), prompt c (next c s (released f)) os tr.1 h.1)
prompt c s (discarded f ∷ os) tr h = (omega (arith, tr.0.1, h.0), prompt c (next c s (discarded f)) os tr.1 h.1)

pub trace_conforming : (c : Settings) (os : List Outcome) → Trace c fresh os → Within c (arriving os) → All Prompt os
trace_conforming c os tr wi = prompt c fresh os tr (nothing_sooner c os (arrivals os) tr (rw plan_arrivals wi) (rising c fresh os tr) (arrived os))
