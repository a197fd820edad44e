-- The span limit of a trace: what the frames still to come may spend in a span, times 10⁹, is at most what the stream's full time leaves of it. Assumes nothing.
use mathlib.Core.Path.{◌≡◌, sym, subst}
use mathlib.Core.List.{List, [], ◌∷◌}
use Prim.Native.Nat.{ℕ, ◌+◌, ◌-◌, ◌*◌, ◌≤◌, max}
use native.Mathlib.Nat.{mul-le-mul_right}
use native.Mathlib.Decide.{ℕ_discrete}
use native.Mathlib.Omega.{arith}
use Rattle.bridge.specs.History.{Frame, Outcome, released, discarded}
use Rattle.bridge.specs.Spans.{Sent, eligible, bits_in, WithinBurstAndRate}
use Rattle.promises.proofs.Trace.{K, Settings, State, fresh, upd_same, upd_other, fill, next, Judged, Trace}
use Rattle.promises.proofs.Sums.{Seen, counted, passed, seen}

abbrev at : Frame → Sent
at f = record { stream = f.stream; bits = f.bits; tick = f.time }

abbrev left : Settings → ℕ → ℕ → ℕ → ℕ → ℕ
left c j x lo hi = (hi * (c.rule j).rate + (c.rule j).burst * K) - max x (lo * (c.rule j).rate)

own : (c : Settings) (s : State) (f : Frame) (lo hi n m : ℕ) → Judged c s f → lo ≤ hi → m * K ≤ left c f.stream (fill (c.rule f.stream) (s.full f.stream) f.bits f.time) lo hi → Seen f.stream lo hi (at f) n m → n * K ≤ left c f.stream (s.full f.stream) lo hi
own c s f lo hi n m ok h ih (counted p q r e) =
    let rate = (c.rule f.stream).rate in
    omega (arith, ok.small, ok.room, mul-le-mul_right rate q, mul-le-mul_right rate r, mul-le-mul_right rate h)
own c s f lo hi n m ok h ih (passed e) = omega arith

other : (n m x : ℕ) {j lo hi : ℕ} {e : Sent} → (e.stream ≡ j → ⊥) → m * K ≤ x → Seen j lo hi e n m → n * K ≤ x
other n m x ne ih (counted p q r e) = absurd (ne p)
other n m x ne ih (passed e) = omega arith

span_from : (c : Settings) (s : State) (os : List Outcome) → Trace c s os → (j lo hi : ℕ) → lo ≤ hi → bits_in j lo hi (eligible os) * K ≤ left c j (s.full j) lo hi
unfolding bits_in eligible
span_from c s [] tr j lo hi h = omega arith
span_from c s (discarded f ∷ os) tr j lo hi h = span_from c (next c s (discarded f)) os tr.1 j lo hi h
span_from c s (released f ∷ os) tr j lo hi h = go (ℕ_discrete f.stream j) (span_from c (next c s (released f)) os tr.1 j lo hi h)
  where
    go : Dec (f.stream ≡ j) → bits_in j lo hi (eligible os) * K ≤ left c j ((next c s (released f)).full j) lo hi → bits_in j lo hi (eligible (released f ∷ os)) * K ≤ left c j (s.full j) lo hi
    go (yes p) ih =
        let now : ℕ → Type 0 = λ i. bits_in i lo hi (eligible (released f ∷ os)) * K ≤ left c i (s.full i) lo hi in
        let later : ℕ → Type 0 = λ i. bits_in i lo hi (eligible os) * K ≤ left c i ((next c s (released f)).full i) lo hi in
        let mine : later f.stream = subst later (sym p) ih in
        subst now p (own c s f lo hi _ _ tr.0.0 h (rw upd_same at mine) (seen f.stream lo hi (at f) (eligible os)))
    go (no p) ih = other _ _ _ p (rw (upd_other _ _ _ _ p) at ih) (seen j lo hi (at f) (eligible os))

-- from a fresh state, in every span, of every stream
pub trace_span_limit : (c : Settings) (os : List Outcome) → Trace c fresh os → (j : ℕ) → WithinBurstAndRate (c.rule j).burst (c.rule j).rate j (eligible os)
unfolding WithinBurstAndRate
trace_span_limit c os tr j lo d = omega (arith, span_from c fresh os tr j lo (lo + d) (omega arith))
