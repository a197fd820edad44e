-- Demand 3, proved: a group's judged frames are a trace, and what a stream sends in a history it sends in its group's trace. Assumes nothing.
use mathlib.Core.Path.{◌≡◌, refl, sym, ap, ◌∙◌}
use mathlib.Core.Bool.{Bool, true, false}
use mathlib.Core.List.{List, [], ◌∷◌, ◌++◌}
use Prim.Native.Nat.{ℕ, ◌+◌, ◌*◌, ◌≤◌}
use native.Mathlib.Decide.{ℕ_discrete}
use native.Mathlib.Omega.{arith}
use Rattle.quantity.specs.Kinds.{ticks_per_second}
use Rattle.records.specs.Numbers.{is_set_up}
use Rattle.bridge.specs.Tables.{fresh_bridge, stream_at}
use Rattle.bridge.specs.History.{Call, group, stream, frame, after_call, after, bridge_after, history, Outcome, released, discarded, frame_of, outcome, outcomes}
use Rattle.bridge.specs.Spans.{Sent, eligible, arriving, bits_in, WithinBurstAndRate, burst_at, rate_at}
use Rattle.bridge.specs.declared.Bridge.{Bridge}
use Rattle.promises.specs.Demand3.{SpanLimit, Conforms, EligibleOnArrival, EachOf, ConformingArrivals}
use Rattle.promises.proofs.Sums.{bits_other}
use Rattle.promises.proofs.Spans.{trace_span_limit}
use Rattle.promises.proofs.Sooner.{All, Prompt, Within, trace_conforming}
use Rattle.promises.proofs.Places.{Sized, sized_fresh}
use Rattle.promises.proofs.Calls.{Step, stays, group_made, stream_made, let_go, dropped, step}
use Rattle.promises.proofs.Steady.{Steady, sized_call, steady_after}
use Rattle.promises.proofs.Histories.{settings_of, mine, mine_in, mine_out, history_trace}

-- ---- a judged frame's stream is set up at the end, in the frame's group
pub record Homed (e : Bridge) (o : Outcome) : Type 0 where
  pub set_up : is_set_up (stream_at e (frame_of o).stream).regulator ≡ true
  pub group : (stream_at e (frame_of o).stream).group ≡ (frame_of o).group

homed_step : (b : Bridge) (x : Call) (e : Bridge) (os : List Outcome) → Steady b e → Step b x → All (Homed e) os → All (Homed e) (outcome b x ++ os)
homed_step b x e os d (stays q o) h = rw o h
homed_step b (group i c M) e os d (group_made v q o) h = rw o h
homed_step b (stream i k r u) e os d (stream_made v q o) h = rw o h
homed_step b (frame i n A) e os d (let_go T s p t l q o) h = rw o (record { set_up = (d.streams i p.set_up).set_up; group = (d.streams i p.set_up).group }, h)
homed_step b (frame i n A) e os d (dropped T s p t l q o) h = rw o (record { set_up = (d.streams i p.set_up).set_up; group = (d.streams i p.set_up).group }, h)

pub homed : (b : Bridge) (z : Sized b) (xs : List Call) → All (Homed (after b xs)) (outcomes b xs)
unfolding outcomes after
homed b z [] = tt
homed b z (x ∷ xs) = homed_step b x _ _ (steady_after b z (x ∷ xs)) (step b x) (homed (after_call b x) (sized_call b z x) xs)

-- ---- a stream's bits in a history are those in the trace of its group
one_more : (j lo hi : ℕ) (e : Sent) (es fs : List Sent) → bits_in j lo hi es ≡ bits_in j lo hi fs → bits_in j lo hi (e ∷ es) ≡ bits_in j lo hi (e ∷ fs)
unfolding bits_in
one_more j lo hi e es fs p = rw p

module _ (e : Bridge) (g j lo hi : ℕ) (same : (stream_at e j).group ≡ g) where
  -- a frame of another group is no frame of stream j
  not_j : (o : Outcome) → Homed e o → ((frame_of o).group ≡ g → ⊥) → (frame_of o).stream ≡ j → ⊥
  not_j o h d p = d (sym h.group ∙ ap (λ (m : ℕ). (stream_at e m).group) p ∙ same)

  eligible_same : (os : List Outcome) → All (Homed e) os → bits_in j lo hi (eligible os) ≡ bits_in j lo hi (eligible (mine g os))
  unfolding mine eligible
  eligible_same [] h = refl
  eligible_same (released f ∷ os) h = go (ℕ_discrete f.group g) (eligible_same os h.1)
    where
      at : Sent
      at = record { stream = f.stream; bits = f.bits; tick = f.time }

      go : Dec (f.group ≡ g) → bits_in j lo hi (eligible os) ≡ bits_in j lo hi (eligible (mine g os)) → bits_in j lo hi (eligible (released f ∷ os)) ≡ bits_in j lo hi (eligible (mine g (released f ∷ os)))
      go (yes p) ih = rw (mine_in g (released f) os p) (one_more j lo hi at (eligible os) (eligible (mine g os)) ih)
      go (no d) ih = rw (mine_out g (released f) os d) (bits_other j lo hi at (eligible os) (not_j (released f) h.0 d) ∙ ih)
  eligible_same (discarded f ∷ os) h = go (ℕ_discrete f.group g) (eligible_same os h.1)
    where
      go : Dec (f.group ≡ g) → bits_in j lo hi (eligible os) ≡ bits_in j lo hi (eligible (mine g os)) → bits_in j lo hi (eligible os) ≡ bits_in j lo hi (eligible (mine g (discarded f ∷ os)))
      go (yes p) ih = rw (mine_in g (discarded f) os p) ih
      go (no d) ih = rw (mine_out g (discarded f) os d) ih

  arriving_same : (os : List Outcome) → All (Homed e) os → bits_in j lo hi (arriving os) ≡ bits_in j lo hi (arriving (mine g os))
  unfolding mine arriving
  arriving_same [] h = refl
  arriving_same (o ∷ os) h = go (ℕ_discrete (frame_of o).group g) (arriving_same os h.1)
    where
      at : Sent
      at = record { stream = (frame_of o).stream; bits = (frame_of o).bits; tick = (frame_of o).arrival }

      go : Dec ((frame_of o).group ≡ g) → bits_in j lo hi (arriving os) ≡ bits_in j lo hi (arriving (mine g os)) → bits_in j lo hi (arriving (o ∷ os)) ≡ bits_in j lo hi (arriving (mine g (o ∷ os)))
      go (yes p) ih = rw (mine_in g o os p) (one_more j lo hi at (arriving os) (arriving (mine g os)) ih)
      go (no d) ih = rw (mine_out g o os d) (bits_other j lo hi at (arriving os) (not_j o h.0 d) ∙ ih)

-- a stream that is not of the group sends nothing in its trace
module _ (e : Bridge) (g j lo hi : ℕ) (none : is_set_up (stream_at e j).regulator ≡ true → (stream_at e j).group ≡ g → ⊥) where
  arriving_none : (os : List Outcome) → All (Homed e) os → bits_in j lo hi (arriving (mine g os)) ≡ 0
  unfolding mine arriving bits_in
  arriving_none [] h = refl
  arriving_none (o ∷ os) h = go (ℕ_discrete (frame_of o).group g) (arriving_none os h.1)
    where
      at : Sent
      at = record { stream = (frame_of o).stream; bits = (frame_of o).bits; tick = (frame_of o).arrival }

      no_j : (frame_of o).group ≡ g → (frame_of o).stream ≡ j → ⊥
      no_j p q = none (rw q at h.0.set_up) (rw q at h.0.group ∙ p)

      go : Dec ((frame_of o).group ≡ g) → bits_in j lo hi (arriving (mine g os)) ≡ 0 → bits_in j lo hi (arriving (mine g (o ∷ os))) ≡ 0
      go (yes p) ih = rw (mine_in g o os p) (bits_other j lo hi at (arriving (mine g os)) (no_j p) ∙ ih)
      go (no d) ih = rw (mine_out g o os d) ih

-- ---- first half
pub span_limit : SpanLimit
unfolding SpanLimit WithinBurstAndRate
span_limit xs i lo d =
    let e = bridge_after xs in
    let g = (stream_at e i).group in
    rw (eligible_same e g i lo (lo + d) refl (history xs) (homed fresh_bridge sized_fresh xs)) (trace_span_limit (settings_of e g) (mine g (history xs)) (history_trace g xs) i lo d)

-- ---- second half
within_trace : (xs : List Call) (g : ℕ) → Conforms xs g → Within (settings_of (bridge_after xs) g) (arriving (mine g (history xs)))
unfolding Conforms WithinBurstAndRate
within_trace xs g w j lo d = of_group (is_set_up (stream_at e j).regulator) refl
  where
    e : Bridge
    e = bridge_after xs

    Bound : Type 0
    Bound = bits_in j lo (lo + d) (arriving (mine g (history xs))) * ticks_per_second ≤ burst_at e j * ticks_per_second + rate_at e j * d

    nothing : (is_set_up (stream_at e j).regulator ≡ true → (stream_at e j).group ≡ g → ⊥) → Bound
    nothing h = rw (arriving_none e g j lo (lo + d) h (history xs) (homed fresh_bridge sized_fresh xs)) (omega arith)

    at_home : is_set_up (stream_at e j).regulator ≡ true → Dec ((stream_at e j).group ≡ g) → Bound
    at_home u (yes p) = rw (← arriving_same e g j lo (lo + d) p (history xs) (homed fresh_bridge sized_fresh xs)) (w j u p lo d)
    at_home u (no q) = nothing (λ v p. q p)

    of_group : (t : Bool) → is_set_up (stream_at e j).regulator ≡ t → Bound
    of_group true u = at_home u (ℕ_discrete (stream_at e j).group g)
    of_group false u = nothing (λ v p. let z : true ≡ false = sym v ∙ u in let n : ◌≡◌ {A = ℕ} 0 1 = cc in omega arith)

eligible_prompt : (o : Outcome) → Prompt o → EligibleOnArrival o
unfolding EligibleOnArrival
eligible_prompt (released f) h = h
eligible_prompt (discarded f) h = h

prompt_each : (g : ℕ) (os : List Outcome) → All Prompt (mine g os) → EachOf g EligibleOnArrival os
unfolding mine EachOf
prompt_each g [] h = tt
prompt_each g (o ∷ os) h = go (ℕ_discrete (frame_of o).group g) (prompt_each g os)
  where
    go : Dec ((frame_of o).group ≡ g) → (All Prompt (mine g os) → EachOf g EligibleOnArrival os) → EachOf g EligibleOnArrival (o ∷ os)
    go (yes p) ih = let k = rw (mine_in g o os p) at h in (λ x. eligible_prompt o k.0, ih k.1)
    go (no d) ih = (λ x. absurd (d x), ih (rw (mine_out g o os d) at h))

pub conforming_arrivals : ConformingArrivals
unfolding ConformingArrivals
conforming_arrivals xs g w = prompt_each g (history xs) (trace_conforming (settings_of (bridge_after xs) g) (mine g (history xs)) (history_trace g xs) (within_trace xs g w))
