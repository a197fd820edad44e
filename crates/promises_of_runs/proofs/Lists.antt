-- Laws of one list after another: the tables after calls, their judged frames, and the bits that become eligible. Assumes nothing.
use mathlib.Core.Path.{◌≡◌, refl, sym, ap, ◌∙◌}
use mathlib.Core.List.{List, [], ◌∷◌, ◌++◌, append_assoc}
use Rattle.bridge.specs.History.{Call, after_call, after, Outcome, released, discarded, outcome, outcomes}
use Rattle.bridge.specs.Spans.{Sent, eligible}
use Rattle.bridge.specs.declared.Bridge.{Bridge}

pub after_append : (b : Bridge) (xs ys : List Call) → after b (xs ++ ys) ≡ after (after b xs) ys
unfolding after
after_append b [] ys = refl
after_append b (x ∷ xs) ys = after_append (after_call b x) xs ys

pub outcomes_append : (b : Bridge) (xs ys : List Call) → outcomes b (xs ++ ys) ≡ outcomes b xs ++ outcomes (after b xs) ys
unfolding outcomes after
outcomes_append b [] ys = refl
outcomes_append b (x ∷ xs) ys = ap (λ (os : List Outcome). outcome b x ++ os) (outcomes_append (after_call b x) xs ys) ∙ sym (append_assoc (outcome b x) (outcomes (after_call b x) xs) (outcomes (after (after_call b x) xs) ys))

pub eligible_append : (os ps : List Outcome) → eligible (os ++ ps) ≡ eligible os ++ eligible ps
unfolding eligible
eligible_append [] ps = refl
eligible_append (released f ∷ os) ps = ap (λ (es : List Sent). record { stream = f.stream; bits = f.bits; tick = f.time } ∷ es) (eligible_append os ps)
eligible_append (discarded f ∷ os) ps = eligible_append os ps
