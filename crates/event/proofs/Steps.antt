-- Laws of what a run does next: one for each return of the code, and what each step says. Assumes nothing.
use mathlib.Core.Path.{◌≡◌, refl, sym, ap, ◌∙◌}
use mathlib.Core.Bool.{Bool, true, false, not, cond, ◌||◌}
use mathlib.Core.List.{List}
use Prim.Native.Nat.{ℕ, ◌≤◌, ◌<◌, max}
use native.Mathlib.Omega.{arith}
use lib.Dec.{ltb, leb}
use lib.ListN.{length, get_or}
use borrow.Author.Tests.{leb-false, ltb-true, ltb-false, lt-leb, le-leb, lt-ltb, le-ltb}
use Rattle.quantity.specs.Kinds.{ticks}
use Rattle.quantity.specs.Ranges.{in_range}
use Rattle.quantity.specs.declared.Item.TheVariants.{PickMoment}
use Rattle.quantity.specs.declared.Refusal.{Refusal}
use Rattle.quantity.specs.declared.Ticks.{Ticks}
use Rattle.std.specs.Prelude.{Option, Some, None}
use Rattle.event.specs.Next.{arrives_by, at_candidate, next_event, Event, arrival, pick, none, arrival_step, pick_step, step_for}
use Rattle.event.specs.declared.Stop.TheVariants.{Done, BudgetSpent, TooLate, PicksFull, Refused}
use Rattle.event.specs.declared.Step.{Step}
use Rattle.event.specs.declared.Step.TheVariants.{Ends, Arrival, Pick}

-- ---- which event is next
module _ (l : List ℕ) (k m : ℕ) where
  pub arrives_in : k < length l → leb (get_or l k 0) m ≡ arrives_by l k m
  unfolding arrives_by
  arrives_in h = simp (lt-ltb _ _ h)

  pub arrives_out : length l ≤ k → ltb k (length l) ≡ arrives_by l k m
  unfolding arrives_by
  arrives_out h = simp (le-ltb _ _ h)

  pub arrives_within : arrives_by l k m ≡ true → k < length l
  unfolding arrives_by
  arrives_within t = go (ltb k (length l)) refl where
    go : (x : Bool) → ltb k (length l) ≡ x → k < length l
    go true p = ltb-true k (length l) p
    go false p = let z : false ≡ true = rw p at t in let n : ◌≡◌ {A = ℕ} 0 1 = cc in absurd (omega arith)

module _ (left picks handles moments : ℕ) where
  module _ (m : ℕ) where
    pub pick_spent : left < 1 → Ends BudgetSpent ≡ pick_step left picks handles moments m
    unfolding pick_step
    pick_spent h = simp (lt-ltb _ _ h)

    pub pick_late : 1 ≤ left → in_range PickMoment m ≡ false → Ends TooLate ≡ pick_step left picks handles moments m
    unfolding pick_step
    pick_late h e = simp (le-ltb _ _ h, e)

    module _ (h : 1 ≤ left) (e : in_range PickMoment m ≡ true) where
      pub pick_full : handles ≤ picks → Ends PicksFull ≡ pick_step left picks handles moments m
      unfolding pick_step
      pick_full f = simp (le-ltb _ _ h, e, le-leb _ _ f)

      pub pick_full_too : picks < handles → moments ≤ picks → Ends PicksFull ≡ pick_step left picks handles moments m
      unfolding pick_step
      pick_full_too g f = simp (le-ltb _ _ h, e, lt-leb _ _ g, le-leb _ _ f)

      pub pick_now : picks < handles → picks < moments → Pick (ticks m) ≡ pick_step left picks handles moments m
      unfolding pick_step
      pick_now g f = simp (le-ltb _ _ h, e, lt-leb _ _ g, lt-leb _ _ f)

  module _ (l : List ℕ) (k free : ℕ) (s : Option Ticks) where
    pub nothing_left : s ≡ None → length l ≤ k → Ends Done ≡ step_for left picks handles moments (next_event l k free s)
    unfolding step_for next_event
    nothing_left e h = rw (e, le-ltb k (length l) h) refl

  module _ (l : List ℕ) (k free : ℕ) (s : Option Ticks) (r : Step) where
    pub nothing_arrives : s ≡ None → k < length l → r ≡ arrival_step left → r ≡ step_for left picks handles moments (next_event l k free s)
    unfolding step_for next_event
    nothing_arrives e h q = rw (e, lt-ltb k (length l) h) q

    module _ (t : Ticks) (e : s ≡ Some t) (m : ℕ) (c : m ≡ max free t.0) (b : Bool) (a : b ≡ arrives_by l k m) where
      pub arrives_first : b ≡ true → r ≡ arrival_step left → r ≡ step_for left picks handles moments (next_event l k free s)
      unfolding step_for next_event at_candidate
      arrives_first h q = rw (e, sym c, sym a ∙ h) q

      pub picks_first : b ≡ false → r ≡ pick_step left picks handles moments m → r ≡ step_for left picks handles moments (next_event l k free s)
      unfolding step_for next_event at_candidate
      picks_first h q = rw (e, sym c, sym a ∙ h) q

-- ---- what a step says
no_arrival : (left picks handles moments m : ℕ) → pick_step left picks handles moments m ≡ Arrival → ⊥
unfolding pick_step
no_arrival left picks handles moments m e = go (ltb left 1) (not (in_range PickMoment m)) (leb handles picks || leb moments picks) e where
  go : (x y z : Bool) → cond x (Ends BudgetSpent) (cond y (Ends TooLate) (cond z (Ends PicksFull) (Pick (ticks m)))) ≡ Arrival → ⊥
  go true y z q = let n : ◌≡◌ {A = ℕ} 0 1 = cc in omega arith
  go false true z q = let n : ◌≡◌ {A = ℕ} 0 1 = cc in omega arith
  go false false true q = let n : ◌≡◌ {A = ℕ} 0 1 = cc in omega arith
  go false false false q = let n : ◌≡◌ {A = ℕ} 0 1 = cc in omega arith

arrival_left : (left : ℕ) → arrival_step left ≡ Arrival → 1 ≤ left
unfolding arrival_step
arrival_left left e = go (ltb left 1) refl e where
  go : (x : Bool) → ltb left 1 ≡ x → cond x (Ends BudgetSpent) Arrival ≡ Arrival → 1 ≤ left
  go true p q = let n : ◌≡◌ {A = ℕ} 0 1 = cc in absurd (omega arith)
  go false p q = ltb-false left 1 p

-- the run picks at m: some of the budget is left, m is in range and there is room in both lists
pub record Picks (left picks handles moments m : ℕ) : Type 0 where
  pub some : 1 ≤ left
  pub in-time : in_range PickMoment m ≡ true
  pub handle_room : picks < handles
  pub moment_room : picks < moments

pick_means : (left picks handles moments m : ℕ) (t : Ticks) → pick_step left picks handles moments m ≡ Pick t → (m ≡ t.0) × Picks left picks handles moments m
unfolding pick_step
pick_means left picks handles moments m t e = go (ltb left 1) (in_range PickMoment m) (leb handles picks) (leb moments picks) refl refl refl refl e where
  go : (x y z v : Bool) → ltb left 1 ≡ x → in_range PickMoment m ≡ y → leb handles picks ≡ z → leb moments picks ≡ v
      → cond x (Ends BudgetSpent) (cond (not y) (Ends TooLate) (cond (z || v) (Ends PicksFull) (Pick (ticks m)))) ≡ Pick t → (m ≡ t.0) × Picks left picks handles moments m
  go true y z v a b c d q = let n : ◌≡◌ {A = ℕ} 0 1 = cc in absurd (omega arith)
  go false false z v a b c d q = let n : ◌≡◌ {A = ℕ} 0 1 = cc in absurd (omega arith)
  go false true true v a b c d q = let n : ◌≡◌ {A = ℕ} 0 1 = cc in absurd (omega arith)
  go false true false true a b c d q = let n : ◌≡◌ {A = ℕ} 0 1 = cc in absurd (omega arith)
  go false true false false a b c d q =
      let z : ticks m ≡ t = cc in
      (ap (λ (u : Ticks). u.0) z, record { some = ltb-false left 1 a; in-time = b; handle_room = leb-false handles picks c; moment_room = leb-false moments picks d })

module _ (left picks handles moments : ℕ) where
  pub step_arrives : (e : Event) → step_for left picks handles moments e ≡ Arrival → (e ≡ arrival) × (1 ≤ left)
  unfolding step_for
  step_arrives none q = let n : ◌≡◌ {A = ℕ} 0 1 = cc in absurd (omega arith)
  step_arrives arrival q = (refl, arrival_left left q)
  step_arrives (pick m) q = absurd (no_arrival left picks handles moments m q)

  pub step_picks : (e : Event) (t : Ticks) → step_for left picks handles moments e ≡ Pick t → (e ≡ pick t.0) × Picks left picks handles moments t.0
  unfolding step_for arrival_step
  step_picks none t q = let n : ◌≡◌ {A = ℕ} 0 1 = cc in absurd (omega arith)
  step_picks arrival t q = go (ltb left 1) q where
    go : (x : Bool) → cond x (Ends BudgetSpent) Arrival ≡ Pick t → (arrival ≡ pick t.0) × Picks left picks handles moments t.0
    go true r = let n : ◌≡◌ {A = ℕ} 0 1 = cc in absurd (omega arith)
    go false r = let n : ◌≡◌ {A = ℕ} 0 1 = cc in absurd (omega arith)
  step_picks (pick m) t q = let z = pick_means left picks handles moments m t q in (ap pick z.0, rw z.0 at z.1)

module _ (l : List ℕ) (k free : ℕ) where
  pub event_arrives : (s : Option Ticks) → next_event l k free s ≡ arrival → k < length l
  unfolding next_event at_candidate
  event_arrives None e = go (ltb k (length l)) refl e where
    go : (x : Bool) → ltb k (length l) ≡ x → cond x arrival none ≡ arrival → k < length l
    go true p q = ltb-true k (length l) p
    go false p q = let n : ◌≡◌ {A = ℕ} 0 1 = cc in absurd (omega arith)
  event_arrives (Some t) e = go (arrives_by l k (max free t.0)) refl e where
    go : (x : Bool) → arrives_by l k (max free t.0) ≡ x → cond x arrival (pick (max free t.0)) ≡ arrival → k < length l
    go true p q = arrives_within l k (max free t.0) p
    go false p q = let n : ◌≡◌ {A = ℕ} 0 1 = cc in absurd (omega arith)

  -- a pick is at the candidate moment
  pub event_picks : (s : Option Ticks) (m : ℕ) → next_event l k free s ≡ pick m → (t : Ticks) × (s ≡ Some t) × (m ≡ max free t.0)
  unfolding next_event at_candidate
  event_picks None m e = go (ltb k (length l)) e where
    go : (x : Bool) → cond x arrival none ≡ pick m → (t : Ticks) × (None ≡ Some t) × (m ≡ max free t.0)
    go true q = let n : ◌≡◌ {A = ℕ} 0 1 = cc in absurd (omega arith)
    go false q = let n : ◌≡◌ {A = ℕ} 0 1 = cc in absurd (omega arith)
  event_picks (Some u) m e = go (arrives_by l k (max free u.0)) e where
    go : (x : Bool) → cond x arrival (pick (max free u.0)) ≡ pick m → (t : Ticks) × (Some u ≡ Some t) × (m ≡ max free t.0)
    go true q = let n : ◌≡◌ {A = ℕ} 0 1 = cc in absurd (omega arith)
    go false q = (u, refl, cc)

-- ---- a run that goes event by event is not refused
plain_pick : (left picks handles moments m : ℕ) (why : Refusal) → pick_step left picks handles moments m ≡ Ends (Refused why) → ⊥
unfolding pick_step
plain_pick left picks handles moments m why e = go (ltb left 1) (not (in_range PickMoment m)) (leb handles picks || leb moments picks) e where
  go : (x y z : Bool) → cond x (Ends BudgetSpent) (cond y (Ends TooLate) (cond z (Ends PicksFull) (Pick (ticks m)))) ≡ Ends (Refused why) → ⊥
  go true y z q = let n : ◌≡◌ {A = ℕ} 0 1 = cc in omega arith
  go false true z q = let n : ◌≡◌ {A = ℕ} 0 1 = cc in omega arith
  go false false true q = let n : ◌≡◌ {A = ℕ} 0 1 = cc in omega arith
  go false false false q = let n : ◌≡◌ {A = ℕ} 0 1 = cc in omega arith

plain_arrival : (left : ℕ) (why : Refusal) → arrival_step left ≡ Ends (Refused why) → ⊥
unfolding arrival_step
plain_arrival left why e = go (ltb left 1) e where
  go : (x : Bool) → cond x (Ends BudgetSpent) Arrival ≡ Ends (Refused why) → ⊥
  go true q = let n : ◌≡◌ {A = ℕ} 0 1 = cc in omega arith
  go false q = let n : ◌≡◌ {A = ℕ} 0 1 = cc in omega arith

pub plain_step : (left picks handles moments : ℕ) (e : Event) (why : Refusal) → step_for left picks handles moments e ≡ Ends (Refused why) → ⊥
unfolding step_for
plain_step left picks handles moments none why q = let n : ◌≡◌ {A = ℕ} 0 1 = cc in omega arith
plain_step left picks handles moments arrival why q = plain_arrival left why q
plain_step left picks handles moments (pick m) why q = plain_pick left picks handles moments m why q
