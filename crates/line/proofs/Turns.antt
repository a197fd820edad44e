-- A run, event by event: what the loop keeps, and one law for each way through a turn. Assumes nothing.
use mathlib.Core.Path.{◌≡◌, refl, sym, ap, ap₂, ◌∙◌}
use mathlib.Core.Bool.{Bool, true, false}
use Prim.Native.Nat.{ℕ, zero, suc, ◌+◌, ◌-◌, ◌≤◌, ◌<◌}
use native.Mathlib.Omega.{arith}
use lib.Dec.{leb, eqb}
use lib.ListN.{length, get_or, set, length-set}
use borrow.Author.Tests.{leb-true, eqb-true}
use Rattle.quantity.specs.Kinds.{ticks}
use Rattle.quantity.specs.Ranges.{in_range, most_of, place_of}
use Rattle.quantity.specs.declared.Item.TheVariants.{Charge, LineRate, LineFree, ListPlaces, GroupId, StreamId}
use Rattle.quantity.specs.declared.Refusal.{Refusal}
use Rattle.quantity.specs.declared.Refusal.TheVariants.{Unsound, ListsUnfit, LineUnfit}
use Rattle.quantity.specs.declared.Ticks.{Ticks}
use Rattle.quantity.proofs.Booleans.{both}
use Rattle.quantity.proofs.Ranges.{at_most}
use Rattle.records.specs.declared.Answer.TheVariants.{Released}
use Rattle.records.specs.Judged.{Judged}
use Rattle.classes.specs.Soundness.{all_sound}
use Rattle.firsts.specs.Firsts.{smallest_of}
use Rattle.classes.specs.Calls.{pick_gives}
use Rattle.places.specs.declared.Waiting.{Waiting}
use Rattle.places.specs.declared.Entry.{Entry}
use Rattle.std.specs.Prelude.{Option, Ok, Err}
use Rattle.places.specs.declared.Picked.TheVariants.{Leaves}
use Rattle.places.specs.declared.Picked.{Picked}
use Rattle.places.specs.declared.After.{After}
use Rattle.bridge.specs.Tables.{no_group, no_stream}
use Rattle.calls.specs.Calls.{judged_at}
use Rattle.bridge.specs.Calls.{frame_called}
use Rattle.bridge.specs.declared.Bridge.{Bridge}
use Rattle.bridge.specs.Calls.{Framed}
use Rattle.bridge.proofs.Tables.{frame_call}
use Rattle.event.specs.Next.{next_event, step_for}
use Rattle.event.specs.declared.Stop.{Stop}
use Rattle.event.specs.declared.Stop.TheVariants.{Refused}
use Rattle.event.specs.declared.Step.{Step}
use Rattle.event.specs.declared.Step.TheVariants.{Ends, Arrival, Pick}
use Rattle.event.proofs.Steps.{Picks, step_arrives, step_picks, event_arrives}
use Rattle.line.specs.Run.{Input, State, step, handed, Settled, settled, frame_at, group_of, settled_at, arrived, sending_ticks, sent, picked_at, stopped, onward, run_for, lists_fit, line_fits, Start, start_of, start_at, started_by, run_gives}
use Rattle.line.specs.Firsts.{Enterable}
use Rattle.line.specs.Promises.{Sound}
use Rattle.line.specs.declared.Ran.{Ran}
use Rattle.line.proofs.Happening.{Leave, leaves}
use Rattle.line.proofs.Settling.{settled_same, may_enter, own_group}

-- ---- the definition, one step at a time
module _ (i : Input) where
  pub run_ends : (n : ℕ) (s : State) (why : Stop) → step i n s ≡ Ends why → run_for i n s ≡ stopped why s
  unfolding run_for onward
  run_ends zero s why e = rw e refl
  run_ends (suc n) s why e = rw e refl

  -- what an arrival as the next step says
  pub arrival_means : (n : ℕ) (s : State) → step i n s ≡ Arrival → (1 ≤ n) × (s.next < length i.arrivals)
  unfolding step
  arrival_means n s e =
      let z = step_arrives n s.picks (length s.picked) (length s.moments) _ e in
      (z.1, event_arrives i.arrivals s.next s.free (smallest_of s.waiting.times s.waiting.fills) z.0)

  pub run_arrives : (n : ℕ) (s : State) → step i (suc n) s ≡ Arrival → run_for i (suc n) s ≡ run_for i n (arrived i s)
  unfolding run_for onward
  run_arrives n s e = rw e refl

  pub run_picks : (n : ℕ) (s : State) (t : Ticks) → step i (suc n) s ≡ Pick t → run_for i (suc n) s ≡ run_for i n (picked_at i s t.0)
  unfolding run_for onward
  run_picks n s t e = rw e refl

-- ---- what fits at the start
pub record Fits (i : Input) (s : State) : Type 0 where
  pub ids : length i.ids ≡ length i.arrivals
  pub octets : length i.octets ≡ length i.arrivals
  pub many : in_range ListPlaces (length i.arrivals) ≡ true
  pub start : s.next ≤ length i.arrivals
  pub room : length i.arrivals ≤ length s.answers
  pub rate : in_range LineRate i.rate ≡ true
  pub free : in_range LineFree s.free ≡ true

pub fits_open : (i : Input) (s : State) → lists_fit (length i.arrivals) (length i.ids) (length i.octets) s.next (length s.answers) ≡ true → line_fits i.rate s.free ≡ true → Fits i s
unfolding lists_fit line_fits
fits_open i s e f =
    let n = length i.arrivals in
    let a = both (eqb (length i.ids) n) _ e in
    let b = both (eqb (length i.octets) n) _ a.1 in
    let c = both (in_range ListPlaces n) _ b.1 in
    let d = both (leb s.next n) (leb n (length s.answers)) c.1 in
    let g = both (in_range LineRate i.rate) (in_range LineFree s.free) f in
    record {
      ids = eqb-true (length i.ids) n a.0;
      octets = eqb-true (length i.octets) n b.0;
      many = c.0;
      start = leb-true s.next n d.0;
      room = leb-true n (length s.answers) d.1;
      rate = g.0;
      free = g.1;
    }

-- ---- what the loop keeps
pub record Running (i : Input) (budget : ℕ) (s₀ s : State) : Type 0 where
  pub same : run_for i (budget - s.events) s ≡ run_for i budget s₀
  pub spent : s.events ≤ budget
  pub ids : length i.ids ≡ length i.arrivals
  pub octets : length i.octets ≡ length i.arrivals
  pub many : length i.arrivals ≤ most_of ListPlaces
  pub room : length i.arrivals ≤ length s.answers
  pub rate : in_range LineRate i.rate ≡ true
  pub answers_long : length s.answers ≡ length s₀.answers
  pub picked_long : length s.picked ≡ length s₀.picked
  pub moments_long : length s.moments ≡ length s₀.moments

pub starts : (i : Input) (budget : ℕ) (s : State) → s.events ≡ 0 → Fits i s → Running i budget s s
starts i budget s z F = record {
  same = let y : budget - s.events ≡ budget = omega arith in rw y refl;
  spent = omega arith;
  ids = F.ids;
  octets = F.octets;
  many = at_most ListPlaces (length i.arrivals) F.many;
  room = F.room;
  rate = F.rate;
  answers_long = refl;
  picked_long = refl;
  moments_long = refl;
}

-- ---- a turn of the loop

-- its step st is the one of the definition
pub record Turn (i : Input) (budget : ℕ) (s₀ s : State) (st : Step) : Type 0 where
  pub running : Running i budget s₀ s
  pub step_is : st ≡ step i (budget - s.events) s

-- as the code finds it: sm is the smallest waiting time
pub turn : (i : Input) (budget : ℕ) (s₀ s : State) → Running i budget s₀ s
    → (sm : Option Ticks) → sm ≡ smallest_of s.waiting.times s.waiting.fills
    → (st : Step) → st ≡ step_for (budget - s.events) s.picks (length s.picked) (length s.moments) (next_event i.arrivals s.next s.free sm)
    → Turn i budget s₀ s st
unfolding step
turn i budget s₀ s R sm p st q = record {
  running = R;
  step_is = q ∙ ap (λ (x : Option Ticks). step_for (budget - s.events) s.picks (length s.picked) (length s.moments) (next_event i.arrivals s.next s.free x)) p;
}

module _ {i : Input} {budget : ℕ} {s₀ s : State} {st : Step} (U : Turn i budget s₀ s st) where
  abbrev R : Running i budget s₀ s
  R = U.running

  abbrev step_is : st ≡ step i (budget - s.events) s
  step_is = U.step_is

  -- it ends
  pub turn_ends : (why : Stop) → st ≡ Ends why → stopped why s ≡ run_for i budget s₀
  turn_ends why e = sym (run_ends i (budget - s.events) s why (sym step_is ∙ e)) ∙ R.same

  -- it goes on
  goes_on : 1 ≤ budget - s.events → (s' : State) → run_for i (budget - (s.events + 1)) s' ≡ run_for i (suc (budget - (s.events + 1))) s
      → s'.events ≡ s.events + 1
      → length s'.answers ≡ length s.answers → length s'.picked ≡ length s.picked → length s'.moments ≡ length s.moments
      → Running i budget s₀ s'
  goes_on l s' e one la lp lm =
      let w : suc (budget - (s.events + 1)) ≡ budget - s.events = omega arith in
      let room = R.room in
      let spent = R.spent in
      record {
        same = ap (λ (n : ℕ). run_for i (budget - n) s') one ∙ e ∙ ap (λ (n : ℕ). run_for i n s) w ∙ R.same;
        spent = omega arith;
        ids = R.ids;
        octets = R.octets;
        many = R.many;
        room = omega arith;
        rate = R.rate;
        answers_long = la ∙ R.answers_long;
        picked_long = lp ∙ R.picked_long;
        moments_long = lm ∙ R.moments_long;
      }

  suc_left : (a : Step) → 1 ≤ budget - s.events → st ≡ a → step i (suc (budget - (s.events + 1))) s ≡ a
  suc_left a l e =
      let w : suc (budget - (s.events + 1)) ≡ budget - s.events = omega arith in
      ap (λ (n : ℕ). step i n s) w ∙ sym step_is ∙ e

  -- by an arrival
  module _ (e : st ≡ Arrival) where
    pub arrival_within : (1 ≤ budget - s.events) × (s.next < length i.arrivals)
    arrival_within = arrival_means i (budget - s.events) s (sym step_is ∙ e)

    abbrev id : ℕ
    id = get_or i.ids s.next 0

    abbrev b : Bridge
    b = s.bridge

    abbrev n : ℕ
    n = get_or i.octets s.next 0

    abbrev A : ℕ
    A = get_or i.arrivals s.next 0

    module _ (at of : ℕ) (x : at ≡ place_of StreamId id) (y : of ≡ place_of GroupId (get_or b.streams at no_stream).group) (j : Judged)
        (z : j ≡ judged_at id (get_or b.streams at no_stream) (get_or b.groups of no_group) n A) where
      framed : record { answer = j.answer; bridge = record { groups = set b.groups of j.group; streams = set b.streams at j.stream } } ≡ frame_at i b s.next
      unfolding frame_at
      framed = frame_call b id n A at of x y j z

      answer_is : j.answer ≡ (frame_called b id n A).answer
      unfolding frame_at
      answer_is = ap (λ (f : Framed). f.answer) framed

      home : (T : Ticks) → j.answer ≡ Released T → get_or b.groups of no_group ≡ group_of i b s.next
      unfolding group_of
      home T a = own_group b id n A T (sym answer_is ∙ a) at of x y

      pub may_settle : (T : Ticks) → j.answer ≡ Released T → Enterable (handed (get_or b.groups of no_group) s.next n T.0)
      unfolding group_of
      may_settle T a = rw (home T a) (may_enter b id n A T (sym answer_is ∙ a) s.next)

      module _ (r : ℕ) (W : Waiting) (u : record { number = r; waiting = W } ≡ settled s.waiting (get_or b.groups of no_group) s.next n j.answer) where
        settles : record { number = r; waiting = W } ≡ settled_at i s
        unfolding settled_at frame_at
        settles =
            u ∙ settled_same s.waiting (get_or b.groups of no_group) (group_of i b s.next) s.next n j.answer home
            ∙ ap (settled s.waiting (group_of i b s.next) s.next n) answer_is

        abbrev now : Framed → Settled → State
        now f t = record {
          bridge = f.bridge;
          waiting = t.waiting;
          next = s.next + 1;
          free = s.free;
          events = s.events + 1;
          picks = s.picks;
          answers = set s.answers s.next t.number;
          picked = s.picked;
          moments = s.moments;
        }

        pub turn_arrives : Running i budget s₀ (now (record { answer = j.answer; bridge = record { groups = set b.groups of j.group; streams = set b.streams at j.stream } }) (record { number = r; waiting = W }))
        unfolding arrived
        turn_arrives =
            let l = arrival_within.0 in
            goes_on l (now (record { answer = j.answer; bridge = record { groups = set b.groups of j.group; streams = set b.streams at j.stream } }) (record { number = r; waiting = W }))
            (ap (run_for i (budget - (s.events + 1))) (ap₂ now framed settles) ∙ sym (run_arrives i (budget - (s.events + 1)) s (suc_left Arrival l e))) refl
            (length-set s.answers s.next r) refl refl

  -- by a pick
  module _ (t : Ticks) (e : st ≡ Pick t) where
    pub pick_within : Picks (budget - s.events) s.picks (length s.picked) (length s.moments) t.0
    unfolding step
    pick_within = (step_picks (budget - s.events) s.picks (length s.picked) (length s.moments) _ t (sym step_is ∙ e)).1

    abbrev sent_now : Entry → Waiting → ℕ → State
    sent_now l W d = record {
      bridge = s.bridge;
      waiting = W;
      next = s.next;
      free = t.0 + d;
      events = s.events + 1;
      picks = s.picks + 1;
      answers = s.answers;
      picked = set s.picked s.picks l.handle;
      moments = set s.moments s.picks t.0;
    }

    module _ (S : Sound s) (p : Picked) (W : Waiting) (g : record { answer = p; waiting = W } ≡ pick_gives s.waiting t.0) where
      leave : Leave i s t.0
      leave = leaves i (budget - s.events) s t (sym step_is ∙ e) S

      is_leaving : p ≡ Leaves leave.class leave.entry
      is_leaving = ap (λ (a : After Picked). a.answer) (g ∙ leave.gives)

      -- an entry leaves
      pub some_leaves : ((c : ℕ) (l : Entry) → p ≡ Leaves c l → ⊥) → ⊥
      some_leaves n = n leave.class leave.entry is_leaving

      module _ (c : ℕ) (l : Entry) (q : p ≡ Leaves c l) where
        pub leaves_light : l.bits.0 ≤ most_of Charge
        leaves_light =
            let z : Leaves leave.class leave.entry ≡ Leaves c l = sym is_leaving ∙ q in
            let y : leave.entry ≡ l = cc in
            rw y at leave.light

        pub turn_picks : (d : ℕ) → d ≡ sending_ticks l.bits.0 i.rate → Running i budget s₀ (sent_now l W d)
        unfolding picked_at sent
        turn_picks d u =
            let x = pick_within.some in
            let h : record { answer = Leaves c l; waiting = W } ≡ pick_gives s.waiting t.0 = ap (λ (a : Picked). record { answer = a; waiting = W }) (sym q) ∙ g in
            let z : sent_now l W d ≡ picked_at i s t.0 =
            ap (sent_now l W) u ∙ ap (λ (a : After Picked). sent i s t.0 a.waiting a.answer) h in
            goes_on x (sent_now l W d) (ap (run_for i (budget - (s.events + 1))) z ∙ sym (run_picks i (budget - (s.events + 1)) s t (suc_left (Pick t) x e))) refl
            refl (length-set s.picked s.picks l.handle) (length-set s.moments s.picks t.0)

-- ---- the call
module _ (i : Input) (budget : ℕ) (s : State) where
  abbrev fitting_lists : Bool
  fitting_lists = lists_fit (length i.arrivals) (length i.ids) (length i.octets) s.next (length s.answers)

  abbrev fitting_line : Bool
  fitting_line = line_fits i.rate s.free

  abbrev sound : Bool
  sound = all_sound s.waiting.times s.waiting.bits s.waiting.fills

  pub gives_unfit : fitting_lists ≡ false → run_gives i budget s ≡ stopped (Refused ListsUnfit) s
  unfolding run_gives start_at start_of started_by
  gives_unfit e = rw e refl

  pub gives_off_line : fitting_lists ≡ true → fitting_line ≡ false → run_gives i budget s ≡ stopped (Refused LineUnfit) s
  unfolding run_gives start_at start_of started_by
  gives_off_line e f = rw (e, f) refl

  pub gives_unsound : fitting_lists ≡ true → fitting_line ≡ true → sound ≡ false → run_gives i budget s ≡ stopped (Refused Unsound) s
  unfolding run_gives start_at start_of started_by
  gives_unsound e f g = rw (e, f, g) refl

  pub gives_run : fitting_lists ≡ true → fitting_line ≡ true → sound ≡ true → run_gives i budget s ≡ run_for i budget s
  unfolding run_gives start_at start_of started_by
  gives_run e f g = rw (e, f, g) refl

  -- and by what the code's tests say
  pub gives_refused : (why : Refusal) → start_at i s ≡ Err why → run_gives i budget s ≡ stopped (Refused why) s
  unfolding run_gives started_by
  gives_refused why e = ap (started_by i budget s) e

  pub gives_started : start_at i s ≡ Ok tt → run_gives i budget s ≡ run_for i budget s
  unfolding run_gives started_by
  gives_started e = ap (started_by i budget s) e

  -- a refused run gives the state that it was called in
  pub refuses : (why : Refusal) (r : Ran) → run_gives i budget s ≡ stopped (Refused why) s
      → r ≡ record { stop = Refused why; next = s.next; free = ticks s.free; events = s.events; picks = s.picks; bridge = s.bridge; waiting = s.waiting }
      → record { ran = r; answers = s.answers; picked = s.picked; moments = s.moments } ≡ run_gives i budget s
  unfolding stopped
  refuses why r e q = ap (λ (x : Ran). record { ran = x; answers = s.answers; picked = s.picked; moments = s.moments }) q ∙ sym e

-- the code's tests are those of the definition
pub told : (lists line queues l k : Bool) (x : Start) → l ≡ lists → k ≡ line → x ≡ start_of l k queues → start_of lists line queues ≡ x
told lists line queues l k x p q e = sym (e ∙ ap₂ (λ (a b : Bool). start_of a b queues) p q)

pub all_fit : (lists line queues : Bool) → start_of lists line queues ≡ Ok tt → (lists ≡ true) × ((line ≡ true) × (queues ≡ true))
unfolding start_of
all_fit true true true e = (refl, (refl, refl))
all_fit false line queues e = let z : ◌≡◌ {A = ℕ} 0 1 = cc in absurd (omega arith)
all_fit true false queues e = let z : ◌≡◌ {A = ℕ} 0 1 = cc in absurd (omega arith)
all_fit true true false e = let z : ◌≡◌ {A = ℕ} 0 1 = cc in absurd (omega arith)
