-- A run in pieces: the events left of a budget go on where it stopped, and a run whose counts and pick lists begin anew is the same run, shifted. Assumes nothing.
use mathlib.Core.Path.{◌≡◌, refl, sym, ap, ◌∙◌}
use mathlib.Core.Bool.{Bool, true, false, not, cond, ◌||◌}
use mathlib.Core.List.{List, [], ◌∷◌, ◌++◌}
use Prim.Native.Nat.{ℕ, zero, suc, ◌+◌, ◌≤◌}
use native.Mathlib.Omega.{arith}
use lib.Dec.{leb, ltb}
use lib.ListN.{length, set, take, length-append, length-set, length-take, take-append-drop}
use borrow.Author.Tests.{leb-true, leb-false, le-leb, lt-leb, le-ltb, eq-eqb}
use Rattle.quantity.specs.Kinds.{ticks}
use Rattle.quantity.specs.Ranges.{in_range}
use Rattle.quantity.specs.declared.Item.TheVariants.{PickMoment, LineFree}
use Rattle.quantity.specs.declared.Refusal.{Refusal}
use Rattle.quantity.specs.declared.Refusal.TheVariants.{Unsound, ListsUnfit, LineUnfit}
use Rattle.quantity.specs.declared.Ticks.{Ticks}
use Rattle.quantity.proofs.Ranges.{within, at_most}
use Rattle.classes.specs.Soundness.{all_sound}
use Rattle.firsts.specs.Firsts.{smallest_of}
use Rattle.classes.specs.Calls.{pick_gives}
use Rattle.places.specs.declared.Waiting.{Waiting}
use Rattle.places.specs.declared.Picked.{Picked}
use Rattle.places.specs.declared.Picked.TheVariants.{Leaves, Nothing, Refused as NotPicked}
use Rattle.event.specs.Next.{Event, arrival, pick, none, next_event, arrival_step, pick_step, step_for}
use Rattle.event.specs.declared.Stop.{Stop}
use Rattle.event.specs.declared.Stop.TheVariants.{BudgetSpent, TooLate, PicksFull, Refused}
use Rattle.event.specs.declared.Step.{Step}
use Rattle.event.specs.declared.Step.TheVariants.{Ends, Arrival, Pick}
use Rattle.line.specs.Run.{Input, State, Outcome, step, settled_at, arrived, sending_ticks, sent, picked_at, stopped, onward, run_for, begun, lists_fit, line_fits, run_gives}
use Rattle.line.specs.Events.{Takes, stops, arrives, picks}
use Rattle.line.specs.Promises.{Sound, continued, joined, RunInPieces, ContinuedIsAccepted}
use Rattle.line.proofs.Sending.{sending_most}
use Rattle.line.proofs.Turns.{Fits, fits_open, run_arrives, run_picks, arrival_means, gives_unfit, gives_off_line, gives_unsound, gives_run}
use Rattle.line.proofs.Happening.{arrived_sound, picks_at, leaves}
use Rattle.line.proofs.Promises.{runs, plainly}

-- ---- shifted by events and picks that went before
module _ (e : ℕ) (hs ms : List ℕ) where
  unfoldable pub shift : State → State
  shift s = record {
    bridge = s.bridge;
    waiting = s.waiting;
    next = s.next;
    free = s.free;
    events = e + s.events;
    picks = length hs + s.picks;
    answers = s.answers;
    picked = hs ++ s.picked;
    moments = ms ++ s.moments;
  }

  unfoldable pub shifted : Outcome → Outcome
  shifted o = record {
    ran = record {
      stop = o.ran.stop;
      next = o.ran.next;
      free = o.ran.free;
      events = e + o.ran.events;
      picks = length hs + o.ran.picks;
      bridge = o.ran.bridge;
      waiting = o.ran.waiting;
    };
    answers = o.answers;
    picked = hs ++ o.picked;
    moments = ms ++ o.moments;
  }

leb_add : (a b c : ℕ) → leb (a + b) (a + c) ≡ leb b c
leb_add a b c = go (leb b c) refl where
  go : (t : Bool) → leb b c ≡ t → leb (a + b) (a + c) ≡ t
  go true q = let z = leb-true b c q in le-leb (a + b) (a + c) (omega arith)
  go false q = let z = leb-false b c q in lt-leb (a + b) (a + c) (omega arith)

set_behind : (l r : List ℕ) (k x : ℕ) → set (l ++ r) (length l + k) x ≡ l ++ set r k x
set_behind [] r k x = let z : 0 + k ≡ k = omega arith in rw z refl
set_behind (y ∷ l) r k x = let z : suc (length l) + k ≡ suc (length l + k) = omega arith in rw z (ap (λ (q : List ℕ). y ∷ q) (set_behind l r k x))

module _ (i : Input) (e : ℕ) (hs ms : List ℕ) (same : length ms ≡ length hs) where
  shift_pick : (left before a b m : ℕ) → pick_step left (length hs + before) (length hs + a) (length ms + b) m ≡ pick_step left before a b m
  unfolding pick_step
  shift_pick left before a b m = rw (same, leb_add (length hs) a before, leb_add (length hs) b before) refl

  shift_for : (left before a b : ℕ) (v : Event) → step_for left (length hs + before) (length hs + a) (length ms + b) v ≡ step_for left before a b v
  unfolding step_for
  shift_for left before a b none = refl
  shift_for left before a b arrival = refl
  shift_for left before a b (pick m) = shift_pick left before a b m

  shift_step : (left : ℕ) (s : State) → step i left (shift e hs ms s) ≡ step i left s
  unfolding step shift
  shift_step left s =
      rw (length-append hs s.picked, length-append ms s.moments)
      (shift_for left s.picks (length s.picked) (length s.moments) (next_event i.arrivals s.next s.free (smallest_of s.waiting.times s.waiting.fills)))

  shift_arrived : (s : State) → arrived i (shift e hs ms s) ≡ shift e hs ms (arrived i s)
  unfolding arrived shift settled_at
  shift_arrived s = let z : (e + s.events) + 1 ≡ e + (s.events + 1) = omega arith in rw z refl

  shift_sent : (s : State) (m : ℕ) (w : Waiting) (p : Picked) → sent i (shift e hs ms s) m w p ≡ shift e hs ms (sent i s m w p)
  unfolding sent shift
  shift_sent s m w (Leaves c x) =
      let z : (e + s.events) + 1 ≡ e + (s.events + 1) = omega arith in
      let y : (length hs + s.picks) + 1 ≡ length hs + (s.picks + 1) = omega arith in
      let u = set_behind hs s.picked s.picks x.handle in
      let v : set (ms ++ s.moments) (length hs + s.picks) m ≡ ms ++ set s.moments s.picks m = ap (λ (n : ℕ). set (ms ++ s.moments) (n + s.picks) m) (sym same) ∙ set_behind ms s.moments s.picks m in
      rw (z, y, u, v) refl
  shift_sent s m w Nothing = refl
  shift_sent s m w (NotPicked why) = refl

  shift_picked : (s : State) (m : ℕ) → picked_at i (shift e hs ms s) m ≡ shift e hs ms (picked_at i s m)
  unfolding picked_at shift
  shift_picked s m = shift_sent s m (pick_gives s.waiting m).waiting (pick_gives s.waiting m).answer

  shift_stopped : (why : Stop) (s : State) → stopped why (shift e hs ms s) ≡ shifted e hs ms (stopped why s)
  unfolding stopped shift shifted
  shift_stopped why s = refl

  shift_onward : (s : State) (st : Step) (f g : State → Outcome) → ((x : State) → f (shift e hs ms x) ≡ shifted e hs ms (g x)) → onward i (shift e hs ms s) st f ≡ shifted e hs ms (onward i s st g)
  unfolding onward
  shift_onward s (Ends why) f g h = shift_stopped why s
  shift_onward s Arrival f g h = ap f (shift_arrived s) ∙ h (arrived i s)
  shift_onward s (Pick m) f g h = ap f (shift_picked s m.0) ∙ h (picked_at i s m.0)

  pub shift_run : (n : ℕ) (s : State) → run_for i n (shift e hs ms s) ≡ shifted e hs ms (run_for i n s)
  unfolding run_for
  shift_run zero s = rw (shift_step zero s) (shift_onward s (step i zero s) (stopped BudgetSpent) (stopped BudgetSpent) (shift_stopped BudgetSpent))
  shift_run (suc n) s = rw (shift_step (suc n) s) (shift_onward s (step i (suc n) s) (run_for i n) (run_for i n) (λ x. shift_run n x))

-- ---- what is left of the budget does not matter, as long as something is
module _ (i : Input) (s : State) where
  arrival_any : (n m : ℕ) → arrival_step (suc n) ≡ arrival_step (suc m)
  unfolding arrival_step
  arrival_any n m = rw (le-ltb (suc n) 1 (omega arith), le-ltb (suc m) 1 (omega arith)) refl

  pick_any : (n m before a b t : ℕ) → pick_step (suc n) before a b t ≡ pick_step (suc m) before a b t
  unfolding pick_step
  pick_any n m before a b t = rw (le-ltb (suc n) 1 (omega arith), le-ltb (suc m) 1 (omega arith)) refl

  step_any : (n m : ℕ) → step i (suc n) s ≡ step i (suc m) s
  unfolding step step_for
  step_any n m = go (next_event i.arrivals s.next s.free (smallest_of s.waiting.times s.waiting.fills)) where
    go : (v : Event) → step_for (suc n) s.picks (length s.picked) (length s.moments) v ≡ step_for (suc m) s.picks (length s.picked) (length s.moments) v
    go none = refl
    go arrival = arrival_any n m
    go (pick t) = pick_any n m s.picks (length s.picked) (length s.moments) t

  -- the budget stops a run only where it is spent
  spent : (n : ℕ) → step i n s ≡ Ends BudgetSpent → n ≡ 0
  unfolding step step_for arrival_step pick_step
  spent zero e = refl
  spent (suc n) e = go (next_event i.arrivals s.next s.free (smallest_of s.waiting.times s.waiting.fills)) e where
    pos : ltb (suc n) 1 ≡ false
    pos = le-ltb (suc n) 1 (omega arith)

    last : (x y : Bool) (t : ℕ) → cond x (Ends TooLate) (cond y (Ends PicksFull) (Pick (ticks t))) ≡ Ends BudgetSpent → suc n ≡ 0
    last true y t q = let z : ◌≡◌ {A = ℕ} 0 1 = cc in absurd (omega arith)
    last false true t q = let z : ◌≡◌ {A = ℕ} 0 1 = cc in absurd (omega arith)
    last false false t q = let z : ◌≡◌ {A = ℕ} 0 1 = cc in absurd (omega arith)

    go : (v : Event) → step_for (suc n) s.picks (length s.picked) (length s.moments) v ≡ Ends BudgetSpent → suc n ≡ 0
    go none q = let z : ◌≡◌ {A = ℕ} 0 1 = cc in absurd (omega arith)
    go arrival q = let r = rw pos at q in let z : ◌≡◌ {A = ℕ} 0 1 = cc in absurd (omega arith)
    go (pick t) q = last (not (in_range PickMoment t)) (leb (length s.picked) s.picks || leb (length s.moments) s.picks) t (rw pos at q)

-- a run that its budget stopped, with m events more
more : (i : Input) (m : ℕ) {n k : ℕ} {s s' : State} {why : Stop} → Takes i n s k why s' → why ≡ BudgetSpent → run_for i (n + m) s ≡ run_for i m s'
more i m {n} {s = s} (stops e) q = let z = spent i s n (e ∙ ap Ends q) in let y : n + m ≡ m = omega arith in rw y refl
more i m {s = s} (arrives {left = l} e t) q =
    let y : suc l + m ≡ suc (l + m) = omega arith in
    rw y (run_arrives i (l + m) s (step_any i s (l + m) l ∙ e)) ∙ more i m t q
more i m {s = s} (picks {left = l} t e r) q =
    let y : suc l + m ≡ suc (l + m) = omega arith in
    rw y (run_picks i (l + m) s t (step_any i s (l + m) l ∙ e)) ∙ more i m r q

-- ---- what a run keeps, from one piece to the next
pub record Stands (i : Input) (s : State) : Type 0 where
  pub fits : Fits i s
  pub sound : Sound s
  pub handles : s.picks ≤ length s.picked
  pub moments : s.picks ≤ length s.moments

fits_close : (i : Input) (s : State) → Fits i s → (lists_fit (length i.arrivals) (length i.ids) (length i.octets) s.next (length s.answers) ≡ true) × (line_fits i.rate s.free ≡ true)
unfolding lists_fit line_fits
fits_close i s F =
    let n = length i.arrivals in (
      rw (eq-eqb (length i.ids) n F.ids, eq-eqb (length i.octets) n F.octets, F.many, le-leb s.next n F.start, le-leb n (length s.answers) F.room) refl,
      rw (F.rate, F.free) refl,
    )

module _ (i : Input) (n : ℕ) (s : State) (K : Stands i s) where
  arrived_stands : step i n s ≡ Arrival → Stands i (arrived i s)
  unfolding arrived
  arrived_stands e =
      let F = K.fits in
      let l = (arrival_means i n s e).1 in
      let r = F.room in
      let z = length-set s.answers s.next (settled_at i s).number in
      record {
        fits = record { ids = F.ids; octets = F.octets; many = F.many; start = omega arith; room = omega arith; rate = F.rate; free = F.free };
        sound = arrived_sound i s K.sound;
        handles = K.handles;
        moments = K.moments;
      }

  picked_stands : (m : Ticks) → step i n s ≡ Pick m → Stands i (picked_at i s m.0)
  unfolding sending_ticks
  picked_stands m e =
      let F = K.fits in
      let a = picks_at i n s m e in
      let v = leaves i n s m e K.sound in
      let b = sending_most v.entry.bits.0 i.rate F.rate v.light in
      let c = at_most PickMoment m.0 a.in-time in
      let d = a.handle_room in
      let g = a.moment_room in
      let x = length-set s.picked s.picks v.entry.handle in
      let y = length-set s.moments s.picks m.0 in
      rw v.state (record {
        fits = record { ids = F.ids; octets = F.octets; many = F.many; start = F.start; room = F.room; rate = F.rate; free = within LineFree (m.0 + sending_ticks v.entry.bits.0 i.rate) (omega arith) (omega arith) };
        sound = record { shaped = v.shaped; sound = v.sound };
        handles = omega arith;
        moments = omega arith;
      })

pub stands_kept : (i : Input) {n k : ℕ} {s s' : State} {why : Stop} → Takes i n s k why s' → Stands i s → Stands i s'
stands_kept i (stops e) K = K
stands_kept i {s = s} (arrives {left = l} e t) K = stands_kept i t (arrived_stands i (suc l) s K e)
stands_kept i {s = s} (picks {left = l} m e t) K = stands_kept i t (picked_stands i (suc l) s K m e)

-- ---- the call
-- what a run that was not refused was given
accepted : (i : Input) (n : ℕ) (s : State) → ((why : Refusal) → (run_gives i n s).ran.stop ≡ Refused why → ⊥)
    → (lists_fit (length i.arrivals) (length i.ids) (length i.octets) s.next (length s.answers) ≡ true)
    × ((line_fits i.rate s.free ≡ true) × (all_sound s.waiting.times s.waiting.bits s.waiting.fills ≡ true))
unfolding stopped
accepted i n s e =
    go (lists_fit (length i.arrivals) (length i.ids) (length i.octets) s.next (length s.answers)) (line_fits i.rate s.free) (all_sound s.waiting.times s.waiting.bits s.waiting.fills) refl refl refl where
      refused : (why : Refusal) → run_gives i n s ≡ stopped (Refused why) s → ⊥
      refused why g = e why (ap (λ (o : Outcome). o.ran.stop) g)

      go : (a b c : Bool) → lists_fit (length i.arrivals) (length i.ids) (length i.octets) s.next (length s.answers) ≡ a → line_fits i.rate s.free ≡ b
          → all_sound s.waiting.times s.waiting.bits s.waiting.fills ≡ c
          → (lists_fit (length i.arrivals) (length i.ids) (length i.octets) s.next (length s.answers) ≡ true)
          × ((line_fits i.rate s.free ≡ true) × (all_sound s.waiting.times s.waiting.bits s.waiting.fills ≡ true))
      go false b c p q r = absurd (refused ListsUnfit (gives_unfit i n s p))
      go true false c p q r = absurd (refused LineUnfit (gives_off_line i n s p q))
      go true true false p q r = absurd (refused Unsound (gives_unsound i n s p q r))
      go true true true p q r = (p, (q, r))

-- the state in which a piece stopped is that in which the next one begins, shifted
module _ (s : State) (h : s.picks ≤ length s.picked) (g : s.picks ≤ length s.moments) where
  abbrev hs : List ℕ
  hs = take s.picks s.picked

  abbrev ms : List ℕ
  ms = take s.picks s.moments

  hs_length : length hs ≡ s.picks
  hs_length = omega (arith, length-take s.picks s.picked)

  ms_length : length ms ≡ s.picks
  ms_length = omega (arith, length-take s.picks s.moments)

  goes_on : (why : Stop) → shift s.events hs ms (continued (stopped why s)) ≡ s
  unfolding shift continued begun stopped
  goes_on why =
      let a : s.events + 0 ≡ s.events = omega arith in
      let b : length hs + 0 ≡ s.picks = omega (arith, hs_length) in
      rw (a, b, take-append-drop s.picks s.picked, take-append-drop s.picks s.moments) refl

  joins : (why : Stop) (o : Outcome) → shifted s.events hs ms o ≡ joined (stopped why s) o
  unfolding shifted joined stopped
  joins why o = rw hs_length refl

-- which stop it was
stop_is : (o : Outcome) (why : Stop) (s : State) → o ≡ stopped why s → o.ran.stop ≡ BudgetSpent → why ≡ BudgetSpent
unfolding stopped
stop_is o why s g e = sym (ap (λ (x : Outcome). x.ran.stop) g) ∙ e

-- the second piece is not refused
second : (i : Input) (m : ℕ) (s : State) (why : Stop) → Stands i s → run_gives i m (continued (stopped why s)) ≡ run_for i m (continued (stopped why s))
unfolding continued begun stopped
second i m s why K =
    let F = K.fits in
    let c = continued (stopped why s) in
    let z = fits_close i c (record { ids = F.ids; octets = F.octets; many = F.many; start = F.start; room = F.room; rate = F.rate; free = F.free }) in
    gives_run i m c z.0 z.1 K.sound.sound

whole : (i : Input) (m : ℕ) (s : State) (why : Stop) → Stands i s → run_for i m s ≡ joined (stopped why s) (run_gives i m (continued (stopped why s)))
whole i m s why K =
    let h = K.handles in
    let g = K.moments in
    ap (run_for i m) (sym (goes_on s h g why))
    ∙ shift_run i s.events (hs s h g) (ms s h g) (ms_length s h g ∙ sym (hs_length s h g)) m (continued (stopped why s))
    ∙ ap (shifted s.events (hs s h g) (ms s h g)) (sym (second i m s why K))
    ∙ joins s h g why (run_gives i m (continued (stopped why s)))

pub run_in_pieces : RunInPieces
run_in_pieces i n m s z y sh e =
    let A = accepted i n s (λ why q. let x : BudgetSpent ≡ Refused why = sym e ∙ q in let w : ◌≡◌ {A = ℕ} 0 1 = cc in omega arith) in
    let R = runs i n s in
    let g : run_gives i n s ≡ stopped R.stop R.last = gives_run i n s A.0 A.1.0 A.1.1 ∙ R.gives in
    let K = stands_kept i R.takes (record { fits = fits_open i s A.0 A.1.0; sound = record { shaped = sh; sound = A.1.1 }; handles = omega arith; moments = omega arith }) in
    gives_run i (n + m) s A.0 A.1.0 A.1.1
    ∙ more i m R.takes (stop_is (run_gives i n s) R.stop R.last g e)
    ∙ whole i m R.last R.stop K
    ∙ ap (λ (o : Outcome). joined o (run_gives i m (continued o))) (sym g)

pub continued_is_accepted : ContinuedIsAccepted
unfolding stopped
continued_is_accepted i n m s y sh p why e =
    let A = accepted i n s p in
    let R = runs i n s in
    let g : run_gives i n s ≡ stopped R.stop R.last = gives_run i n s A.0 A.1.0 A.1.1 ∙ R.gives in
    let K = stands_kept i R.takes (record { fits = fits_open i s A.0 A.1.0; sound = record { shaped = sh; sound = A.1.1 }; handles = omega arith; moments = omega arith }) in
    let c = continued (stopped R.stop R.last) in
    let Q = runs i m c in
    plainly Q.takes why (sym (ap (λ (o : Outcome). o.ran.stop) (ap (λ (o : Outcome). run_gives i m (continued o)) g ∙ second i m R.last R.stop K ∙ Q.gives)) ∙ e)
