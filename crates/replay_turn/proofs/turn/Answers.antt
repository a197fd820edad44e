-- `replay_turn::turn` meets its contract. Assumes nothing.
use mathlib.Core.Path.{◌≡◌}
use mathlib.Core.Bool.{true, false}
use native.Mathlib.Omega.{arith}
use lib.ListN.{length}
use Rattle.quantity.proofs.Booleans.{refuted, confirmed, both}
use Rattle.intake.specs.Holding.{held_in}
use Rattle.replay_turn.specs.Turns.{left_held, is_ready}
use Rattle.replay_turn.proofs.Ready.{Fitting, fitting}
use Rattle.replay_turn.proofs.Making.{turn_unmade, turn_made_law, Used, used}
use Rattle.replay_turn.proofs.turn.Goals as goal

pub returns-then-not-is_ready : goal.returns-then-not-is_ready
returns-then-not-is_ready c =
    let unready : let a = c.args in is_ready a.standing.held a.standing.records a.standing.bytes (length a.input.now) (length a.notes.now) ≡ false = refuted c.is_ready.ensures c.if-not-is_ready.true in
    let a = c.args in
    turn_unmade a.standing a.input.now a.notes.now a.arrivals.now a.ids.now a.octets.now unready

pub slice_bounds-gather_part-count : goal.slice_bounds-gather_part-count
slice_bounds-gather_part-count c =
    let ready : let a = c.args in is_ready a.standing.held a.standing.records a.standing.bytes (length a.input.now) (length a.notes.now) ≡ true = confirmed c.is_ready.ensures c.if-not-is_ready.false in
    let fitted : let a = c.args in Fitting a.standing.held (length a.input.now) (length a.notes.now) = fitting _ _ _ (both _ _ ready).0 in
    omega (arith, fitted.within.ahead)

pub slice_bounds-gather_part-start : goal.slice_bounds-gather_part-start
slice_bounds-gather_part-start c =
    let ready : let a = c.args in is_ready a.standing.held a.standing.records a.standing.bytes (length a.input.now) (length a.notes.now) ≡ true = confirmed c.is_ready.ensures c.if-not-is_ready.false in
    let fitted : let a = c.args in Fitting a.standing.held (length a.input.now) (length a.notes.now) = fitting _ _ _ (both _ _ ready).0 in
    omega (arith, fitted.within.ahead, fitted.within.inside)

pub slice_bounds-gather_part-end : goal.slice_bounds-gather_part-end
slice_bounds-gather_part-end c =
    let ready : let a = c.args in is_ready a.standing.held a.standing.records a.standing.bytes (length a.input.now) (length a.notes.now) ≡ true = confirmed c.is_ready.ensures c.if-not-is_ready.false in
    let fitted : let a = c.args in Fitting a.standing.held (length a.input.now) (length a.notes.now) = fitting _ _ _ (both _ _ ready).0 in
    omega (arith, fitted.within.ahead, fitted.within.inside)

pub overflow_add-records : goal.overflow_add-records
unfolding held_in
overflow_add-records c =
    let ready : let a = c.args in is_ready a.standing.held a.standing.records a.standing.bytes (length a.input.now) (length a.notes.now) ≡ true = confirmed c.is_ready.ensures c.if-not-is_ready.false in
    let gathered : let a = c.args in Used a.standing a.input.now a.notes.now a.arrivals.now a.ids.now a.octets.now c.gather_part-part.result = let a = c.args in used a.standing a.input.now a.notes.now a.arrivals.now a.ids.now a.octets.now ready _ _ _ _ c.gather_part-part.ensures in
    omega (arith, gathered.records_fit)

pub overflow_add-bytes : goal.overflow_add-bytes
unfolding held_in
overflow_add-bytes c =
    let ready : let a = c.args in is_ready a.standing.held a.standing.records a.standing.bytes (length a.input.now) (length a.notes.now) ≡ true = confirmed c.is_ready.ensures c.if-not-is_ready.false in
    let gathered : let a = c.args in Used a.standing a.input.now a.notes.now a.arrivals.now a.ids.now a.octets.now c.gather_part-part.result = let a = c.args in used a.standing a.input.now a.notes.now a.arrivals.now a.ids.now a.octets.now ready _ _ _ _ c.gather_part-part.ensures in
    omega (arith, gathered.bytes_fit)

pub note_of-note-requires : goal.note_of-note-requires
unfolding held_in
note_of-note-requires c =
    let ready : let a = c.args in is_ready a.standing.held a.standing.records a.standing.bytes (length a.input.now) (length a.notes.now) ≡ true = confirmed c.is_ready.ensures c.if-not-is_ready.false in
    let gathered : let a = c.args in Used a.standing a.input.now a.notes.now a.arrivals.now a.ids.now a.octets.now c.gather_part-part.result = let a = c.args in used a.standing a.input.now a.notes.now a.arrivals.now a.ids.now a.octets.now ready _ _ _ _ c.gather_part-part.ensures in
    gathered.records_fit

pub overflow_add-left : goal.overflow_add-left
unfolding held_in
overflow_add-left c =
    let ready : let a = c.args in is_ready a.standing.held a.standing.records a.standing.bytes (length a.input.now) (length a.notes.now) ≡ true = confirmed c.is_ready.ensures c.if-not-is_ready.false in
    let gathered : let a = c.args in Used a.standing a.input.now a.notes.now a.arrivals.now a.ids.now a.octets.now c.gather_part-part.result = let a = c.args in used a.standing a.input.now a.notes.now a.arrivals.now a.ids.now a.octets.now ready _ _ _ _ c.gather_part-part.ensures in
    omega (arith, gathered.at_most, gathered.ahead, gathered.inside, c.well_formed.0.0)

pub returns : goal.returns
unfolding held_in left_held
returns c =
    let ready : let a = c.args in is_ready a.standing.held a.standing.records a.standing.bytes (length a.input.now) (length a.notes.now) ≡ true = confirmed c.is_ready.ensures c.if-not-is_ready.false in
    let a = c.args in
    turn_made_law a.standing a.input.now a.notes.now a.arrivals.now a.ids.now a.octets.now ready _ _ _ _ _ _ _ _ _ _ _ c.gather_part-part.ensures c.next_of-next.ensures c.note_of-note.ensures c.is_whole.ensures c.put_note-written.ensures c.keep_for.ensures
