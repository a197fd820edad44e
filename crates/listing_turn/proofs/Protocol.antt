-- Where the program stands: after a turn, and after a reading. Assumes nothing.
use Rattle.std.proofs.Common.{◌≡◌, ℕ, List, [], length, sym, ap, ◌∙◌}
use Rattle.intake.specs.Holding.{Within, nothing_held, held_in}
use Rattle.intake.specs.Sessions.{Turn, at_first}
use Rattle.intake.proofs.Promises as sessions
use Rattle.listing_turn.specs.Turns.{Reached, start, list_turn, begun_listing, reached_by, left_held, with_held, Made, made_of, held_listed, turn_made}
use Rattle.listing_turn.specs.Promises.{MayList, BeginStands, TurnStands, ReadingStands}
use Rattle.listing_turn.specs.declared.Standing.{Standing}
use Rattle.listing_turn.proofs.Making.{listed, turn_leaves}

-- the turn over lent buffers is the turn over lists
module _ (x : Standing) (input output : List ℕ) (w : Within x.held (length input)) where
  abbrev T : Turn Reached
  T = list_turn (length output) (reached_by x) (held_in x.held input) x.held.told

  abbrev M : Made
  M = turn_made x input output

  is_state : reached_by M.turned.standing ≡ T.state
  unfolding held_listed made_of reached_by
  is_state = ap (λ (m : Made). reached_by m.turned.standing) (sym (listed x input output w))

  is_next : M.turned.next ≡ T.next
  unfolding held_listed made_of
  is_next = ap (λ (m : Made). m.turned.next) (sym (listed x input output w))

  is_told : M.turned.standing.held.told ≡ x.held.told
  unfolding held_listed made_of left_held
  is_told = ap (λ (m : Made). m.turned.standing.held.told) (sym (listed x input output w)) ∙ sessions.kept_told T.next (left_held x.held T.used) input

pub begin_stands : BeginStands
unfolding MayList begun_listing nothing_held reached_by held_in start
begin_stands room input = record { read = []; text = []; stands = at_first }

pub turn_stands : TurnStands
unfolding MayList
turn_stands x input output n w may =
    let next = sym (is_next x input output w) in
    let t = sessions.turn_stands Reached (list_turn (length output)) start n _ _ _ may _ _ _ (is_state x input output w) (turn_leaves x input output w) (is_told x input output w) in
    record { goes = λ e. t.goes (next ∙ e); reads = λ e. t.reads (next ∙ e); ends = λ e. t.ends (next ∙ e) }

pub reading_stands : ReadingStands
unfolding MayList with_held reached_by
reading_stands room n x input w may got after same =
    sessions.reading_stands Reached (list_turn room) start n (reached_by x) x.held input w may got after same
