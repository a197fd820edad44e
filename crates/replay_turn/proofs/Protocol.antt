-- Where the program stands in its reading, proved: each theorem has the name of its statement in specs/Protocol. Assumes nothing.
use mathlib.Core.Path.{◌≡◌, refl, sym, ap, ◌∙◌}
use mathlib.Core.Bool.{Bool, true, false, cond}
use mathlib.Core.List.{List, []}
use Prim.Native.Nat.{ℕ, min}
use native.Mathlib.Omega.{arith}
use lib.ListN.{length}
use Rattle.intake.specs.Holding.{nothing_held, held_in}
use Rattle.intake.specs.Sessions.{at_first, Turn}
use Rattle.intake.specs.declared.Next.TheVariants.{Fails}
use Rattle.intake.specs.Promises.{Given}
use Rattle.intake.proofs.Promises as sessions
use Rattle.replay_turn.specs.Gathered.{fresh_yard, Final, gathered_from}
use Rattle.replay_turn.specs.Turns.{Reached, read_turn, places_in, yard_of, final_of, begun_reading, reached_by, left_held, made_of, made_by, buffers_fit, turn_made}
use Rattle.replay_turn.specs.declared.Standing.{Standing}
use Rattle.replay_turn.specs.Promises.{reading_on, turn_by}
use Rattle.replay_turn.specs.Protocol.{Began, from, BeginStands, TurnStands, with_held, ReadingStands, GatheredIsTheFile}
use Rattle.replay_turn.proofs.Promises.{turn_is_right, turn_leaves, turn_is_made}

-- a turn leaves what the last reading said
is_told : (x : Standing) (input notes arrivals ids octets : List ℕ) → (turn_made x input notes arrivals ids octets).turned.standing.held.told ≡ x.held.told
unfolding turn_made made_by made_of left_held
is_told x input notes arrivals ids octets = go (buffers_fit x.held (length input) (length notes))
  where
    T : Turn Reached
    T = read_turn (reached_by x arrivals ids octets) (held_in x.held input) x.held.told

    go : (t : Bool)
        → (cond t (made_by T x.held input notes)
        (record { turned = record { standing = x; written = 0; next = Fails }; input = input; notes = notes; arrivals = arrivals; ids = ids; octets = octets })
        ).turned.standing.held.told ≡ x.held.told
    go true = sessions.kept_told T.next (left_held x.held T.used) input
    go false = refl

pub begin_stands : BeginStands
unfolding from begun_reading nothing_held held_in
begin_stands places input arrivals ids octets long = record {
  began = record { arrivals = arrivals; ids = ids; octets = octets; long = long };
  may = record { read = []; text = []; stands = at_first };
}

pub turn_stands : TurnStands
unfolding turn_by
turn_stands places n x input notes arrivals ids octets w room g =
    let m = turn_made x input notes arrivals ids octets in
    let i = turn_is_made x input notes arrivals ids octets w room in
    let t = sessions.turn_stands Reached read_turn (from g.began) n _ _ _ g.may _ _ _ i.state (turn_leaves x input notes arrivals ids octets w room) (is_told x input notes arrivals ids octets) in
    let next = sym i.next in
    record {
      goes = λ e. record { began = g.began; may = t.goes (next ∙ e) };
      reads = λ e. record { began = g.began; may = t.reads (next ∙ e) };
      ends = λ e. record { began = g.began; turn = n; ended = t.ends (next ∙ e) };
    }

pub reading_stands : ReadingStands
unfolding with_held reached_by
reading_stands places n x input arrivals ids octets w r got after same = record {
  began = r.began;
  may = sessions.reading_stands Reached read_turn (from r.began) n (reached_by x arrivals ids octets) x.held input w r.may got after same;
}

-- a reading that begins on lists of so many places gathers onto nothing
begins : (places : ℕ) (b : Began places) (bytes : List ℕ) → reading_on (from b) bytes ≡ gathered_from places bytes
unfolding reading_on from reached_by begun_reading yard_of fresh_yard places_in
begins places b bytes =
    let l = b.long in
    let m : min (length b.arrivals) (min (length b.ids) (length b.octets)) ≡ places = omega (arith, l.for_arrivals, l.for_ids, l.for_octets) in
    rw m

pub gathered_is_the_file : GatheredIsTheFile
gathered_is_the_file places x arrivals ids octets h bytes =
    ap (λ (g : Given Final). g.final)
    (sym (begins places h.began h.ended.turned.read)
    ∙ sessions.ended_is_all Reached Final read_turn final_of reading_on turn_is_right (from h.began) h.turn (reached_by x arrivals ids octets) h.ended bytes)
