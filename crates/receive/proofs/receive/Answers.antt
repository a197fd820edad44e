-- `receive::receive` meets its contract: the judged records are stored where they stood, or nothing is. Assumes nothing.
use Rattle.std.proofs.Common.{◌≡◌, true, false, length, sym, ap, ◌∙◌}
use Rattle.records.specs.declared.Group.{Group}
use Rattle.records.specs.declared.Answer.{Answer}
use Rattle.records.specs.Judged.{Judged}
use Rattle.bridge.specs.Tables.{no_stream}
use lib.ListN.{get_or, set}
use Rattle.lent.specs.InPlace.{judged_in}
use Rattle.lent.specs.Steps.{ready}
use Rattle.lent.proofs.InPlaceLaws.{has_place, restamped, group_kept, is_stored, is_unready}
use Rattle.receive.proofs.receive.Goals as goal

pub slice_copy_out-judge_in : goal.slice_copy_out-judge_in
slice_copy_out-judge_in c =
    let a = c.args in
    has_place (length a.streams.now) a.stream (sym c.is_ready.ensures ∙ c.if-is_ready.true)

pub bounds-streams-at : goal.bounds-streams-at
bounds-streams-at c =
    let a = c.args in
    has_place (length a.streams.now) a.stream (sym c.is_ready.ensures ∙ c.if-is_ready.true)

pub returns-then-is_ready : goal.returns-then-is_ready
returns-then-is_ready c =
    let a = c.args in
    let g = a.group.now in
    let ss = a.streams.now in
    let j : Judged = judged_in a.id (get_or ss a.stream no_stream) g a.octets a.arrival.0 in
    let has : ready (length ss) a.stream ≡ true = sym c.is_ready.ensures ∙ c.if-is_ready.true in
    ap (λ (x : Judged). record { answer = x.answer; group = restamped g x.group; streams = set ss a.stream x.stream }) c.judge_in-judged.ensures
    ∙ ap (λ (w : Group). record { answer = j.answer; group = w; streams = set ss a.stream j.stream }) (group_kept a.id (get_or ss a.stream no_stream) g a.octets a.arrival.0)
    ∙ sym (is_stored a.id g ss a.stream a.octets a.arrival.0 has)

pub returns-else-is_ready : goal.returns-else-is_ready
returns-else-is_ready c =
    let a = c.args in
    let g = a.group.now in
    let ss = a.streams.now in
    let has : ready (length ss) a.stream ≡ false = sym c.is_ready.ensures ∙ c.if-is_ready.false in
    ap (λ (w : Answer). record { answer = w; group = g; streams = ss }) c.unready.ensures
    ∙ sym (is_unready a.id g ss a.stream a.octets a.arrival.0 has)
