-- `calls::judge_at` meets its contract. Assumes nothing.
use mathlib.Core.Path.{sym, ◌∙◌}
use Rattle.quantity.proofs.Booleans.{refuted, confirmed}
use Rattle.calls.proofs.Returns.{frame_id_out, frame_id_in}
use Rattle.calls.proofs.judge_at.Goals as goal

pub returns-then-not-in_range : goal.returns-then-not-in_range
returns-then-not-in_range c =
    let a = c.args in
    c.refused.ensures ∙ sym (frame_id_out a.id a.stream a.group a.octets a.arrival.0 (refuted c.in_range.ensures c.if-not-in_range.true))

pub returns : goal.returns
returns c =
    let a = c.args in
    c.judge.ensures ∙ sym (frame_id_in a.id a.stream a.group a.octets a.arrival.0 (confirmed c.in_range.ensures c.if-not-in_range.false))
