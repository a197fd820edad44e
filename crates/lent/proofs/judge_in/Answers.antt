-- `lent::judge_in` meets its contract. Assumes nothing.
use borrow.Author.Tests.{ne_eqb, eq-eqb}
use mathlib.Core.Path.{◌≡◌, sym, ◌∙◌}
use mathlib.Core.Bool.{true}
use Rattle.quantity.proofs.Booleans.{refuted, confirmed}
use Rattle.records.specs.Numbers.{is_set_up}
use Rattle.lent.proofs.InPlaceLaws.{unset, elsewhere, at_home}
use Rattle.lent.proofs.judge_in.Goals as goal

pub returns-then-not-is_set_up : goal.returns-then-not-is_set_up
returns-then-not-is_set_up c =
    let a = c.args in
    c.refused.ensures ∙ sym (unset a.id a.stream a.group a.octets a.arrival.0 (refuted c.is_set_up.ensures c.if-not-is_set_up.true))

pub returns-then-home-id : goal.returns-then-home-id
returns-then-home-id c =
    let set_up : is_set_up c.args.stream.regulator ≡ true = confirmed c.is_set_up.ensures c.if-not-is_set_up.false in
    let a = c.args in
    c.refused-then-home-id.ensures ∙ sym (elsewhere a.id a.stream a.group a.octets a.arrival.0 set_up (ne_eqb a.stream.group a.id c.if-home-id.true))

pub returns : goal.returns
returns c =
    let set_up : is_set_up c.args.stream.regulator ≡ true = confirmed c.is_set_up.ensures c.if-not-is_set_up.false in
    let a = c.args in
    c.judge.ensures ∙ sym (at_home a.id a.stream a.group a.octets a.arrival.0 set_up (eq-eqb a.stream.group a.id c.if-home-id.false))
