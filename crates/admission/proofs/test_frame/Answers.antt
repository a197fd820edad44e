-- `admission::test_frame` meets its contract: each return has the tests that led there. Assumes nothing.
use mathlib.Core.Path.{sym, ap, ◌∙◌}
use Rattle.quantity.specs.declared.Bits.{Bits}
use Rattle.quantity.proofs.Booleans.{refuted, confirmed}
use Rattle.admission.specs.Tests.{above_burst}
use Rattle.admission.proofs.Tests.{test_10, test_9, test_11, test_12, test_13, test_14, none_refuses}
use Rattle.admission.proofs.test_frame.Goals as goal
use Rattle.std.proofs.Common.{Ok}

pub returns-then-not-is_set_up : goal.returns-then-not-is_set_up
returns-then-not-is_set_up c =
    let a = c.args in
    sym (test_10 a.stream a.group a.octets a.arrival.0 (refuted c.is_set_up.ensures c.if-not-is_set_up.true))

pub returns-then-not-is_sound : goal.returns-then-not-is_sound
returns-then-not-is_sound c =
    let a = c.args in
    sym (test_9 a.stream a.group a.octets a.arrival.0 (confirmed c.is_set_up.ensures c.if-not-is_set_up.false) (refuted c.is_sound.ensures c.if-not-is_sound.true))

pub returns-then-not-in_range : goal.returns-then-not-in_range
returns-then-not-in_range c =
    let a = c.args in
    sym (test_11 a.stream a.group a.octets a.arrival.0 (confirmed c.is_set_up.ensures c.if-not-is_set_up.false) (confirmed c.is_sound.ensures c.if-not-is_sound.false) (refuted c.in_range.ensures c.if-not-in_range.true))

pub returns-then-above_burst : goal.returns-then-above_burst
returns-then-above_burst c =
    let a = c.args in
    sym (test_12 a.stream a.group a.octets a.arrival.0 (confirmed c.is_set_up.ensures c.if-not-is_set_up.false) (confirmed c.is_sound.ensures c.if-not-is_sound.false) (confirmed c.in_range.ensures c.if-not-in_range.false) (sym (let a = c.args in c.above_burst.ensures ∙ ap (λ (L : Bits). above_burst a.stream.regulator L.0) c.charge-bits.ensures) ∙ c.if-above_burst.true))

pub returns-then-not-in_range-2 : goal.returns-then-not-in_range-2
returns-then-not-in_range-2 c =
    let a = c.args in
    sym (test_13 a.stream a.group a.octets a.arrival.0 (confirmed c.is_set_up.ensures c.if-not-is_set_up.false) (confirmed c.is_sound.ensures c.if-not-is_sound.false) (confirmed c.in_range.ensures c.if-not-in_range.false) (sym (let a = c.args in c.above_burst.ensures ∙ ap (λ (L : Bits). above_burst a.stream.regulator L.0) c.charge-bits.ensures) ∙ c.if-above_burst.false) (refuted c.in_range-2.ensures c.if-not-in_range-2.true))

pub returns-then-at-last : goal.returns-then-at-last
returns-then-at-last c =
    let a = c.args in
    sym (test_14 a.stream a.group a.octets a.arrival.0 (confirmed c.is_set_up.ensures c.if-not-is_set_up.false) (confirmed c.is_sound.ensures c.if-not-is_sound.false) (confirmed c.in_range.ensures c.if-not-in_range.false) (sym (let a = c.args in c.above_burst.ensures ∙ ap (λ (L : Bits). above_burst a.stream.regulator L.0) c.charge-bits.ensures) ∙ c.if-above_burst.false) (confirmed c.in_range-2.ensures c.if-not-in_range-2.false) c.if-at-last.true)

pub returns : goal.returns
returns c =
    let a = c.args in
    ap (λ (L : Bits). Ok L) c.charge-bits.ensures
    ∙ sym (none_refuses a.stream a.group a.octets a.arrival.0 (confirmed c.is_set_up.ensures c.if-not-is_set_up.false) (confirmed c.is_sound.ensures c.if-not-is_sound.false) (confirmed c.in_range.ensures c.if-not-in_range.false) (sym (let a = c.args in c.above_burst.ensures ∙ ap (λ (L : Bits). above_burst a.stream.regulator L.0) c.charge-bits.ensures) ∙ c.if-above_burst.false) (confirmed c.in_range-2.ensures c.if-not-in_range-2.false) c.if-at-last.false)
