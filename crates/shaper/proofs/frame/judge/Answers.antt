-- `shaper::frame::judge` meets its contract: refused by the tests, or processed. Assumes nothing.
use Rattle.std.proofs.Common.{ℕ, sym, ap, ◌∙◌, subst}
use Rattle.admission.specs.Tests.{above_burst}
use Rattle.admission.proofs.Tests.{Said, said}
use Rattle.shaper.proofs.Judging.{test_refuses, test_charges}
use Rattle.shaper.proofs.frame.judge.Goals as goal

pub process_frame-requires : goal.process_frame-requires
unfolding Said
process_frame-requires c =
    let a = c.args in
    let w = subst (Said a.stream a.group a.octets a.arrival.0) (sym c.test_frame.ensures ∙ c.in-Ok.is) (said a.stream a.group a.octets a.arrival.0) in
    (w.0.records, ap (λ (L : ℕ). above_burst a.stream.regulator L) w.1 ∙ w.0.burst, w.0.arrival)

pub returns-in-Err : goal.returns-in-Err
returns-in-Err c =
    let a = c.args in
    c.refused.ensures ∙ sym (test_refuses a.stream a.group a.octets a.arrival.0 (sym c.test_frame.ensures ∙ c.in-Err.is))

pub returns-in-Ok : goal.returns-in-Ok
returns-in-Ok c =
    let a = c.args in
    c.process_frame.ensures ∙ sym (test_charges a.stream a.group a.octets a.arrival.0 (sym c.test_frame.ensures ∙ c.in-Ok.is))
