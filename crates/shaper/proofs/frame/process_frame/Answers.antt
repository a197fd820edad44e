-- `shaper::frame::process_frame` meets its contract: discarded, and released. Assumes nothing.
use Rattle.std.proofs.Common.{ℕ, sym, ap, ◌∙◌, arith}
use Rattle.quantity.specs.declared.Item.TheVariants.{Arrival}
use Rattle.quantity.proofs.Ranges.{at_most}
use Rattle.shaper.specs.Frame.{settled, process_frame}
use Rattle.shaper.specs.Steps.{Works}
use Rattle.records.proofs.Soundness.{SoundOk, sound_ok}
use Rattle.shaper.proofs.Buckets.{works}
use Rattle.shaper.proofs.Judging.{too_late, in-time}
use Rattle.shaper.proofs.frame.process_frame.Goals as goal

pub eligibility_time-t-requires : goal.eligibility_time-t-requires
eligibility_time-t-requires c =
    let ok : SoundOk c.args.stream c.args.group = sound_ok c.args.stream c.args.group c.requires.0 in
    let reckonable : Works c.args.stream.rate.0 c.args.stream.regulator c.args.bits.0 = let k = ok in works c.args.stream.rate.0 c.args.group.time.0 c.args.bits.0 c.args.stream.regulator k.slow k.fast (omega arith) k.regulator c.requires.1 in
    reckonable

pub overflow_add-at : goal.overflow_add-at
overflow_add-at c =
    let ok : SoundOk c.args.stream c.args.group = sound_ok c.args.stream c.args.group c.requires.0 in
    let k = ok in
    omega (arith, at_most Arrival c.args.arrival.0 c.requires.2)

pub returns-then-at-residence : goal.returns-then-at-residence
unfolding process_frame
returns-then-at-residence c =
    let a = c.args in
    c.discarded.ensures
    ∙ sym (too_late a.stream a.group a.bits.0 a.arrival.0 c.eligibility_time-t.result.0 c.if-at-residence.true)
    ∙ ap (λ (T : ℕ). settled a.stream a.group a.bits.0 a.arrival.0 T) c.eligibility_time-t.ensures

pub released-requires : goal.released-requires
released-requires c =
    let ok : SoundOk c.args.stream c.args.group = sound_ok c.args.stream c.args.group c.requires.0 in
    let reckonable : Works c.args.stream.rate.0 c.args.stream.regulator c.args.bits.0 = let k = ok in works c.args.stream.rate.0 c.args.group.time.0 c.args.bits.0 c.args.stream.regulator k.slow k.fast (omega arith) k.regulator c.requires.1 in
    let k = ok in
    (reckonable, omega (arith, at_most Arrival c.args.arrival.0 c.requires.2))

pub returns : goal.returns
unfolding process_frame
returns c =
    let a = c.args in
    c.released.ensures
    ∙ sym (in-time a.stream a.group a.bits.0 a.arrival.0 c.eligibility_time-t.result.0 c.if-at-residence.false)
    ∙ ap (λ (T : ℕ). settled a.stream a.group a.bits.0 a.arrival.0 T) c.eligibility_time-t.ensures
