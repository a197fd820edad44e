-- `calls::place_stream` meets its contract: each return has the tests that led there. Assumes nothing.
use mathlib.Core.Path.{◌≡◌, sym, ap, ◌∙◌}
use mathlib.Core.Bool.{true}
use Rattle.quantity.specs.Ranges.{in_range}
use Rattle.quantity.specs.declared.Item.TheVariants.{StreamId}
use Rattle.quantity.proofs.Booleans.{refuted, confirmed}
use Rattle.calls.specs.Calls.{taken}
use Rattle.calls.proofs.Returns.{stream_id_out, stream_before, stream_taken_law}
use Rattle.calls.proofs.place_stream.Goals as goal

pub returns-then-not-in_range : goal.returns-then-not-in_range
returns-then-not-in_range c =
    let a = c.args in
    c.kept.ensures ∙ sym (stream_id_out a.id a.stream a.in_group a.group a.rate.0 a.burst.0 (refuted c.in_range.ensures c.if-not-in_range.true))

pub returns-then-is_set_up : goal.returns-then-is_set_up
returns-then-is_set_up c =
    let id_in : in_range StreamId c.args.id ≡ true = confirmed c.in_range.ensures c.if-not-in_range.false in
    let a = c.args in
    c.kept-then-is_set_up.ensures ∙ sym (stream_before a.id a.stream a.in_group a.group a.rate.0 a.burst.0 id_in (sym c.is_set_up.ensures ∙ c.if-is_set_up.true))

pub returns-in-Err : goal.returns-in-Err
unfolding taken
returns-in-Err c =
    let id_in : in_range StreamId c.args.id ≡ true = confirmed c.in_range.ensures c.if-not-in_range.false in
    let a = c.args in
    c.kept-in-Err.ensures
    ∙ sym (stream_taken_law a.id a.stream a.in_group a.group a.rate.0 a.burst.0 id_in (sym c.is_set_up.ensures ∙ c.if-is_set_up.false) ∙ ap (taken a.stream) (sym c.set_up_stream.ensures ∙ c.in-Err.is))

pub returns-in-Ok : goal.returns-in-Ok
unfolding taken
returns-in-Ok c =
    let id_in : in_range StreamId c.args.id ≡ true = confirmed c.in_range.ensures c.if-not-in_range.false in
    let a = c.args in
    sym (stream_taken_law a.id a.stream a.in_group a.group a.rate.0 a.burst.0 id_in (sym c.is_set_up.ensures ∙ c.if-is_set_up.false) ∙ ap (taken a.stream) (sym c.set_up_stream.ensures ∙ c.in-Ok.is))
