-- `calls::place_group` meets its contract: each return has the tests that led there. Assumes nothing.
use mathlib.Core.Path.{◌≡◌, sym, ap, ◌∙◌}
use mathlib.Core.Bool.{true}
use Rattle.quantity.specs.Ranges.{in_range}
use Rattle.quantity.specs.declared.Item.TheVariants.{GroupId}
use Rattle.quantity.proofs.Booleans.{refuted, confirmed}
use Rattle.calls.specs.Calls.{taken}
use Rattle.calls.proofs.Returns.{group_id_out, group_before, group_taken_law}
use Rattle.calls.proofs.place_group.Goals as goal

pub returns-then-not-in_range : goal.returns-then-not-in_range
returns-then-not-in_range c =
    let a = c.args in
    c.kept.ensures ∙ sym (group_id_out a.id a.group a.class a.residence.0 (refuted c.in_range.ensures c.if-not-in_range.true))

pub returns-then-used : goal.returns-then-used
returns-then-used c =
    let id_in : in_range GroupId c.args.id ≡ true = confirmed c.in_range.ensures c.if-not-in_range.false in
    let a = c.args in
    c.kept-then-used.ensures ∙ sym (group_before a.id a.group a.class a.residence.0 id_in c.if-used.true)

pub returns-in-Err : goal.returns-in-Err
unfolding taken
returns-in-Err c =
    let id_in : in_range GroupId c.args.id ≡ true = confirmed c.in_range.ensures c.if-not-in_range.false in
    let a = c.args in
    c.kept-in-Err.ensures
    ∙ sym (group_taken_law a.id a.group a.class a.residence.0 id_in c.if-used.false ∙ ap (taken a.group) (sym c.set_up_group.ensures ∙ c.in-Err.is))

pub returns-in-Ok : goal.returns-in-Ok
unfolding taken
returns-in-Ok c =
    let id_in : in_range GroupId c.args.id ≡ true = confirmed c.in_range.ensures c.if-not-in_range.false in
    let a = c.args in
    sym (group_taken_law a.id a.group a.class a.residence.0 id_in c.if-used.false ∙ ap (taken a.group) (sym c.set_up_group.ensures ∙ c.in-Ok.is))
