-- `intake::Held::keep_for` meets its contract: what is held is not in the buffer, or it goes by what comes next. Assumes nothing.
use mathlib.Core.Path.{sym, ap, ◌∙◌}
use lib.ListN.{length}
use Rattle.quantity.proofs.Booleans.{refuted, confirmed}
use Rattle.intake.specs.declared.Next.{Next}
use Rattle.intake.specs.Holding.{kept_for, as_it_was}
use Rattle.intake.proofs.Promises.{is_within_law, unmoved, brought, stays}
use Rattle.intake.proofs.Held.keep_for.Goals as goal

pub returns-then-not-is_within : goal.returns-then-not-is_within
unfolding as_it_was
returns-then-not-is_within c =
    let a = c.args in
    unmoved a.next a.self a.bytes.now (refuted c.is_within.ensures c.if-not-is_within.true)

pub keep-requires : goal.keep-requires
keep-requires c = let a = c.args in let w = is_within_law a.self (length a.bytes.now) (confirmed c.is_within.ensures c.if-not-is_within.false) in (w.ahead, w.inside)

pub returns-in-Reads : goal.returns-in-Reads
returns-in-Reads c =
    let a = c.args in
    c.keep.ensures ∙ sym (brought a.self a.bytes.now (is_within_law a.self (length a.bytes.now) (confirmed c.is_within.ensures c.if-not-is_within.false))) ∙ sym (ap (λ (x : Next). kept_for x a.self a.bytes.now) c.in-Reads.is)

pub returns-in-GoesOn : goal.returns-in-GoesOn
unfolding as_it_was
returns-in-GoesOn c = let a = c.args in stays a.next a.self a.bytes.now c.in-GoesOn.is
