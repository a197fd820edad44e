-- `line::lists_fit` meets its contract. Assumes nothing.
use borrow.Author.Tests.{eq-eqb, ne_eqb, le-leb, lt-leb}
use Rattle.quantity.proofs.Booleans.{refuted, confirmed}
use Rattle.line.specs.Run.{lists_fit}
use Rattle.line.proofs.lists_fit.Goals as goal

pub returns-then-ids-n : goal.returns-then-ids-n
unfolding lists_fit
returns-then-ids-n c = simp (ne_eqb _ _ c.if-ids-n.true)

pub returns-then-octets-n : goal.returns-then-octets-n
unfolding lists_fit
returns-then-octets-n c = simp (eq-eqb _ _ c.if-ids-n.false, ne_eqb _ _ c.if-octets-n.true)

pub returns-then-not-in_range : goal.returns-then-not-in_range
unfolding lists_fit
returns-then-not-in_range c = simp (eq-eqb _ _ c.if-ids-n.false, eq-eqb _ _ c.if-octets-n.false, refuted c.in_range.ensures c.if-not-in_range.true)

pub returns-then-start-n : goal.returns-then-start-n
unfolding lists_fit
returns-then-start-n c = simp (eq-eqb _ _ c.if-ids-n.false, eq-eqb _ _ c.if-octets-n.false, confirmed c.in_range.ensures c.if-not-in_range.false, lt-leb _ _ c.if-start-n.true)

pub returns : goal.returns
unfolding lists_fit
returns c = simp (eq-eqb _ _ c.if-ids-n.false, eq-eqb _ _ c.if-octets-n.false, confirmed c.in_range.ensures c.if-not-in_range.false, le-leb _ _ c.if-start-n.false)
