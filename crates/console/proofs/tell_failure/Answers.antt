-- `console::tell_failure` meets its contract: the text stands at the front of the line. Assumes nothing.
use Rattle.console.proofs.Failures.{Stands, stands}
use Rattle.console.proofs.tell_failure.Goals as goal

pub slice_bounds-line-end : goal.slice_bounds-line-end
slice_bounds-line-end g c =
    let said : Stands c.put_failure-n.result c.put_failure-n.new.out c.args.failure = stands _ _ _ _ c.buffer-line.ensures.long c.put_failure-n.ensures in
    said.inside

pub slice_bounds-say_why-end : goal.slice_bounds-say_why-end
slice_bounds-say_why-end g c =
    let said : Stands c.put_failure-n.result c.put_failure-n.new.out c.args.failure = stands _ _ _ _ c.buffer-line.ensures.long c.put_failure-n.ensures in
    said.counts

pub returns : goal.returns
returns g c =
    let said : Stands c.put_failure-n.result c.put_failure-n.new.out c.args.failure = stands _ _ _ _ c.buffer-line.ensures.long c.put_failure-n.ensures in
    said.is
