-- `console::write_out` meets its contract: those before the place that it came to went to the writer. Assumes nothing.
use Rattle.std.proofs.Common.{refl}
use Rattle.console.proofs.Calls.{went_on, wrote, handed_back}
use Rattle.console.proofs.write_out.Goals as goal

pub returns-then-at-size-clause-went : goal.returns-then-at-size-clause-went
returns-then-at-size-clause-went g c = wrote _ _ _ _ _ _ c.loop-tries.invariant.0 c.loop-tries.invariant.2 c.written_to.ensures

pub returns-then-not-goes_on-clause-went : goal.returns-then-not-goes_on-clause-went
returns-then-not-goes_on-clause-went g c =
    wrote _ _ _ _ _ _ c.further-at.ensures.within.1
    (went_on (g.W.Write.contents c.args.out.now) (g.W.Write.contents c.loop-tries.out) (g.W.Write.contents c.write_from-got.new.out) c.args.bytes.now _ _ _ c.loop-tries.invariant.0 c.loop-tries.invariant.2 c.write_from-got.ensures c.further-at.ensures.place)
    c.written_to-then-not-goes_on.ensures

pub loop-tries-preserved : goal.loop-tries-preserved
loop-tries-preserved g c = (
  c.further-at.ensures.within.1,
  refl,
  went_on (g.W.Write.contents c.args.out.now) (g.W.Write.contents c.loop-tries.out) (g.W.Write.contents c.write_from-got.new.out) c.args.bytes.now _ _ _ c.loop-tries.invariant.0 c.loop-tries.invariant.2 c.write_from-got.ensures c.further-at.ensures.place,
)

pub returns-clause-went : goal.returns-clause-went
returns-clause-went g c = wrote _ _ _ _ _ _ c.loop-tries.invariant.0 c.loop-tries.invariant.2 c.written_to-2.ensures

pub returns-then-at-size-clause-handed : goal.returns-then-at-size-clause-handed
returns-then-at-size-clause-handed g c = handed_back _ _ _ _ c.written_to.ensures

pub returns-then-not-goes_on-clause-handed : goal.returns-then-not-goes_on-clause-handed
returns-then-not-goes_on-clause-handed g c = handed_back _ _ _ _ c.written_to-then-not-goes_on.ensures

pub returns-clause-handed : goal.returns-clause-handed
returns-clause-handed g c = handed_back _ _ _ _ c.written_to-2.ensures
