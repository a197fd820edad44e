-- `intake::Held::keep` meets its contract. Assumes nothing.
use Rattle.intake.proofs.Keeping.{kept_is}
use Rattle.intake.proofs.Held.keep.Goals as goal

pub returns : goal.returns
returns c = kept_is _ _ c.args.self c.requires.0 c.requires.1 c.copy_within.ensures.after
