-- The promises of the natural form, proved: each theorem has the name of its statement in specs/Natural. Assumes nothing.
use Rattle.shaper.specs.Natural.{TIsEligible, TIsLeast, XAfter, XFresh}
use Rattle.shaper.proofs.Natural as natural

pub T_is_eligible : TIsEligible
T_is_eligible s g h L A = let t = natural.T_late s g h L A in record { arrived = t.0; in_order = t.1; filled = t.2 }

pub T_is_least : TIsLeast
T_is_least s g h L A t e = natural.T_least s g h L A t e.arrived e.in_order e.filled

pub X_after : XAfter
X_after r G p L T = natural.X_after r G p L T

pub X_fresh : XFresh
X_fresh = natural.X_fresh
