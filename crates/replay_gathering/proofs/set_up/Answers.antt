-- `replay_gathering::set_up` meets its contract: in each arm the call is the arm's. Assumes nothing.
use mathlib.Core.Path.{sym, ap, ◌∙◌}
use Rattle.replay_gathering.specs.Gathering.{called}
use Rattle.replay_gathering.proofs.set_up.Goals as goal

pub returns-in-Group : goal.returns-in-Group
unfolding called
returns-in-Group c = c.set_up_group.ensures ∙ sym (ap (called c.args.bridge.now) c.in-Group.is)

pub returns-in-Stream : goal.returns-in-Stream
unfolding called
returns-in-Stream c = c.set_up_stream.ensures ∙ sym (ap (called c.args.bridge.now) c.in-Stream.is)
