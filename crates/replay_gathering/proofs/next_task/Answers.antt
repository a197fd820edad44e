-- `replay_gathering::next_task` meets its contract: each arm has the answer that led there. Assumes nothing.
use mathlib.Core.Path.{sym, ap, ◌∙◌}
use Rattle.replay_gathering.specs.Gathering.{task_for}
use Rattle.replay_gathering.proofs.Turns.{after_done, after_refused}
use Rattle.replay_gathering.proofs.next_task.Goals as goal

pub returns-in-Err : goal.returns-in-Err
returns-in-Err c = after_refused _ _ c.in-Err.is _

pub returns-in-Found : goal.returns-in-Found
unfolding task_for
returns-in-Found c =
    after_done _ _ _ c.in_default.is (c.task_of.ensures ∙ sym (ap (task_for c.args.room) c.in-Found.is))

pub returns-in-NothingLeft : goal.returns-in-NothingLeft
unfolding task_for
returns-in-NothingLeft c = after_done _ _ _ c.in_default.is (sym (ap (task_for c.args.room) c.in-NothingLeft.is))

pub returns-in-Refused : goal.returns-in-Refused
unfolding task_for
returns-in-Refused c =
    after_done _ _ _ c.in_default.is (sym (ap (task_for c.args.room) c.in-Refused.is))
