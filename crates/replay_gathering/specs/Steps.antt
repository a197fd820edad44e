-- What the private steps give. No sentence of the document stands here.
use Rattle.std.specs.Prelude.{Ok, Err}
use Rattle.replay_gathering.specs.declared.End.TheVariants.{NotSetUp}
use Rattle.replay_gathering.specs.declared.Task.{Task}
use Rattle.replay_gathering.specs.declared.Task.TheVariants.{Ends}
use Rattle.std.specs.declared.result.Result.{Result}
use Rattle.quantity.specs.declared.Refusal.{Refusal}

-- after a set-up that was refused there is no other task
unfoldable pub task_after : Result (Unit {0}) Refusal → Task → Task
task_after (Ok tt) t = t
task_after (Err why) t = Ends (NotSetUp why)
