-- `replay_account::account_of` meets its contract. Assumes nothing.
use mathlib.Core.Path.{refl}
use Rattle.replay_account.specs.Account.{account_by}
use Rattle.replay_account.proofs.Runs.{stopped, refused}
use Rattle.replay_account.proofs.account_of.Goals as goal

pub returns-in-Refused : goal.returns-in-Refused
unfolding account_by
returns-in-Refused c = refused c.args.ran c.stop_number-number.result c.stop_number-number.ensures c.in-Refused.is refl

pub returns : goal.returns
returns c = stopped c.args.ran c.stop_number-number.result c.stop_number-number.ensures c.in_default.not-Refused
