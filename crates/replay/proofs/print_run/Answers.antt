-- `replay::print_run` is safe: the last line of a run is short. Assumes nothing.
use Rattle.replay.proofs.Telling.{last_short}
use Rattle.replay.proofs.print_run.Goals as goal

pub print_account-requires : goal.print_account-requires
print_account-requires g c = last_short _ _ c.account_of-account.ensures
