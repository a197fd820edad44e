-- `firmware::time_after` meets its contract. Assumes nothing.
use mathlib.Core.Path.{sym, ap}
use Rattle.records.specs.declared.Answer.{Answer}
use Rattle.firmware.specs.Firmware.{time_after}
use Rattle.firmware.proofs.time_after.Goals as goal

pub returns-in-Released : goal.returns-in-Released
unfolding time_after
returns-in-Released c = sym (ap (λ (x : Answer). time_after x c.args.time) c.in-Released.is)

pub returns-in-Discarded : goal.returns-in-Discarded
unfolding time_after
returns-in-Discarded c = sym (ap (λ (x : Answer). time_after x c.args.time) c.in-Discarded.is)

pub returns-in-Refused : goal.returns-in-Refused
unfolding time_after
returns-in-Refused c = sym (ap (λ (x : Answer). time_after x c.args.time) c.in-Refused.is)
