-- `replay::run_table` is safe, and prints the run of what was gathered. Assumes nothing.
use Rattle.replay.proofs.Replaying.{ran_is}
use Rattle.replay.proofs.run_table.Goals as goal

pub print_run-requires : goal.print_run-requires
print_run-requires g c =
    let a = c.args in
    record {
      standing = a.standing;
      arrivals = a.arrivals.now;
      ids = a.ids.now;
      octets = a.octets.now;
      gathered = c.requires.0;
      whole = c.requires.1;
      rate = a.rate.0;
      free = a.free.0;
      answers₀ = _;
      picked₀ = _;
      moments₀ = _;
      is = ran_is a.standing a.arrivals.now a.ids.now a.octets.now _ _ c.empty.result c.list_of-answers.result c.list_of-picked.result c.list_of-moments.result _ c.empty.ensures c.run-ran.ensures;
    }
