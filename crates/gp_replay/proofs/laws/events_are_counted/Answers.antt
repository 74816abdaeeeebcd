use Rattle.gp_replay.specs.CountedLaws.{counted_from_in, in_from_counted}
use Rattle.gp_replay.proofs.laws.events_are_counted.Goals as goal

pub returns : goal.returns
returns c = λ window ids last r id. (counted_from_in window last ids id r, in_from_counted window last ids id r)
