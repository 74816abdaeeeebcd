-- The others are those of the numbers, but for one.
use Rattle.gp_workers.proofs.SharedFrom.{takes_from_another}
use Rattle.gp_workers.proofs.work.takes_from_another.Goals as goal

pub returns : goal.returns
returns c = takes_from_another
