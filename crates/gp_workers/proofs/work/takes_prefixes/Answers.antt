-- What was taken first is the first of what was pushed.
use Rattle.gp_workers.proofs.SharedPrefixes.{takes_prefixes}
use Rattle.gp_workers.proofs.work.takes_prefixes.Goals as goal

pub returns : goal.returns
returns c = takes_prefixes
