use Rattle.gp_due.proofs.Sharded.{never_comes}
use Rattle.gp_due.proofs.laws.shards_never_due.Goals as goal

pub returns : goal.returns
returns c = never_comes
