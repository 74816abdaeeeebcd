use Rattle.gp_due.proofs.Sharded.{all_done}
use Rattle.gp_due.proofs.laws.shards_are_done.Goals as goal

pub returns : goal.returns
returns c = all_done
