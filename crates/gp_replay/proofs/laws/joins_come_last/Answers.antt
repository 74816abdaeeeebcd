use Rattle.gp_replay.specs.OrderLaws.{joined_last}
use Rattle.gp_replay.proofs.laws.joins_come_last.Goals as goal

pub returns : goal.returns
returns c = λ window prefix id back thread r joins. joined_last window r.0 prefix id back thread r.1 joins
