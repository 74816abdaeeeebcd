use Rattle.gp_replay.specs.OrderLaws.{started_first}
use Rattle.gp_replay.proofs.laws.starts_come_first.Goals as goal

pub returns : goal.returns
returns c = λ window prefix id back r. started_first window r.0 prefix id back r.1
