use Rattle.gp_cycle.proofs.Found.{none_round}
use Rattle.gp_cycle.proofs.laws.cycles_are_found.Goals as goal

pub returns : goal.returns
returns c = none_round
