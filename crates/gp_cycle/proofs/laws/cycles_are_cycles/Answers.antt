use Rattle.gp_cycle.proofs.Found.{told_cycle}
use Rattle.gp_cycle.proofs.laws.cycles_are_cycles.Goals as goal

pub returns : goal.returns
returns c = told_cycle
