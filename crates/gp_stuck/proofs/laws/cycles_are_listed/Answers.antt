use Rattle.gp_stuck.proofs.Found.{listed}
use Rattle.gp_stuck.proofs.laws.cycles_are_listed.Goals as goal

pub returns : goal.returns
returns c = listed
