use Rattle.gp_constraint.proofs.Further.{extensions_mean}
use Rattle.gp_constraint.proofs.laws.extensions_mean.Goals as goal

pub returns : goal.returns
returns c = extensions_mean
