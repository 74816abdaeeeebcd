use Rattle.gp_constraint.proofs.Further.{models_extend}
use Rattle.gp_constraint.proofs.laws.models_extend.Goals as goal

pub returns : goal.returns
returns c = models_extend
