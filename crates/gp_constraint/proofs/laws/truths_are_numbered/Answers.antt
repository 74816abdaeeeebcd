use Rattle.gp_constraint.proofs.Truths.{truths_numbered}
use Rattle.gp_constraint.proofs.laws.truths_are_numbered.Goals as goal

pub returns : goal.returns
returns c = truths_numbered
