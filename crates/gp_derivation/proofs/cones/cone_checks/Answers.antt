use Rattle.gp_derivation.proofs.Coning.{coning}
use Rattle.gp_derivation.proofs.cones.cone_checks.Goals as goal

pub returns : goal.returns
returns c = coning
