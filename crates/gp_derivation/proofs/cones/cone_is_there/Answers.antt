use Rattle.gp_derivation.proofs.Sweeping.{cone_is_there}
use Rattle.gp_derivation.proofs.cones.cone_is_there.Goals as goal

pub returns : goal.returns
returns c = cone_is_there
