use Rattle.gp_derivation.proofs.Sweeping.{cone_of_stays}
use Rattle.gp_derivation.proofs.cones.cone_of_stays.Goals as goal

pub returns : goal.returns
returns c = cone_of_stays
