use Rattle.gp_derivation.proofs.Staying.{cone_stays}
use Rattle.gp_derivation.proofs.cones.cone_stays.Goals as goal

pub returns : goal.returns
returns c = cone_stays
