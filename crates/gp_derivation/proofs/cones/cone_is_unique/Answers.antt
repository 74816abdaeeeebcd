use Rattle.gp_derivation.proofs.Staying.{cone_is_unique}
use Rattle.gp_derivation.proofs.cones.cone_is_unique.Goals as goal

pub returns : goal.returns
returns c = cone_is_unique
