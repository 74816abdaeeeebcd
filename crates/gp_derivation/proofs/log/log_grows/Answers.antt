use Rattle.gp_derivation.proofs.Growing.{growing}
use Rattle.gp_derivation.proofs.log.log_grows.Goals as goal

pub returns : goal.returns
returns c = growing
