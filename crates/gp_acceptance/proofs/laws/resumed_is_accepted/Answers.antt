use Rattle.gp_acceptance.proofs.Resumed.{resumed_accepted}
use Rattle.gp_acceptance.proofs.laws.resumed_is_accepted.Goals as goal

pub returns : goal.returns
returns c = resumed_accepted
