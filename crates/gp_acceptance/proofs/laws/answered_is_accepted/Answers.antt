use Rattle.gp_acceptance.proofs.Acceptance.{answered_accepted}
use Rattle.gp_acceptance.proofs.laws.answered_is_accepted.Goals as goal

pub returns : goal.returns
returns c = answered_accepted
