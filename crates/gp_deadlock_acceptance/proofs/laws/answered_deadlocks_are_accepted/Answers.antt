use Rattle.gp_deadlock_acceptance.proofs.Acceptance.{answered_accepted}
use Rattle.gp_deadlock_acceptance.proofs.laws.answered_deadlocks_are_accepted.Goals as goal

pub returns : goal.returns
returns c = answered_accepted
