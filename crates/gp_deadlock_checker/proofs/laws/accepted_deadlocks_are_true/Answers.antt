use Rattle.gp_deadlock_checker.proofs.Truth.{accepted_true}
use Rattle.gp_deadlock_checker.proofs.laws.accepted_deadlocks_are_true.Goals as goal

pub returns : goal.returns
returns c = accepted_true c.laws.ensures
