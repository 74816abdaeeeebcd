use Rattle.gp_checker.proofs.Truth.{accepted_true}
use Rattle.gp_checker.proofs.laws.accepted_is_true.Goals as goal

pub returns : goal.returns
returns c = accepted_true c.laws.ensures
