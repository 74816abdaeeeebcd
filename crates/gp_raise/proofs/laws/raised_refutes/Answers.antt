use Rattle.gp_raise.proofs.StepsRaised.{raising_refutes}
use Rattle.gp_raise.proofs.laws.raised_refutes.Goals as goal

pub returns : goal.returns
returns c = raising_refutes
