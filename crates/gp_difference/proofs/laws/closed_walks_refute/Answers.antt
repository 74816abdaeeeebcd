use Rattle.gp_difference.proofs.WalkLemmas.{closed_refutes}
use Rattle.gp_difference.proofs.laws.closed_walks_refute.Goals as goal

pub returns : goal.returns
returns c = closed_refutes
