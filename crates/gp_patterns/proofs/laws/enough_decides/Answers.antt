use Rattle.gp_patterns.proofs.Enough.{enough_decides_lem}
use Rattle.gp_patterns.proofs.laws.enough_decides.Goals as goal

pub returns : goal.returns
returns c = enough_decides_lem
