use Rattle.gp_reason.proofs.Enough.{enough}
use Rattle.gp_reason.proofs.laws.reasons_are_enough.Goals as goal

pub returns : goal.returns
returns c = enough c.more_passes.ensures
