use Rattle.gp_derivation.proofs.Staying.{spent_stays}
use Rattle.gp_derivation.proofs.record.spent_stays.Goals as goal

pub returns : goal.returns
returns c = spent_stays
