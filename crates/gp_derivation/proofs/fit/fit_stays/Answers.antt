use Rattle.gp_derivation.proofs.Staying.{fit_stays}
use Rattle.gp_derivation.proofs.fit.fit_stays.Goals as goal

pub returns : goal.returns
returns c = fit_stays
