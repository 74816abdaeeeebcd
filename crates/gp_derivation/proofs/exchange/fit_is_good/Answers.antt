use Rattle.gp_derivation.proofs.Exchanging.{fits_good}
use Rattle.gp_derivation.proofs.exchange.fit_is_good.Goals as goal

pub returns : goal.returns
returns c = fits_good
