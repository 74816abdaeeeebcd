use Rattle.gp_derivation.proofs.Purity.{pures}
use Rattle.gp_derivation.proofs.log.pure_follows.Goals as goal

pub returns : goal.returns
returns c = pures c.passing_follows.ensures c.certificate_follows.ensures
