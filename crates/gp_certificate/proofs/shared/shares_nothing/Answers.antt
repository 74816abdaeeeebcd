use Rattle.gp_certificate.proofs.Sharing.{sharing_nothing}
use Rattle.gp_certificate.proofs.shared.shares_nothing.Goals as goal

pub returns : goal.returns
returns c = sharing_nothing
