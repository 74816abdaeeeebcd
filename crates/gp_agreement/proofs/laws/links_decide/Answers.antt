use Rattle.gp_agreement.proofs.Links.{links_decided}
use Rattle.gp_agreement.proofs.laws.links_decide.Goals as goal

pub returns : goal.returns
returns c = links_decided
