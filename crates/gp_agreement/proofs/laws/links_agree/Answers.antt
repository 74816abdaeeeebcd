use Rattle.gp_agreement.proofs.Links.{links_agree}
use Rattle.gp_agreement.proofs.laws.links_agree.Goals as goal

pub returns : goal.returns
returns c = links_agree
