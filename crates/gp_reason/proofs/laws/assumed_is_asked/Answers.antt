use Rattle.gp_reason.proofs.Assumed.{asked}
use Rattle.gp_reason.proofs.laws.assumed_is_asked.Goals as goal

pub returns : goal.returns
returns c = asked
