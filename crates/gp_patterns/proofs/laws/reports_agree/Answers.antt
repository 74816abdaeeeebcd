use Rattle.gp_patterns.proofs.Agreement.{reports_agree_lem}
use Rattle.gp_patterns.proofs.laws.reports_agree.Goals as goal

pub returns : goal.returns
returns c = reports_agree_lem
