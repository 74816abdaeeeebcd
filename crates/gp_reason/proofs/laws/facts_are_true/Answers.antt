use Rattle.gp_reason.proofs.Holding.{fact_holds}
use Rattle.gp_reason.proofs.laws.facts_are_true.Goals as goal

pub returns : goal.returns
returns c = λ window t lit within is. fact_holds window t lit.symbol lit.positive within is.0 is.1
