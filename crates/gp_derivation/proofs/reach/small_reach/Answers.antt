use Rattle.gp_derivation.proofs.Narrowing.{none_at_once}
use Rattle.gp_derivation.proofs.reach.small_reach.Goals as goal

pub returns-in-None : goal.returns-in-None
returns-in-None c = none_at_once c.args.problem.now c.args.log.now c.args.last.now c.len.result c.whole.result c.len.ensures c.whole.ensures c.in-None.ensures
