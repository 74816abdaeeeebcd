use Rattle.gp_link.proofs.Due.{valid_due}
use Rattle.gp_link.proofs.problem.link_problem.Goals as goal

pub returns-clause-due : goal.returns-clause-due
returns-clause-due c = c.linked.ensures

pub returns-clause-valid : goal.returns-clause-valid
returns-clause-valid c = valid_due c.extensions_mean.ensures c.args.encoded c.args.next.now c.linked.result c.window.ensures.encodable c.linked.ensures
