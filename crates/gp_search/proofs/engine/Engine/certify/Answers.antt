use Rattle.gp_search.proofs.Refuting.{refutes_by_cone}
use Rattle.gp_search.proofs.engine.Engine.certify.Goals as goal

pub returns : goal.returns
returns c = refutes_by_cone c.cone_is_there.ensures c.cone_checks.ensures c.args.asked.now.problem.now c.args.asked.now.query.now c.args.self.now c.args.last.now c.requires.turning c.requires.passes c.requires.negated
