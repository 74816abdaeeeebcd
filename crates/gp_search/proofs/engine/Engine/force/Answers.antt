use Rattle.gp_search.proofs.Trails.{propagated}
use Rattle.gp_search.proofs.engine.Engine.force.Goals as goal

pub returns-clause-turning : goal.returns-clause-turning
returns-clause-turning c =
    propagated c.args.asked.now.problem.now c.args.asked.now.query.now c.args.self.now c.propagate.new.self c.requires c.propagate.ensures.sound c.propagate.ensures.added
