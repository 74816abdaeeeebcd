use Rattle.std.proofs.Common.{◌-◌, length}
use Rattle.gp_search.specs.Inside.{IsTurning}
use Rattle.gp_search.specs.Moves.{MovesGraph}
use Rattle.gp_search.proofs.engine.Engine.assert_all.Given as goal

abbrev pub invariant-loop-self : goal.invariant-loop-self
invariant-loop-self l = record {
  turning : IsTurning l.asked.problem.now l.asked.query.now l.self;
  moves : MovesGraph l.fn.self l.self;
}

abbrev pub decreases-loop-self : goal.decreases-loop-self
decreases-loop-self l = length l.self.solver.trail - l.self.asserted
