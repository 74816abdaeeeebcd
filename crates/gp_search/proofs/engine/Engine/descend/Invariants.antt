use Rattle.std.proofs.Common.{◌-◌, length}
use Rattle.gp_search.specs.Inside.{IsTurning}
use Rattle.gp_search.specs.Moves.{KeepsLog}
use Rattle.gp_search.proofs.engine.Engine.descend.Given as goal

abbrev pub invariant-loop-conflict : goal.invariant-loop-conflict
invariant-loop-conflict l = record {
  turning : IsTurning l.asked.problem.now l.asked.query.now l.self;
  same : KeepsLog l.fn.self l.self;
}

abbrev pub decreases-loop-conflict : goal.decreases-loop-conflict
decreases-loop-conflict l = length l.self.solver.values - length l.self.solver.trail
