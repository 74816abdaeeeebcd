use Rattle.std.proofs.Common.{◌-◌, length}
use Rattle.gp_search.specs.Inside.{IsTurning}
use Rattle.gp_search.specs.Moves.{MovesNext}
use Rattle.gp_search.proofs.engine.Engine.open_assumption.Given as goal

abbrev pub invariant-loop-self : goal.invariant-loop-self
invariant-loop-self l = record {
  turning : IsTurning l.asked.problem.now l.asked.query.now l.self;
  same : MovesNext l.fn.self l.self;
}

abbrev pub decreases-loop-self : goal.decreases-loop-self
decreases-loop-self l = length l.asked.query.now.assumed - l.self.next
