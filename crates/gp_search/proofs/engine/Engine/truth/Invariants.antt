use Rattle.gp_search.specs.Moves.{IsTruthOf}
use Rattle.gp_search.proofs.engine.Engine.truth.Given as goal

abbrev pub invariant-loop-variable : goal.invariant-loop-variable
invariant-loop-variable l = IsTruthOf l.self.solver l.variable l.truth.items
