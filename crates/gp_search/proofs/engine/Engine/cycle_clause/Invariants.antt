use Rattle.std.proofs.Common.{◌≡◌, map, take}
use Rattle.gp_search.specs.Inside.{false_lit}
use Rattle.gp_search.proofs.engine.Engine.cycle_clause.Given as goal

abbrev pub invariant-loop-tag : goal.invariant-loop-tag
invariant-loop-tag l = l.lits.items ≡ map (false_lit l.self.solver) (take l.tag-index l.self.graph.cycle)
