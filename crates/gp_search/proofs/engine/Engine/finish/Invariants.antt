use Rattle.std.proofs.Common.{◌≡◌, length, []}
use Rattle.gp_search.specs.Moves.{IsRetired}
use Rattle.gp_search.proofs.engine.Engine.finish.Given as goal

abbrev pub invariant-loop-place : goal.invariant-loop-place
invariant-loop-place l = record {
  done : IsRetired (length l.asked.problem.now.clauses) l.fn.self.begins l.place l.fn.self.pure.items l.fn.self.solver l.self.solver;
  same : l.self ≡ record l.fn.self { solver = l.self.solver; graph = l.self.graph };
  undone : l.self.graph ≡ record l.fn.self.graph { kept = []; room = l.self.graph.room };
}
