use Rattle.std.proofs.Common.{◌≡◌, take}
use Rattle.gp_sat.specs.Sound.{IsSound}
use Rattle.gp_search.specs.Moves.{raised}
use Rattle.gp_search.proofs.learning.raise_all.Given as goal

abbrev pub invariant-loop-lit : goal.invariant-loop-lit
invariant-loop-lit l = record {
  sound : IsSound l.solver;
  raised : l.solver ≡ record l.initial.solver { order = raised (take l.lit-index l.lits) l.initial.solver.order };
}
