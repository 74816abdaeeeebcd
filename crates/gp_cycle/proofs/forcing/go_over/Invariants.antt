use Rattle.std.proofs.Common.{◌≡◌, drop}
use Rattle.gp_cycle.specs.Forced.{sweep}
use Rattle.gp_cycle.proofs.forcing.go_over.Given as goal

abbrev pub invariant-loop-clause : goal.invariant-loop-clause
invariant-loop-clause l = sweep l.known (drop l.clause-index l.clauses) ≡ sweep l.initial.known l.clauses
