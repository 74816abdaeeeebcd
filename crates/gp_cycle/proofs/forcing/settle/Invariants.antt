use Rattle.std.proofs.Common.{◌≡◌, ◌-◌, length}
use Rattle.gp_cycle.specs.Forced.{sweeps}
use Rattle.gp_cycle.proofs.forcing.settle.Given as goal

abbrev pub invariant-loop-round : goal.invariant-loop-round
invariant-loop-round l = sweeps (length l.clauses - l._round) l.known l.clauses ≡ sweeps (length l.clauses) l.initial.known l.clauses
