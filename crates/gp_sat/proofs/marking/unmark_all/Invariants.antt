use Rattle.std.proofs.Common.{ℕ, ◌<◌, get_or}
use Rattle.gp_sat.specs.Marking.{IsMarked}
use Rattle.gp_sat.proofs.marking.unmark_all.Given as goal

abbrev pub invariant-loop-variable : goal.invariant-loop-variable
invariant-loop-variable l = record {
  gone : (k : ℕ) → k < l.variable-index → IsMarked l.marks (get_or l.variables k 0) → ⊥;
  kept : (v : ℕ) → IsMarked l.marks v → IsMarked l.initial.marks v;
}
