use Rattle.std.proofs.Common.{take}
use Rattle.gp_clause.specs.Clause.{HoldsAll}
use Rattle.gp_clause.specs.Valuation.{truth_of}
use Rattle.gp_cases.proofs.encodings.executing.all_hold.Given as goal

abbrev pub invariant-loop-clause : goal.invariant-loop-clause
invariant-loop-clause l = HoldsAll (truth_of l.valuation) (take l.clause-index l.clauses)
