use Rattle.std.proofs.Common.{◌≡◌, ◌++◌, drop}
use Rattle.gp_clause.specs.Lit.{negations}
use Rattle.gp_reason.proofs.cycles.negations.Given as goal

abbrev pub invariant-loop-lit : goal.invariant-loop-lit
invariant-loop-lit l = l.negated ++ negations (drop l.lit-index l.lits) ≡ negations l.lits
