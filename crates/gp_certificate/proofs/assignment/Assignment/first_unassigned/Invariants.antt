use Rattle.std.proofs.Common.{◌≢◌, None, take, All}
use Rattle.gp_clause.specs.declared.lit.Lit.{Lit}
use Rattle.gp_certificate.specs.Assignment.{value_of}
use Rattle.gp_certificate.proofs.assignment.Assignment.first_unassigned.Given as goal

abbrev pub invariant-loop-lit : goal.invariant-loop-lit
invariant-loop-lit l = All (λ (lit : Lit). value_of l.self.values.items lit.variable ≢ None) (take l.lit-index l.clause)
