use Rattle.std.proofs.Common.{subst, sym}
use Rattle.gp_clause.specs.declared.problem.Problem.{Problem}
use Rattle.gp_clause.specs.declared.problem.Query.{Query}
use Rattle.gp_clause.specs.Problem.{IsValidQuery}
use Rattle.gp_constraint.specs.Base.{base_of}
use Rattle.gp_cases.proofs.evidence.cycle.refutes.Goals as goal

pub check_certificate-passes-requires-clause-asked : goal.check_certificate-passes-requires-clause-asked
check_certificate-passes-requires-clause-asked c =
    subst (λ (p : Problem). IsValidQuery p c.in_ok-query.query) (sym c.problem-problem.ensures.problem)
    (subst (λ (q : Query). IsValidQuery (base_of c.args.encoded.now) q) (sym c.in_ok-query.ensures)
    (c.stuck_queries_are_valid.ensures c.args.encoded.now c.args.cycle.now.events c.requires))
