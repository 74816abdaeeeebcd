use Rattle.std.proofs.Common.{subst, Option}
use Rattle.std.proofs.lemmas.Result.{IfOk-weaker}
use Rattle.gp_clause.specs.declared.problem.Query.{Query}
use Rattle.gp_stuck.specs.StuckQuery.{stuck_query_of}
use Rattle.gp_checker.specs.declared.failure.Failure.{Failure}
use Rattle.gp_checker.specs.Finds.{FindsCertificate}
use Rattle.gp_deadlock_checker.proofs.answer.check_certificate.Goals as goal

pub returns-clause-found : goal.returns-clause-found
returns-clause-found c =
    let basis = c.args.checker.now in
    let certificate = c.args.certificate.now in
    let asked = stuck_query_of basis.window c.args.cycle.now.events in
    IfOk-weaker c.check_steps-found.result (FindsCertificate basis c.in_ok-query.query certificate) (FindsCertificate basis asked certificate)
    (λ (found : Option Failure) finds. subst (λ (query : Query). FindsCertificate basis query certificate found) c.in_ok-query.ensures.asked finds) c.check_steps-found.ensures.found
