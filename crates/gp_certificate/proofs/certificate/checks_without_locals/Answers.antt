use Rattle.std.proofs.Common.{[]}
use Rattle.gp_certificate.specs.CheckingLaws.{check_bare}
use Rattle.gp_certificate.proofs.certificate.checks_without_locals.Goals as goal

pub returns : goal.returns
returns c = λ problem query certificate valid checks below. check_bare problem query.locals [] problem.clauses certificate.steps valid.clauses below checks
