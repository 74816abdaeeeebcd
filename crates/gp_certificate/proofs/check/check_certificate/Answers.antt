use Rattle.std.proofs.Common.{ℕ, ◌+◌, Option, ◌++◌, subst}
use Rattle.std.specs.Option.{MatchOption}
use Rattle.std.proofs.lemmas.Bool.{false≢true}
use Rattle.gp_certificate.specs.Certificate.{clauses_of}
use Rattle.gp_certificate.specs.Shared.{FirstOwnFails, PassesOver}
use Rattle.gp_certificate.proofs.Owning.{passed_first}
use Rattle.gp_certificate.proofs.check.check_certificate.Goals as goal

pub returns-in-Some : goal.returns-in-Some
returns-in-Some c =
    let problem = c.args.problem.now in
    let kinds = problem.kinds ++ c.args.query.now.locals in
    let shared = clauses_of c.args.shared.now in
    let steps = c.args.certificate.now.steps in
    let Q : ℕ → Type 0 = FirstOwnFails problem.edges kinds problem.clauses shared steps in
    let M : Option ℕ → Type 0 = λ o. MatchOption o (PassesOver problem c.args.shared.now c.args.query.now c.args.certificate.now) Q in
    let fails : Q c.in-Some.field-0 = subst M c.in-Some.is c.in_ok-first.ensures.first in (
      λ told. absurd (false≢true told),
      λ passed. absurd (fails.fails (passed_first problem.edges kinds problem.clauses shared steps (c.in-Some.field-0 + 1) passed)),
    )
