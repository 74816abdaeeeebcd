use Rattle.std.proofs.Common.{◌++◌, ◌↔◌, IsTrue, subst, List}
use Rattle.std.proofs.lemmas.Option.{MatchOption-at_none, MatchOption-at_some}
use Rattle.gp_certificate.specs.declared.step.Step.{Step}
use Rattle.gp_certificate.specs.Certificate.{clauses_of}
use Rattle.gp_certificate.specs.Shared.{FirstOwnFails, PassesOver}
use Rattle.gp_certificate.specs.SharedLaws.{shared_within}
use Rattle.gp_decided.specs.Refuting.{AreNegations, Ends}
use Rattle.gp_decided.proofs.Told.{told_own_fails, told_refutes}
use Rattle.gp_decided.proofs.judging.refutes_over.Goals as goal

pub first_to_fail-requires-clause-shared : goal.first_to_fail-requires-clause-shared
first_to_fail-requires-clause-shared c = shared_within c.args.problem.now c.args.query.now c.args.shared.now c.requires.shared

pub returns-in-None-clause-refutes : goal.returns-in-None-clause-refutes
returns-in-None-clause-refutes c =
    let problem = c.args.problem.now in
    let shared = c.args.shared.now in
    let query = c.args.query.now in
    let certificate = c.args.certificate.now in
    let fails = FirstOwnFails problem.edges (problem.kinds ++ query.locals) problem.clauses (clauses_of shared) certificate.steps in
    let ends = subst (λ (steps : List Step). IsTrue c.refutes_at_last.result ↔ Ends (AreNegations query) steps) c.as_slice.ensures c.refutes_at_last.ensures in
    told_refutes problem shared query certificate c.refutes_at_last.result c.requires.shared (MatchOption-at_none (PassesOver problem shared query certificate) fails c.in-None.is c.in_ok-first_to_fail.ensures.first) ends

pub returns-in-Some-clause-refutes : goal.returns-in-Some-clause-refutes
returns-in-Some-clause-refutes c =
    let problem = c.args.problem.now in
    let shared = c.args.shared.now in
    let query = c.args.query.now in
    let certificate = c.args.certificate.now in
    let fails = FirstOwnFails problem.edges (problem.kinds ++ query.locals) problem.clauses (clauses_of shared) certificate.steps in
    told_own_fails problem shared query certificate c.in-Some._place (MatchOption-at_some (PassesOver problem shared query certificate) fails c.in-Some._place c.in-Some.is c.in_ok-first_to_fail.ensures.first)
