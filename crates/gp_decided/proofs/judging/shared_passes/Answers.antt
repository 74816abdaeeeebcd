use Rattle.std.proofs.lemmas.Option.{MatchOption-at_none, MatchOption-at_some}
use Rattle.gp_certificate.specs.Shared.{FirstFails, SharedPasses}
use Rattle.gp_decided.proofs.Told.{told_fail, told_pass}
use Rattle.gp_decided.proofs.judging.shared_passes.Goals as goal

pub returns-in-None-clause-passes : goal.returns-in-None-clause-passes
returns-in-None-clause-passes c =
    let problem = c.args.problem.now in
    let shared = c.args.shared.now in
    told_pass problem shared (MatchOption-at_none (SharedPasses problem shared) (FirstFails problem shared) c.in-None.is c.in_ok-first_shared_to_fail.ensures.first)

pub returns-in-Some-clause-passes : goal.returns-in-Some-clause-passes
returns-in-Some-clause-passes c =
    let problem = c.args.problem.now in
    let shared = c.args.shared.now in
    told_fail problem shared c.in-Some._place (MatchOption-at_some (SharedPasses problem shared) (FirstFails problem shared) c.in-Some._place c.in-Some.is c.in_ok-first_shared_to_fail.ensures.first)
