use Rattle.std.proofs.Common.{subst, Option}
use Rattle.std.proofs.lemmas.Option.{MatchOption-at_none}
use Rattle.std.proofs.lemmas.Result.{IfOk-weaker}
use Rattle.gp_clause.specs.declared.problem.Problem.{Problem}
use Rattle.gp_certificate.specs.Shared.{FirstFails, SharedPasses}
use Rattle.gp_report.specs.declared.record.WindowBodyOf.TheVariants.{Answers}
use Rattle.gp_checker.specs.declared.failure.Failure.{Failure}
use Rattle.gp_checker.specs.Basis.{Basis}
use Rattle.gp_deadlock_checker.specs.Finds.{FindsBody, FindsProperties}
use Rattle.gp_deadlock_checker.proofs.Finds.{body_found}
use Rattle.gp_deadlock_checker.proofs.window.check_records.Goals as goal

pub returns-in-Ok-None : goal.returns-in-Ok-None
returns-in-Ok-None c =
    let records = c.args.records.now in
    let shared = c.args.shared.now in
    let problem : Problem = c.problem-2.result.now in
    let basis : Basis = record { window = c.args.encoded.now; budget = c.args.budget; shared = c.args.shared.now } in
    let passes = MatchOption-at_none (SharedPasses problem shared) (FirstFails problem shared) c.in-Ok-None.field-0-is c.in-Ok-None.ensures.first in
    let shares = subst (λ (base : Problem). SharedPasses base c.args.shared.now) c.problem-2.ensures.problem passes in
    IfOk-weaker c.check_properties-found.result (FindsProperties c.new-checker.result records) (FindsBody basis (Answers records))
    (λ (found : Option Failure) finds. body_found basis records shares found (subst (λ (own : Basis). FindsProperties own records found) c.new-checker.ensures finds)) c.check_properties-found.ensures.found
