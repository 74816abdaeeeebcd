use Rattle.std.proofs.Common.{◌≡◌, ap, sym, ◌∙◌, subst, ◌++◌, ℕ, Option}
use Rattle.std.specs.Option.{MatchOption}
use Rattle.std.proofs.lemmas.Result.{IfOk-weaker}
use Rattle.gp_clause.specs.declared.problem.Problem.{Problem}
use Rattle.gp_clause.specs.Problem.{IsValidQuery}
use Rattle.gp_constraint.specs.Base.{base_of}
use Rattle.gp_certificate.specs.Certificate.{clauses_of}
use Rattle.gp_certificate.specs.Shared.{FirstOwnFails, PassesOver, SharedPasses}
use Rattle.gp_certificate.specs.SharedLaws.{shared_within}
use Rattle.gp_checker.specs.Basis.{Basis}
use Rattle.gp_checker.specs.Finds.{FindsStep}
use Rattle.gp_checker.proofs.checker.Checker.first_to_fail.Goals as goal

pub first_to_fail-requires-clause-same : goal.first_to_fail-requires-clause-same
first_to_fail-requires-clause-same c = c.problem-problem.ensures.problem ∙ sym c.self.invariant.base

pub first_to_fail-requires-clause-asked : goal.first_to_fail-requires-clause-asked
first_to_fail-requires-clause-asked c =
    let same : c.problem-problem.result.now ≡ base_of c.args.self.now.window = c.problem-problem.ensures.problem ∙ ap (λ (basis : Basis). base_of basis.window) c.self.view_is in
    subst (λ (p : Problem). IsValidQuery p c.args.query.now) (sym same) c.requires

pub first_to_fail-requires-clause-shared : goal.first_to_fail-requires-clause-shared
first_to_fail-requires-clause-shared c =
    shared_within c.problem-problem.result.now c.args.query.now c.self.inside.shared.now
    (subst (λ (p : Problem). SharedPasses p c.self.inside.shared.now) (sym c.problem-problem.ensures.problem) c.self.invariant.shares)

pub invariant_of-self : goal.invariant_of-self
invariant_of-self c = record {
  encodable = c.self.invariant.encodable;
  base = c.first_to_fail.ensures.same ∙ c.self.invariant.base;
  shares = c.self.invariant.shares;
}

pub returns-clause-first : goal.returns-clause-first
returns-clause-first c =
    let query = c.args.query.now in
    let certificate = c.args.certificate.now in
    let shared = c.self.inside.shared.now in
    let Finds : Problem → Option ℕ → Type 0 = λ problem found.
    MatchOption found (PassesOver problem shared query certificate)
    (FirstOwnFails problem.edges (problem.kinds ++ query.locals) problem.clauses (clauses_of shared) certificate.steps) in
    IfOk-weaker c.first_to_fail.result (Finds c.problem-problem.result.now) (FindsStep c.args.self.now query certificate)
    (λ found finds. subst (λ (basis : Basis). FindsStep basis query certificate found) c.self.view_is
    (subst (λ (problem : Problem). Finds problem found) c.problem-problem.ensures.problem finds)) c.first_to_fail.ensures.first
