use Rattle.std.proofs.Common.{ℕ, Option, [], ◌++◌}
use Rattle.std.specs.Option.{MatchOption}
use Rattle.std.proofs.lemmas.Result.{IfOk-weaker}
use Rattle.gp_certificate.specs.Shared.{FirstFails, FirstOwnFails, OwnStepsPass, SharedPasses}
use Rattle.gp_certificate.proofs.Owning.{shared_first}
use Rattle.gp_certificate.proofs.judge.Judge.first_shared_to_fail.Goals as goal

pub returns-clause-first : goal.returns-clause-first
returns-clause-first c =
    let problem = c.args.problem.now in
    let steps = c.args.shared.now in
    IfOk-weaker c.first_of.result
    (λ (first : Option ℕ). MatchOption first (OwnStepsPass problem.edges (problem.kinds ++ []) problem.clauses [] [] steps) (FirstOwnFails problem.edges (problem.kinds ++ []) problem.clauses [] steps))
    (λ (first : Option ℕ). MatchOption first (SharedPasses problem steps) (FirstFails problem steps)) (shared_first problem steps) c.first_of.ensures.first
