-- The variables of a shared list that passes.
use Rattle.std.proofs.Common.{◌+◌, ◌<◌, List, length, get_or, All, arith}
use Rattle.std.proofs.lemmas.List.Elements.{All-weaker}
use Rattle.gp_clause.specs.declared.problem.Problem.{Problem}
use Rattle.gp_clause.specs.declared.problem.Query.{Query}
use Rattle.gp_clause.specs.Clause.{NamesBelow}
use Rattle.gp_certificate.specs.declared.step.Step.{Step}
use Rattle.gp_certificate.specs.Certificate.{clauses_of}
use Rattle.gp_certificate.specs.CheckingLaws.{steps_within}
use Rattle.gp_certificate.specs.Shared.{SharedPasses}

-- the clauses of a shared list that passes have variables of the problem alone, and so of the problem and any query
pub shared_within : (problem : Problem) (query : Query) (steps : List Step) → SharedPasses problem steps → All (NamesBelow (length problem.kinds + length query.locals)) (clauses_of steps)
shared_within problem query steps passes =
    All-weaker (NamesBelow (length problem.kinds)) (NamesBelow (length problem.kinds + length query.locals))
    (λ clause below k d within. let first : (get_or clause k d).variable < length problem.kinds = below k d within in omega (arith, first))
    (clauses_of steps) (steps_within problem.edges problem.kinds (λ cs. cs) (λ cs. cs) problem.clauses steps passes)
