use Rattle.std.proofs.Common.{◌∙◌, ap, length}
use Rattle.gp_clause.specs.declared.problem.Problem.{Problem}
use Rattle.gp_constraint.specs.Base.{clauses_of, first_names}
use Rattle.gp_constraint.proofs.extending.count_of.Goals as goal
use Rattle.gp_constraint.specs.EncodedLaws.{numbered_size}

pub returns : goal.returns
returns c =
    c.len.ensures ∙ ap (λ (problem : Problem). length problem.clauses) c.problem.ensures.problem
    ∙ numbered_size (first_names c.args.encoded.now) (clauses_of c.args.encoded.now)
