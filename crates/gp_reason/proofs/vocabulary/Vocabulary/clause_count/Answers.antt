use Rattle.std.proofs.Common.{◌≡◌, ◌∙◌, ap, arith, length}
use Rattle.gp_clause.specs.declared.problem.Problem.{Problem}
use Rattle.gp_constraint.specs.Base.{base_of}
use Rattle.gp_constraint.specs.EncodedLaws.{few_clauses}
use Rattle.gp_window.specs.WindowForm.{WindowForm}
use Rattle.gp_reason.proofs.vocabulary.Vocabulary.clause_count.Goals as goal

pub returns-clause-few : goal.returns-clause-few
returns-clause-few c =
    let window : WindowForm = c.self.inside.encoded.now in
    let size : c.len.result ≡ length (base_of window).clauses = c.len.ensures ∙ ap (λ (p : Problem). length p.clauses) c.problem.ensures.problem in
    omega (arith, size, few_clauses window c.problem.ensures.encodable)
