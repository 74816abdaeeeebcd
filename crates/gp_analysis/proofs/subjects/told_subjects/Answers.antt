-- The certificates of the answers can be made.
use Rattle.std.proofs.Common.{◌≡◌, ◌∙◌, sym, ap, subst, ℕ, length}
use Rattle.std.specs.List.{AllByRecursion}
use Rattle.gp_clause.specs.declared.problem.Problem.{Problem}
use Rattle.gp_analysis.specs.Certificates.{CanBeMade}
use Rattle.gp_analysis.specs.Listed.{queries_from}
use Rattle.gp_analysis.proofs.FirstWalk.{all_can_be_made}
use Rattle.gp_analysis.proofs.subjects.told_subjects.Goals as goal

pub moved_as-requires-clause-answers : goal.moved_as-requires-clause-answers
moved_as-requires-clause-answers g c =
    let task = c.args.task.now in
    let question = g.Q.Question.form task.question.now in
    let window = g.Q.Question.window_in c.args.encoded.now in
    let sizes : c.len-clauses.result ≡ length (question.problem window).clauses = c.len-clauses.ensures ∙ ap (λ (p : Problem). length p.clauses) c.problem.ensures in
    let each = all_can_be_made (question.problem window) task.budget c.args.records.now 0 (queries_from question window 0 question.subjects) c.args.answers c.requires.answers in
    subst (AllByRecursion (CanBeMade c.len-clauses.result c.args.records.now)) (sym c.as_slice-2.ensures)
    (subst (λ (n : ℕ). AllByRecursion (CanBeMade n c.args.records.now) c.args.answers) (sym sizes) each)
