use Rattle.std.proofs.Common.{◌∙◌, ap, sym}
use Rattle.gp_resume.specs.Table.{answer_at, told_in}
use Rattle.gp_resume.proofs.Looked.{at_others, at_removed}
use Rattle.gp_resume.proofs.Ordered.{events_ordered}
use Rattle.gp_resume.proofs.answers.Answers.without.Goals as goal

pub returns-clause-here : goal.returns-clause-here
returns-clause-here c =
    ap (λ table. answer_at (told_in table) c.args.ids.now) c.remove.ensures
    ∙ ap (answer_at (told_in _)) (sym c.in_ok-key.ensures.items)
    ∙ at_removed _ events_ordered c.self.inside.table c.in_ok-key.key

pub returns-clause-others : goal.returns-clause-others
returns-clause-others c = λ other apart.
    ap (λ table. answer_at (told_in table) other) c.remove.ensures
    ∙ at_others _ events_ordered c.self.inside.table c.in_ok-key.key other (λ same. apart (sym c.in_ok-key.ensures.items ∙ same))
    ∙ ap (λ answers. answer_at answers other) c.self.view_is
