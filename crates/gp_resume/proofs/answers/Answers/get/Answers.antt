use Rattle.std.proofs.Common.{◌∙◌, ap, Bor, option_map}
use Rattle.gp_report.specs.Records.{Answer}
use Rattle.gp_resume.specs.Table.{answer_at, told_in}
use Rattle.gp_resume.proofs.Looked.{at_key}
use Rattle.gp_resume.proofs.Ordered.{events_ordered}
use Rattle.gp_resume.proofs.answers.Answers.get.Goals as goal

pub returns : goal.returns
returns c =
    ap (option_map (λ (answer : Bor Answer). answer.now)) (c.copied.ensures ∙ c.get.ensures)
    ∙ at_key _ events_ordered c.self.inside.table c.in_ok-key.key
    ∙ ap (answer_at (told_in c.self.inside.table)) c.in_ok-key.ensures.items
    ∙ ap (λ answers. answer_at answers c.args.ids.now) c.self.view_is
