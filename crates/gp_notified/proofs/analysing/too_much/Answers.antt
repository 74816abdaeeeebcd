-- The same is asked, said of properties.
use Rattle.std.proofs.Common.{◌∙◌, ap, List}
use Rattle.gp_property.specs.PropertyForm.{PropertyForm}
use Rattle.gp_analysis.specs.Tickets.{too_much}
use Rattle.gp_notified.specs.Question.{notified}
use Rattle.gp_notified.proofs.analysing.too_much.Goals as goal

pub returns : goal.returns
returns g c = c.in_ok-asked.ensures ∙ ap (λ (ps : List PropertyForm). too_much (notified ps) c.args.recording.now c.args.budget) c.of-question.ensures
