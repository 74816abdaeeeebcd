-- The same is asked, said of properties.
use Rattle.std.proofs.Common.{◌∙◌, ap}
use Rattle.gp_property.specs.PropertyForm.{PropertyForm}
use Rattle.std.specs.Prelude.{List}
use Rattle.gp_analysis.specs.Tickets as ticket
use Rattle.gp_patterns.specs.Question.{patterns}
use Rattle.gp_patterns.proofs.Same.{much_same}
use Rattle.gp_patterns.proofs.analysing.too_much.Goals as goal

pub returns : goal.returns
returns g c =
    c.in_ok-asked.ensures ∙ ap (λ (ps : List PropertyForm). ticket.too_much (patterns ps) c.args.recording.now c.args.budget) c.of-question.ensures
    ∙ much_same c.args.recording.now c.args.properties.now c.args.budget
