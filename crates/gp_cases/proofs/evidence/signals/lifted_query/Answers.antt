use Rattle.std.proofs.Common.{◌∙◌, ap}
use Rattle.gp_window.specs.WindowForm.{WindowForm}
use Rattle.gp_clause.specs.declared.problem.Query.{Query}
use Rattle.gp_constraint.specs.Query.{query_of}
use Rattle.gp_notify.specs.Extended.{lift}
use Rattle.gp_cases.proofs.evidence.signals.lifted_query.Goals as goal

pub returns : goal.returns
returns c =
    let window = c.args.extended.now in
    let asked = c.in_ok-asked.ensures ∙ ap (λ (w : WindowForm). query_of w c.args.property.now c.args.instance.now.events) c.encoded.ensures in
    c.in_ok-lifted.ensures ∙ ap (λ (query : Query). lift window query) asked
