use Rattle.std.proofs.Common.{◌∙◌, ap, sym}
use Rattle.gp_constraint.specs.Extension.{ExtensionForm}
use Rattle.gp_notify.specs.Calls.{call_at}
use Rattle.gp_notify.proofs.Chosen.{first_of_condition, first_of_none}
use Rattle.gp_notify.proofs.notify_problem.NotifyProblem.first_taken.Goals as goal

pub returns-in-Some : goal.returns-in-Some
returns-in-Some c =
    c.first_taken.ensures
    ∙ first_of_condition c.args.self.now c.args.valuation.now c.args.extension.now.names c.args.w.now c.in-Some.call c.signals_for.result.now
    (ap (λ window. call_at window c.args.w.now.id) (sym c.window.ensures.window) ∙ sym c.call_at.ensures ∙ c.in-Some.is)
    (ap (λ (e : ExtensionForm). e.names) c.requires) c.signals_for.ensures

pub returns-in-None : goal.returns-in-None
returns-in-None c =
    first_of_none c.args.self.now c.args.valuation.now c.args.w.now
    (ap (λ window. call_at window c.args.w.now.id) (sym c.window.ensures.window) ∙ sym c.call_at.ensures ∙ c.in-None.is)
