use Rattle.std.proofs.Common.{◌≡◌, ◌∙◌, ap, subst, sym}
use Rattle.gp_clause.specs.Problem.{IsValidProblem}
use Rattle.gp_window.specs.WindowForm.{WindowForm}
use Rattle.gp_constraint.specs.Extension.{extension_of, ExtensionForm}
use Rattle.gp_notify.specs.Extended.{extended_of}
use Rattle.gp_notify.specs.NotifyProblem.{IsKept}
use Rattle.gp_notify.specs.Signals.{signals_of}
use Rattle.gp_notify.proofs.Fit.{signals_fit}
use Rattle.gp_notify.proofs.Kept.{same_problem}
use Rattle.gp_notify.proofs.notify_problem.NotifyProblem.problem.Goals as goal

pub returns-in-Some-clause-valid : goal.returns-in-Some-clause-valid
returns-in-Some-clause-valid c =
    let window : WindowForm = c.self.inside.encoded in
    let is = c.self.invariant in
    let kept : c.in-Some.extension ≡ extension_of window (signals_of window) = subst (IsKept window) c.in-Some.is is.kept in
    let same : c.problem.result.now ≡ extended_of window = c.problem.ensures ∙ ap (λ (extension : ExtensionForm). extension.problem) kept in
    subst IsValidProblem (sym same)
    (c.extensions_mean.ensures.valid window (signals_of window) is.encodable.points is.fits (signals_fit window is.encodable.points))

pub returns-in-None-clause-problem : goal.returns-in-None-clause-problem
returns-in-None-clause-problem c =
    let window : WindowForm = c.self.inside.encoded in
    c.problem-in-None.ensures.problem ∙ same_problem window (subst (IsKept window) c.in-None.is c.self.invariant.kept) ∙ ap extended_of c.self.view_is
