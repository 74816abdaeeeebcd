-- What is accepted is true.
use Rattle.std.proofs.Common.{List, subst}
use Rattle.std.specs.Prelude.{IfOk}
use Rattle.gp_checker.specs.Checked.{IsChecked}
use Rattle.gp_property.specs.PropertyForm.{PropertyForm}
use Rattle.gp_predict.proofs.Judged.{is_verdict}
use Rattle.gp_predict.proofs.verdict.checked_report.Goals as goal

pub returns : goal.returns
returns c =
    is_verdict c.accepted_is_true.ensures c.args.submission.now c.keeps_rules.ensures c.requires.valid c.check_report.result
    (subst (λ (properties : List PropertyForm). IfOk c.check_report.result (IsChecked c.args.submission.now.listing.recording properties c.args.submission.now.report)) c.as_slice.ensures c.check_report.ensures)
