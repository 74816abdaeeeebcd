-- What checking said of a report, as the verdict on it.
use Rattle.std.proofs.Common.{subst}
use Rattle.std.specs.Prelude.{Result, Ok, Err, IfOk}
use Rattle.std.specs.List.{AllByRecursion}
use Rattle.gp_checker.specs.declared.failure.Checked.{Checked}
use Rattle.gp_checker.specs.Checked.{IsChecked}
use Rattle.gp_checker.specs.Sound.{AcceptedIsTrue}
use Rattle.gp_property.specs.Property.{IsProperty}
use Rattle.gp_window.specs.RecordingForm.{IsRecording}
use Rattle.gp_predict.specs.declared.submission.Submission.{Submission}
use Rattle.gp_predict.specs.Verdict.{IsVerdict}

-- what checking says is the verdict
pub is_verdict : {E : Type 0} → AcceptedIsTrue → (submission : Submission) → IsRecording submission.listing.recording
    → AllByRecursion IsProperty submission.listing.properties → (result : Result Checked E)
    → IfOk result (IsChecked submission.listing.recording submission.listing.properties submission.report) → IfOk result (IsVerdict submission)
is_verdict law submission recording properties (Ok checked) says = record {
  checks = says;
  sound = λ is. law submission.listing.recording submission.listing.properties submission.report recording properties
      (subst (IsChecked submission.listing.recording submission.listing.properties submission.report) is says);
}
is_verdict law submission recording properties (Err fault) says = tt
