-- What is not too much is within the limit, and then the report of the analysis may be told.
use Rattle.std.proofs.Common.{◌≡◌, ◌∙◌, sym, subst, refl, ℕ, ◌*◌, ◌≤◌, Bool, true, false, nat_lt, List, arith}
use Rattle.std.specs.Prelude.{Option, None, Some, if◌then◌else◌}
use Rattle.std.proofs.lemmas.Bool.Decides.{nat_tests}
use Rattle.gp_analysis.specs.Question.{QuestionForm}
use Rattle.gp_analysis.specs.Tickets.{asked_total, too_much}
use Rattle.gp_notified.specs.declared.report.NotifyReport.{NotifyReport}
use Rattle.gp_notified.specs.Question.{notified}
use Rattle.gp_property.specs.PropertyForm.{PropertyForm}
use Rattle.gp_report.specs.ReportForm.{ReportForm}
use Rattle.gp_resumed.specs.Question.{resumed}
use Rattle.gp_window.specs.RecordingForm.{RecordingForm}
use Rattle.gp_predict.specs.Analysing.{of_report}
use Rattle.gp_predict.specs.declared.analysing.Asked.{Asked}
use Rattle.gp_predict.specs.declared.listing.Listing.{Listing}
use Rattle.gp_predict.specs.declared.submission.Submission.{Submission}
use Rattle.gp_predict.specs.Notifying.{AnswersNotifying, notifying_form, notifying_of, of_notified}
use Rattle.gp_predict.specs.Refusal.{unless_too_much}
use Rattle.gp_predict.specs.Resuming.{AnswersResumption, resumption_form, resumption_of}
use Rattle.gp_predict.specs.Tasks.{Means, as_notifying, as_resumption, either_expected}

-- what was counted for these properties was counted for those
pub none_asked : (counted : List PropertyForm → Option ℕ) (properties listed : List PropertyForm) (found : Option ℕ) → properties ≡ listed
    → found ≡ counted properties → found ≡ None → counted listed ≡ None
none_asked counted properties listed found same told none =
    subst (λ (ps : List PropertyForm). counted ps ≡ None) same (sym told ∙ none)

within_by : (work total : ℕ) (more : Bool) → nat_lt 1000000 work ≡ more → (if more then Some total else None) ≡ None → work ≤ 1000000
within_by work total true is none = absurd (cc)
within_by work total false is none = grind (arith, nat_tests)

pub within_limit : {Subject Shown : Type 0} (question : QuestionForm Subject Shown) (recording : RecordingForm) (budget : ℕ) → too_much question recording budget ≡ None
    → asked_total question recording * budget ≤ 1000000
within_limit question recording budget none =
    within_by (asked_total question recording * budget) (asked_total question recording) (nat_lt 1000000 (asked_total question recording * budget)) refl none

pub notified_means : (listing : Listing) (asked : Asked) (report : NotifyReport) → too_much (notified listing.properties) listing.recording asked.budget ≡ None
    → AnswersNotifying (notifying_form listing asked) report → Means (either_expected (as_notifying (notifying_of listing asked))) (of_notified report)
notified_means listing asked report none answers =
    subst (λ (counted : Option ℕ). Means (either_expected (as_notifying (unless_too_much (notifying_form listing asked) asked.budget counted))) (of_notified report))
    (sym none) (report, answers, refl)

pub resumed_means : (submission : Submission) (asked : Asked) (report : ReportForm)
    → too_much (resumed submission.listing.properties submission.report) submission.listing.recording asked.budget ≡ None
    → AnswersResumption (resumption_form submission asked) report → Means (either_expected (as_resumption (resumption_of submission asked))) (of_report report)
resumed_means submission asked report none answers =
    subst (λ (counted : Option ℕ). Means (either_expected (as_resumption (unless_too_much (resumption_form submission asked) asked.budget counted))) (of_report report))
    (sym none) (report, answers, refl)
