-- What is true of what is shown.
use Rattle.std.specs.Prelude.{◌≡◌, List, ◌++◌, codes, map}
use Rattle.gp_beside.specs.declared.beside.Noted.{Noted}
use Rattle.gp_checker.specs.declared.failure.Checked.{Checked}
use Rattle.gp_checker.specs.Accepted.{IsAccepted}
use Rattle.gp_drawing.specs.Markup.{HasOwnMarkup}
use Rattle.gp_predict.specs.declared.submission.Submission.{Submission}
use Rattle.gp_property.specs.PropertyForm.{PropertyForm}
use Rattle.gp_report.specs.Entries.{entries_of}
use Rattle.gp_report.specs.ReportForm.{ReportForm}
use Rattle.gp_json.specs.Json.{json_text}
use Rattle.gp_view.specs.Answered.{AnsweredForm}
use Rattle.gp_window.specs.RecordingForm.{RecordingForm}
use Rattle.gp_window.specs.Windows.{all_windows}
use Rattle.gp_words.specs.Showing.{ShowForm}
use Rattle.gp_words.specs.declared.showing.Style.TheVariants.{Json, Page, Sarif}
use Rattle.gp_show.specs.Answers.{answers_of}
use Rattle.gp_show.specs.Show.{show_text}
use Rattle.gp_show.specs.Shown.{log_shown, shown_value}

-- nothing of a report that is accepted is lost: its entries are those of the instances that may be shown, in their order
abbrev pub AnswersAreEntries : Type 0
AnswersAreEntries = (recording : RecordingForm) (properties : List PropertyForm) (report : ReportForm) → IsAccepted recording properties report
    → map (λ (answered : AnsweredForm). answered.entry) (answers_of properties (all_windows recording) report.windows) ≡ entries_of report.windows

-- whatever the files hold, each angle bracket that opens in a page opens one of the program's own tags
abbrev pub PagesHaveOwnMarkup : Type 0
PagesHaveOwnMarkup = (command : ShowForm) (submission : Submission) (noted : Noted) (checked : Checked) → command.style ≡ Page
    → HasOwnMarkup (show_text command submission noted checked)

-- what is told as JSON is the text of one value, and a newline
abbrev pub JsonIsOneValue : Type 0
JsonIsOneValue = (command : ShowForm) (submission : Submission) (noted : Noted) (checked : Checked) → command.style ≡ Json
    → show_text command submission noted checked ≡ json_text (shown_value command submission noted checked) ++ codes "\n"

-- what is told as SARIF is the text of one log, and a newline
abbrev pub SarifIsOneLog : Type 0
SarifIsOneLog = (command : ShowForm) (submission : Submission) (noted : Noted) (checked : Checked) → command.style ≡ Sarif
    → show_text command submission noted checked ≡ json_text (log_shown command submission noted checked) ++ codes "\n"
