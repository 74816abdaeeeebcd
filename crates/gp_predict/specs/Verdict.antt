-- The answer of task check: whether a report is accepted, and what is true where it is.
use Rattle.std.specs.Prelude.{ℕ, ◌≡◌, ◌++◌, List, length, codes, decimal}
use Rattle.gp_checker.specs.declared.failure.Checked.{Checked}
use Rattle.gp_checker.specs.declared.failure.Checked.TheVariants.{Accepted, Rejected}
use Rattle.gp_checker.specs.declared.failure.Failure.{Failure}
use Rattle.gp_checker.specs.Checked.{IsChecked}
use Rattle.gp_checker.specs.Reasons.{number_of}
use Rattle.gp_checker.specs.Sound.{AnswersAreTrue}
use Rattle.gp_report.specs.Entries.{entries_of}
use Rattle.gp_report.specs.ReportForm.{ReportForm}
use Rattle.gp_predict.specs.declared.reply.Reply.{Reply}
use Rattle.gp_predict.specs.declared.submission.Submission.{Submission}
use Rattle.gp_predict.specs.Refusal.{one_line}

-- a report of so many instances is accepted
abbrev pub accepted : ℕ → Reply
accepted count = one_line 0 (codes "accepted " ++ decimal count)

-- a text, and after a space a number
abbrev pub then_number : List ℕ → ℕ → List ℕ
then_number text number = (text ++ codes " ") ++ decimal number

-- a report is rejected: its window, property and instance, the number of the reason, and the place
abbrev pub rejected : Failure → Reply
rejected failure =
    let instance = then_number (then_number (then_number (codes "rejected") failure.window) failure.property) failure.instance in
    one_line 1 (then_number (then_number instance (number_of failure.reason)) failure.place)

-- what is told of a report that was checked so
abbrev pub verdict_on : ReportForm → Checked → Reply
verdict_on report Accepted = accepted (length (entries_of report.windows))
verdict_on report (Rejected failure) = rejected failure

-- the report was checked so; where it is accepted, each of its answers is true
pub record IsVerdict (submission : Submission) (checked : Checked) : Type 0 where
  pub checks : IsChecked submission.listing.recording submission.listing.properties submission.report checked
  pub sound : checked ≡ Accepted → AnswersAreTrue submission.listing.recording submission.listing.properties submission.report
