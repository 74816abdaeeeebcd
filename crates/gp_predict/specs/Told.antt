-- What a run tells: its status, its text, and what of it is kept.
use Rattle.std.specs.Prelude.{ℕ, ◌≡◌, ◌≤◌, ◌⊎◌, List, Option, None, Some}
use Rattle.gp_linked.specs.declared.answer.LinkReport.{LinkReport}
use Rattle.gp_notified.specs.declared.report.NotifyReport.{NotifyReport}
use Rattle.gp_report.specs.ReportForm.{ReportForm}
use Rattle.gp_predict.specs.declared.outcome.Outcome.{Outcome}

-- what of a result is kept
pub data Kept : Type 0 where
  Nothing : Kept
  Analysed : ReportForm → Kept
  Linked : LinkReport → Kept
  Stuck : ReportForm → Kept
  Notified : NotifyReport → Kept

-- the report of an analysis that is kept, if one is
abbrev pub report_in : Kept → Option ReportForm
report_in Nothing = None
report_in (Analysed report) = Some report
report_in (Linked links) = None
report_in (Stuck report) = None
report_in (Notified report) = None

-- the links that are kept, if they are
abbrev pub links_in : Kept → Option LinkReport
links_in Nothing = None
links_in (Analysed report) = None
links_in (Linked links) = Some links
links_in (Stuck report) = None
links_in (Notified report) = None

-- the report of deadlocks that is kept, if one is
abbrev pub stuck_in : Kept → Option ReportForm
stuck_in Nothing = None
stuck_in (Analysed report) = None
stuck_in (Linked links) = None
stuck_in (Stuck report) = Some report
stuck_in (Notified report) = None

-- the report of an analysis with signals that is kept, if one is
abbrev pub notified_in : Kept → Option NotifyReport
notified_in Nothing = None
notified_in (Analysed report) = None
notified_in (Linked links) = None
notified_in (Stuck report) = None
notified_in (Notified report) = Some report

-- what is told: a status, a text, and what of it is kept
pub record Told : Type 0 where
  pub status : ℕ
  pub text : List ℕ
  pub kept : Kept

-- how a run ends with this status that keeps this
abbrev pub ends_with : ℕ → Kept → Outcome
ends_with status kept = record {
  status = status;
  report = report_in kept;
  links = links_in kept;
  stuck = stuck_in kept;
  notified = notified_in kept;
}

-- how a run ends that told this whole
abbrev pub ends : Told → Outcome
ends told = ends_with told.status told.kept

-- a status that comes with the whole text
abbrev pub IsDone : ℕ → Type 0
IsDone status = (status ≤ 3) ⊎ (status ≡ 7)
