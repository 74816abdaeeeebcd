-- What the analysis tells, the checker accepts, and so it does the compact form, which answers the same, and what goes on from an old
-- report.
use Rattle.std.specs.Prelude.{ℕ, List}
use Rattle.gp_property.specs.PropertyForm.{PropertyForm}
use Rattle.gp_report.specs.ReportForm.{ReportForm}
use Rattle.gp_window.specs.RecordingForm.{RecordingForm}
use Rattle.gp_checker.specs.Accepted.{IsAccepted}
use Rattle.gp_compact.specs.Compact.{compacted}
use Rattle.gp_patterns.specs.Answered.{IsAnswered}
use Rattle.gp_resumed.specs.Answered.{IsAnswered as IsResumed}

-- a report that answers a recording and its properties is accepted, whatever its format, its workers and its budget
abbrev pub AnsweredIsAccepted : Type 0
AnsweredIsAccepted = (recording : RecordingForm) (properties : List PropertyForm) (count budget : ℕ) (report : ReportForm)
    → IsAnswered recording properties count budget report → IsAccepted recording properties report

-- the compact form of a report that answers a recording and its properties answers them too, for as many workers and the
-- same budget
abbrev pub CompactIsAnswered : Type 0
CompactIsAnswered = (recording : RecordingForm) (properties : List PropertyForm) (count budget : ℕ) (report : ReportForm)
    → IsAnswered recording properties count budget report → IsAnswered recording properties count budget (compacted recording report)

-- a report that answers a recording and its properties and keeps what still stands of an old one is accepted, whatever the old one
-- says
abbrev pub ResumedIsAccepted : Type 0
ResumedIsAccepted = (recording : RecordingForm) (properties : List PropertyForm) (old : ReportForm) (count budget : ℕ) (report : ReportForm)
    → IsResumed recording properties old count budget report → IsAccepted recording properties report
