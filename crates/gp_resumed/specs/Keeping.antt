-- What a resumed report tells of the instances that are kept: the old answers.
use Rattle.std.specs.Prelude.{ℕ, ◌≡◌, List, None, Some, All}
use Rattle.std.specs.List.{AllZip}
use Rattle.gp_property.specs.PropertyForm.{PropertyForm}
use Rattle.gp_report.specs.Records.{Answer, Entry, PropertyRecord, WindowBody, WindowRecord}
use Rattle.gp_report.specs.declared.record.AnswerOf.TheVariants.{Undecided}
use Rattle.gp_report.specs.declared.record.WindowBodyOf.TheVariants.{Answers, TooLarge}
use Rattle.gp_report.specs.Entries.{entries_in}
use Rattle.gp_report.specs.ReportForm.{ReportForm}
use Rattle.gp_window.specs.declared.schedule.EventId.{EventId}
use Rattle.gp_window.specs.RecordingForm.{RecordingForm}
use Rattle.gp_window.specs.WindowForm.{WindowForm}
use Rattle.gp_window.specs.Windows.{all_windows}
use Rattle.gp_resume.specs.Kept.{kept_answer}
use Rattle.gp_resume.specs.Old.{old_answer, old_record}
use Rattle.gp_resumed.specs.Answered.{IsAnswered}

-- an entry of a property tells the answer that is kept to its instance, where there is one
abbrev pub TellsKept : ReportForm → WindowForm → PropertyForm → Entry → Type 0
TellsKept old window property entry = (answer : Answer) → kept_answer old window property entry.events ≡ Some answer → entry.answer ≡ answer

-- so does each entry of the property
abbrev pub PropertyTellsKept : ReportForm → WindowForm → PropertyForm → PropertyRecord → Type 0
PropertyTellsKept old window property told = All (TellsKept old window property) (entries_in told.body)

-- and each of each property of a window, unless the window is too large
abbrev pub BodyTellsKept : List PropertyForm → ReportForm → WindowForm → WindowBody → Type 0
BodyTellsKept properties old window (TooLarge events clauses) = Unit {0}
BodyTellsKept properties old window (Answers records) = AllZip (PropertyTellsKept old window) properties records

-- and each of each window
abbrev pub ReportTellsKept : RecordingForm → List PropertyForm → ReportForm → ReportForm → Type 0
ReportTellsKept recording properties old report =
    AllZip (λ (window : WindowForm) (told : WindowRecord). BodyTellsKept properties old window told.body) (all_windows recording) report.windows

-- a resumed report tells each answer that is kept; an answer that is kept is the old one; and an instance whose old answer is
-- undecided is not kept
pub record OldAnswersAreTold : Type 0 where
  pub told : (recording : RecordingForm) (properties : List PropertyForm) (old : ReportForm) (count budget : ℕ) (report : ReportForm)
      → IsAnswered recording properties old count budget report → ReportTellsKept recording properties old report
  pub same : (old : ReportForm) (window : WindowForm) (property : PropertyForm) (ids : List EventId) (answer : Answer)
      → kept_answer old window property ids ≡ Some answer → old_answer (old_record old window.number) property.name ids ≡ Some answer
  pub decided : (old : ReportForm) (window : WindowForm) (property : PropertyForm) (ids : List EventId) (worker from to : ℕ)
      → old_answer (old_record old window.number) property.name ids ≡ Some (Undecided worker from to) → kept_answer old window property ids ≡ None
