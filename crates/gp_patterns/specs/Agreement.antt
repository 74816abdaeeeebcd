-- Two reports that answer the same properties of the same recording never contradict each other.
use Rattle.std.specs.Prelude.{ℕ, ◌≡◌, List}
use Rattle.std.specs.List.{AllZip}
use Rattle.gp_property.specs.PropertyForm.{PropertyForm}
use Rattle.gp_report.specs.Records.{Answer, Entry, PropertyBody, PropertyRecord, WindowBody, WindowRecord}
use Rattle.gp_report.specs.declared.record.AnswerOf.TheVariants.{Found, Impossible}
use Rattle.gp_report.specs.declared.record.PropertyBodyOf.TheVariants.{TooMany, Entries}
use Rattle.gp_report.specs.declared.record.WindowBodyOf.TheVariants.{TooLarge, Answers}
use Rattle.gp_report.specs.ReportForm.{ReportForm}
use Rattle.gp_window.specs.RecordingForm.{RecordingForm}
use Rattle.gp_patterns.specs.Answered.{IsAnswered}

-- two answers contradict each other where one is found and the other impossible
abbrev pub Contradict : Answer → Answer → Type 0
Contradict (Found schedule) (Impossible certificate) = Unit {0}
Contradict (Impossible certificate) (Found schedule) = Unit {0}
Contradict _ _ = ⊥

-- two entries agree: they are of the same events, and their answers do not contradict each other
pub record EntriesAgree (one other : Entry) : Type 0 where
  pub events : one.events ≡ other.events
  pub answers : Contradict one.answer other.answer → ⊥

-- what is recorded of a property agrees: both times there are too many instances, or the entries agree one by one
abbrev pub BodiesAgree : PropertyBody → PropertyBody → Type 0
BodiesAgree TooMany TooMany = Unit {0}
BodiesAgree (Entries one) (Entries other) = AllZip EntriesAgree one other
BodiesAgree _ _ = ⊥

-- two records of a property agree: they have the same name, and what they tell agrees
pub record PropertiesAgree (one other : PropertyRecord) : Type 0 where
  pub name : one.name ≡ other.name
  pub body : BodiesAgree one.body other.body

-- what is recorded of a window agrees: both times it is too large by the same two numbers, or the records of its properties
-- agree one by one
abbrev pub WindowsAgree : WindowBody → WindowBody → Type 0
WindowsAgree (TooLarge events clauses) (TooLarge more_events more_clauses) = (events ≡ more_events) × (clauses ≡ more_clauses)
WindowsAgree (Answers one) (Answers other) = AllZip PropertiesAgree one other
WindowsAgree _ _ = ⊥

-- two reports agree: what they tell of each window agrees
abbrev pub Agree : ReportForm → ReportForm → Type 0
Agree one other = AllZip (λ (told : WindowRecord) (again : WindowRecord). WindowsAgree told.body again.body) one.windows other.windows

-- two reports that answer one recording and the same properties agree, whatever their workers and their budgets
abbrev pub ReportsAgree : Type 0
ReportsAgree = (recording : RecordingForm) (properties : List PropertyForm) (count more budget larger : ℕ) (one other : ReportForm)
    → IsAnswered recording properties count budget one → IsAnswered recording properties more larger other → Agree one other
