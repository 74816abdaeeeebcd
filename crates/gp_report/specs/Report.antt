-- Which reports a text can tell.
use Rattle.std.specs.Prelude.{ℕ, ◌≡◌, ◌⊎◌, ◌≤◌, ◌-◌, ◌^◌, List, [], length, map, All}
use Rattle.gp_clause.specs.Clause.{NamesBelow}
use Rattle.gp_certificate.specs.declared.step.Step.{Step}
use Rattle.gp_window.specs.WindowForm.{numbers_from}
use Rattle.gp_report.specs.declared.record.AnswerOf.{AnswerOf}
use Rattle.gp_report.specs.declared.record.EntryOf.{EntryOf}
use Rattle.gp_report.specs.declared.record.PropertyBodyOf.{PropertyBodyOf}
use Rattle.gp_report.specs.declared.record.PropertyRecordOf.{PropertyRecordOf}
use Rattle.gp_report.specs.declared.record.WindowBodyOf.{WindowBodyOf}
use Rattle.gp_report.specs.declared.record.WindowRecordOf.{WindowRecordOf}
use Rattle.gp_report.specs.Records.{WindowRecord}
use Rattle.gp_report.specs.declared.record.AnswerOf.TheVariants.{Found, Impossible, Undecided}
use Rattle.gp_report.specs.declared.record.PropertyBodyOf.TheVariants.{TooMany, Entries}
use Rattle.gp_report.specs.declared.record.WindowBodyOf.TheVariants.{TooLarge, Answers}
use Rattle.gp_report.specs.ReportForm.{ReportForm}

-- a step whose literals can be printed: variable n is printed as n + 1, up to 2^31 - 1
abbrev pub IsPrintableStep : Step → Type 0
IsPrintableStep step = NamesBelow (2 ^ 31 - 1) step.clause

-- steps that can be printed; an undecided answer names one of the workers; of what is shown nothing is wanted
abbrev pub IsPrintableAnswer : {Shown : Type 0} → AnswerOf Shown → Type 0
IsPrintableAnswer (Found schedule) = Unit {0}
IsPrintableAnswer (Impossible certificate) = All IsPrintableStep certificate.steps
IsPrintableAnswer (Undecided worker from to) = (1 ≤ worker) × (worker ≤ 16)

-- an entry has 1 to 6 events, and an answer that can be printed
pub record IsEntry {Shown : Type 0} (entry : EntryOf Shown) : Type 0 where
  pub some : 1 ≤ length entry.events
  pub few : length entry.events ≤ 6
  pub answer : IsPrintableAnswer entry.answer

-- at most 10,000 entries
abbrev pub IsPropertyBody : {Shown : Type 0} → PropertyBodyOf Shown → Type 0
IsPropertyBody TooMany = Unit {0}
IsPropertyBody (Entries entries) = (length entries ≤ 10000) × All IsEntry entries

-- what is told of a property
abbrev pub IsPropertyRecord : {Shown : Type 0} → PropertyRecordOf Shown → Type 0
IsPropertyRecord property = IsPropertyBody property.body

-- what is told of a window with these shared steps: a window that is too large has none
abbrev pub IsWindowBody : {Shown : Type 0} → List Step → WindowBodyOf Shown → Type 0
IsWindowBody shared (TooLarge events clauses) = shared ≡ []
IsWindowBody shared (Answers properties) = All IsPropertyRecord properties

-- what is told of a window in a report of this format: format 1 has no shared steps
pub record IsWindowRecord {Shown : Type 0} (format : ℕ) (window : WindowRecordOf Shown) : Type 0 where
  pub shared : All IsPrintableStep window.shared
  pub first_format : format ≡ 1 → window.shared ≡ []
  pub body : IsWindowBody window.shared window.body

-- a report that a text can tell: format 1 or 2, a budget from 1 to 1,000,000, windows numbered from 1
pub record IsReport (report : ReportForm) : Type 0 where
  pub format : (report.format ≡ 1) ⊎ (report.format ≡ 2)
  pub budget_some : 1 ≤ report.budget
  pub budget_few : report.budget ≤ 1000000
  pub numbered : map (λ (window : WindowRecord). window.number) report.windows ≡ numbers_from 1 (length report.windows)
  pub windows : All (IsWindowRecord report.format) report.windows
