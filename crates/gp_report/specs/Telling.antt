-- Which texts tell which report, and that exactly these are read as it.
use Rattle.std.specs.Prelude.{◌≡◌, ◌↔◌, ℕ, List, [], map, All, Ok}
use Rattle.gp_clause.specs.Clause.{IsRising}
use Rattle.gp_certificate.specs.declared.step.Step.{Step}
use Rattle.gp_text.specs.declared.line.Line.{Line}
use Rattle.gp_text.specs.Lines.{lines_of}
use Rattle.gp_text.specs.Spelling.{spelling}
use Rattle.gp_report.specs.Records.{Answer, WindowRecord}
use Rattle.gp_report.specs.declared.record.AnswerOf.TheVariants.{Impossible}
use Rattle.gp_report.specs.Entries.{entries_of}
use Rattle.gp_report.specs.Printed.{report_lines}
use Rattle.gp_report.specs.Reading.{report_of}
use Rattle.gp_report.specs.Report.{IsReport}
use Rattle.gp_report.specs.ReportForm.{ReportForm}
use Rattle.gp_report.specs.Typed.{IsTyped}

-- the variables of a step's literals rise, as in every clause
abbrev pub HasClause : Step → Type 0
HasClause step = IsRising step.clause

-- so they do in each step of an answer
abbrev pub HasClauses : Answer → Type 0
HasClauses (Impossible certificate) = All HasClause certificate.steps
HasClauses _ = Unit {0}

-- and in each step of these windows
pub record AreClauses (windows : List WindowRecord) : Type 0 where
  pub shared : All (λ window. All HasClause window.shared) windows
  pub answers : All (λ entry. HasClauses entry.answer) (entries_of windows)

-- a report that a text can tell, of parts that fit their types
pub record IsWhole (report : ReportForm) : Type 0 where
  pub told : IsReport report
  pub typed : IsTyped report
  pub clauses : AreClauses report.windows

-- a window without its workers' records
abbrev pub window_without_records : WindowRecord → WindowRecord
window_without_records window = record window { records = [] }

-- a report without its workers' records
abbrev pub without_records : ReportForm → ReportForm
without_records report = record report { windows = map window_without_records report.windows }

-- a text tells a report without records: its lines have the words of the report's lines
pub record Tells (bytes : List ℕ) (report : ReportForm) : Type 0 where
  pub lines : List Line
  pub text : lines_of bytes ≡ Ok lines
  pub words : map (λ line. line.words) lines ≡ report_lines report
  pub whole : IsWhole report
  pub bare : without_records report ≡ report

-- a text is read as a report exactly where it tells it
abbrev pub ReadsExactly : Type 0
ReadsExactly = (bytes : List ℕ) (report : ReportForm) → (report_of bytes ≡ Ok report) ↔ Tells bytes report

-- a report's text is read as the report without its records, so that two reports of one text differ at most in these
pub record ReportsReadAgain : Type 0 where
  pub again : (report : ReportForm) → IsWhole report → report_of (spelling (report_lines report)) ≡ Ok (without_records report)
  pub same : (report other : ReportForm) → IsWhole report → IsWhole other → spelling (report_lines report) ≡ spelling (report_lines other) → without_records report ≡ without_records other
