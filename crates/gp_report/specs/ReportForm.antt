-- What contracts see of a report.
use Rattle.std.specs.Prelude.{ℕ, List}
use Rattle.gp_report.specs.Records.{WindowRecord}

-- a report: its format, the budget of each query, and what is told of each window
pub record ReportForm : Type 0 where
  pub format : ℕ
  pub budget : ℕ
  pub windows : List WindowRecord
