-- What is recorded of windows shares what is kept of an old report.
use Rattle.std.proofs.Common.{ℕ, List, [], ◌∷◌}
use Rattle.std.specs.List.{AllZip}
use Rattle.gp_property.specs.PropertyForm.{PropertyForm}
use Rattle.gp_report.specs.Records.{WindowRecord}
use Rattle.gp_report.specs.ReportForm.{ReportForm}
use Rattle.gp_window.specs.WindowForm.{WindowForm}
use Rattle.gp_analysis.specs.Recorded.{RecordEach}
use Rattle.gp_resumed.specs.Answered.{SharesKept}
use Rattle.gp_resumed.specs.Question.{resumed}

pub each_shares : (properties : List PropertyForm) (old : ReportForm) (count budget : ℕ) (windows : List WindowForm) (records : List WindowRecord) → RecordEach (resumed properties old) count budget windows records
    → AllZip (SharesKept old) windows records
each_shares properties old count budget [] [] each = tt
each_shares properties old count budget [] (own ∷ records) each = absurd each
each_shares properties old count budget (window ∷ windows) [] each = absurd each
each_shares properties old count budget (window ∷ windows) (own ∷ records) each = (each.0.shared, each_shares properties old count budget windows records each.1)
