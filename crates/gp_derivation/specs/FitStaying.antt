-- What is fit to share stays so when a log grows.
use Rattle.std.specs.Prelude.{ℕ, ◌≡◌, ◌↔◌, List, ◌++◌, Some, length, slice_get}
use Rattle.gp_clause.specs.declared.problem.Problem.{Problem}
use Rattle.gp_derivation.specs.declared.log.LogEntry.{LogEntry}
use Rattle.gp_derivation.specs.Fit.{IsFit}
use Rattle.gp_derivation.specs.Numbering.{AllNameEarlier}

-- in a log whose entries name what comes before them, an entry is as fit to share when the log grows at its end
abbrev pub FitStays : Type 0
FitStays = (problem : Problem) (log more : List LogEntry) → AllNameEarlier (length problem.clauses) log
    → (place : ℕ) (entry : LogEntry) → slice_get log place ≡ Some entry → IsFit problem log entry ↔ IsFit problem (log ++ more) entry
