-- What is true of a report that was merged.
use Rattle.std.specs.Prelude.{ℕ, ◌≡◌, List, ◌∷◌, All}
use Rattle.gp_checker.specs.Accepted.{IsAccepted}
use Rattle.gp_cut.specs.Cut.{cut_of}
use Rattle.gp_cut.specs.Laws.{CanBeCut}
use Rattle.gp_property.specs.PropertyForm.{PropertyForm}
use Rattle.gp_report.specs.Report.{IsReport}
use Rattle.gp_window.specs.RecordingForm.{RecordingForm}
use Rattle.gp_merge.specs.declared.merging.PartReport.{PartReport}
use Rattle.gp_merge.specs.Merge.{AreInRow, IsPartReport, merged}

-- the report of a part has this budget, and is accepted for what was cut out for it
pub record IsAcceptedPart (r : RecordingForm) (properties : List PropertyForm) (budget : ℕ) (one : PartReport) : Type 0 where
  pub cut : CanBeCut r one.part.before one.part.count
  pub same_budget : one.report.budget ≡ budget
  pub accepted : IsAccepted (cut_of one.part.before one.part.count r) properties one.report

-- where the report of each part is accepted for that part, the merged one is accepted for the whole recording
abbrev pub MergedIsAccepted : Type 0
MergedIsAccepted = (r : RecordingForm) (properties : List PropertyForm) (format budget : ℕ) (parts : List PartReport)
    → AreInRow 0 parts r.manifest.epochs → All (IsAcceptedPart r properties budget) parts → IsAccepted r properties (merged format budget parts)

-- and where a text can tell the report of each part, one can tell the merged one
abbrev pub MergedIsReport : Type 0
MergedIsReport = (format budget last : ℕ) (first : PartReport) (more : List PartReport)
    → AreInRow 0 (first ∷ more) last → All (IsPartReport format budget) (first ∷ more) → IsReport (merged format budget (first ∷ more))
