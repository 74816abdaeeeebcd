-- The report in which those steps of a window's certificates that rest on its base alone stand once, in its shared list.
use Rattle.std.specs.Prelude.{◌≡◌, ◌↔◌, List, [], ◌∷◌, Result, Ok, Err, drop}
use Rattle.gp_constraint.specs.declared.fault.BaseFault.{BaseFault}
use Rattle.gp_constraint.specs.Encoded.{base_due}
use Rattle.gp_certificate.specs.declared.step.Step.{Step}
use Rattle.gp_constraint.specs.Base.{base_of}
use Rattle.gp_property.specs.PropertyForm.{PropertyForm}
use Rattle.gp_report.specs.Records.{WindowRecord}
use Rattle.gp_report.specs.ReportForm.{ReportForm}
use Rattle.gp_sharing.specs.declared.sizes.Sizes.{Sizes}
use Rattle.gp_sharing.specs.Compacted.{compacted_by, sizes_in}
use Rattle.gp_window.specs.RecordingForm.{RecordingForm}
use Rattle.gp_window.specs.WindowForm.{WindowForm}
use Rattle.gp_window.specs.Windows.{all_windows}
use Rattle.gp_checker.specs.Accepted.{IsAccepted}

-- by what the steps of a window are numbered that has these shared steps
abbrev pub sizes_of : WindowForm → List Step → Sizes
sizes_of window shared = sizes_in (base_of window) shared

-- a window: nothing moves where it is too large
abbrev pub compacted_over : Result WindowForm BaseFault → WindowRecord → WindowRecord
compacted_over (Ok encoded) told = compacted_by (sizes_of encoded told.shared) told
compacted_over (Err fault) told = told

-- the record of a window
abbrev pub compacted_window : WindowForm → WindowRecord → WindowRecord
compacted_window window told = compacted_over (base_due window) told

-- the record of the next window; one over the epochs stays as it is
abbrev pub compacted_next : List WindowForm → WindowRecord → WindowRecord
compacted_next (window ∷ windows) told = compacted_window window told
compacted_next [] told = told

-- the records of some windows, one by one
abbrev pub compacted_windows : List WindowForm → List WindowRecord → List WindowRecord
compacted_windows windows [] = []
compacted_windows windows (told ∷ more) = compacted_next windows told ∷ compacted_windows (drop 1 windows) more

-- a report in format 2, with the steps moved window by window
abbrev pub compacted : RecordingForm → ReportForm → ReportForm
compacted recording report = record {
  format = 2;
  budget = report.budget;
  windows = compacted_windows (all_windows recording) report.windows;
}

-- a report is the compacted one
abbrev pub IsCompacted : RecordingForm → ReportForm → ReportForm → Type 0
IsCompacted recording report made = made ≡ compacted recording report

-- a compacted report is accepted exactly where the report is of which it was made
abbrev pub CompactKeepsAcceptance : Type 0
CompactKeepsAcceptance =
    (recording : RecordingForm) (properties : List PropertyForm) (report : ReportForm) → IsAccepted recording properties (compacted recording report) ↔ IsAccepted recording properties report
