-- The check of a merged report on the whole recording: it is accepted, or its first failure is told of the part that has the window.
use Rattle.std.specs.Prelude.{ℕ, ◌≡◌, ◌+◌, ◌<◌, ◌≤◌, List, [], ◌∷◌, Some, map, slice_get}
use Rattle.gp_checker.specs.Accepted.{IsAccepted}
use Rattle.gp_checker.specs.Rejected.{IsRejected}
use Rattle.gp_checker.specs.declared.failure.Failure.{Failure}
use Rattle.gp_cut.specs.declared.parting.Part.{Part}
use Rattle.gp_property.specs.PropertyForm.{PropertyForm}
use Rattle.gp_report.specs.ReportForm.{ReportForm}
use Rattle.gp_window.specs.RecordingForm.{RecordingForm}
use Rattle.gp_merge.specs.declared.checking.CheckedMerge.{CheckedMerge}
use Rattle.gp_merge.specs.declared.checking.CheckedMerge.TheVariants.{Accepted, Rejected}
use Rattle.gp_merge.specs.declared.checking.PartFailure.{PartFailure}
use Rattle.gp_merge.specs.declared.merging.PartReport.{PartReport}

-- the parts without their reports
abbrev pub parts_alone : List PartReport → List Part
parts_alone parts = map (λ (one : PartReport). one.part) parts

-- parts follow one another, from behind so many windows up to so many
abbrev pub AreNeighbours : ℕ → List Part → ℕ → Type 0
AreNeighbours before [] last = before ≡ last
AreNeighbours before (part ∷ parts) last = (part.before ≡ before) × AreNeighbours (before + part.count) parts last

-- a part has a window of the recording, which its own report tells under this number, behind the stage
pub record TellsWindow (part : Part) (window number : ℕ) : Type 0 where
  pub behind : part.before < window
  pub within : window ≤ part.before + part.count
  pub counted : part.before + number ≡ window + 1

-- a failure of the whole is told of the part at this place, which has its window, with the number that the window has there
pub record IsOfPart (parts : List Part) (failure : Failure) (told : PartFailure) : Type 0 where
  pub part : Part
  pub there : slice_get parts told.place ≡ Some part
  pub window : TellsWindow part failure.window told.failure.window
  pub same : failure ≡ record told.failure { window = failure.window }

-- what came of a merge with a check: the merged report, which is accepted for the recording, or its first failure, told of its part
abbrev pub IsCheckedMerge : RecordingForm → List PropertyForm → ReportForm → List Part → CheckedMerge → Type 0
IsCheckedMerge r properties whole parts (Accepted report) = (report ≡ whole) × IsAccepted r properties whole
IsCheckedMerge r properties whole parts (Rejected told) =
    (failure : Failure) × IsRejected r properties whole failure × IsOfPart parts failure told
