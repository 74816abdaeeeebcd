-- A failure of a merged report is in a window of the recording, which one of the parts has.
use Rattle.std.proofs.Common.{◌≡◌, ◌∙◌, ap, sym, ℕ, zero, suc, ◌+◌, ◌-◌, ◌<◌, ◌≤◌, List, [], ◌∷◌, length, arith}
use Rattle.std.specs.Prelude.{All, flat_map, slice_get}
use Rattle.std.proofs.lemmas.List.{length-map}
use Rattle.std.proofs.lemmas.List.Elements.{recursion_from_All}
use Rattle.gp_checker.specs.declared.failure.Failure.{Failure}
use Rattle.gp_checker.specs.First.{FailsHere}
use Rattle.gp_checker.specs.Rejected.{IsRejected}
use Rattle.gp_cut.specs.declared.parting.Part.{Part}
use Rattle.gp_property.specs.PropertyForm.{PropertyForm}
use Rattle.gp_report.specs.Records.{WindowRecord}
use Rattle.gp_report.specs.ReportForm.{ReportForm}
use Rattle.gp_window.specs.RecordingForm.{RecordingForm}
use Rattle.gp_window.specs.WindowForm.{numbers_from, window_of}
use Rattle.gp_window.specs.Windows.{all_windows}
use Rattle.gp_window.specs.WindowsLaws.{count_numbers}
use Rattle.gp_merge.specs.declared.merging.PartReport.{PartReport}
use Rattle.gp_merge.specs.Checking.{AreNeighbours, parts_alone}
use Rattle.gp_merge.specs.Merge.{AreInRow, IsPartReport, part_windows}
use Rattle.gp_merge.specs.Reaching.{Reach}
use Rattle.gp_merge.proofs.Told.{numbers_of_parts}

-- two lists of one length fail at a place of theirs
fails_inside : {A B : Type 0} (Fails : A → B → Type 0) (Lacks : Type 0) (ones : List A) (others : List B) (place : ℕ) → length others ≡ length ones
    → FailsHere Fails Lacks (slice_get ones place) (slice_get others place) → place < length ones
fails_inside Fails Lacks [] [] place same here = absurd here
fails_inside Fails Lacks [] (other ∷ others) place same here = absurd (omega (arith, same))
fails_inside Fails Lacks (one ∷ ones) [] place same here = absurd (omega (arith, same))
fails_inside Fails Lacks (one ∷ ones) (other ∷ others) zero same here = omega arith
fails_inside Fails Lacks (one ∷ ones) (other ∷ others) (suc place) same here =
    let inside : place < length ones = fails_inside Fails Lacks ones others place (omega (arith, same)) here in omega (arith, inside)

-- a recording has as many windows as epochs
windows_counted : (r : RecordingForm) → length (all_windows r) ≡ r.manifest.epochs
windows_counted r = length-map (numbers_from 1 r.manifest.epochs) (window_of r) ∙ count_numbers 1 r.manifest.epochs

-- the window of a failure is one that the parts have
pub failure_reached : (r : RecordingForm) (properties : List PropertyForm) (report : ReportForm) (parts : List Part) (failure : Failure)
    → AreNeighbours 0 parts r.manifest.epochs → length report.windows ≡ r.manifest.epochs → r.manifest.epochs ≤ 4096
    → IsRejected r properties report failure → Reach parts failure.window
failure_reached r properties report parts failure row many few rejected =
    let inside : rejected.0 < length (all_windows r) =
    fails_inside _ _ (all_windows r) report.windows rejected.0 (many ∙ sym (windows_counted r)) rejected.2.here in
    record {
      before = 0;
      last = r.manifest.epochs;
      row = row;
      behind = omega (arith, rejected.1);
      within = omega (arith, rejected.1, inside, windows_counted r);
      few = few;
    }

-- parts in a row are neighbours without their reports
pub alone_in_row : (before last : ℕ) (parts : List PartReport) → AreInRow before parts last → AreNeighbours before (parts_alone parts) last
alone_in_row before last [] row = row
alone_in_row before last (one ∷ parts) row = (row.0, alone_in_row (before + one.part.count) last parts row.1)

-- a merged report has a window for each of the recording
pub merged_length : (format budget last : ℕ) (parts : List PartReport) → AreInRow 0 parts last → All (IsPartReport format budget) parts
    → length (flat_map part_windows parts) ≡ last
merged_length format budget last parts row each =
    let windows = flat_map part_windows parts in
    let left : last - 0 ≡ last = omega arith in
    sym (length-map windows (λ (window : WindowRecord). window.number))
    ∙ ap (λ (told : List ℕ). length told) (numbers_of_parts format budget 0 last parts row (recursion_from_All (IsPartReport format budget) parts each))
    ∙ count_numbers 1 (last - 0) ∙ left
