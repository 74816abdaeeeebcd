-- Laws: a text can tell what a report becomes.
use Rattle.std.proofs.Common.{◌≡◌, refl, ap, sym, ◌∙◌, inr, ℕ, List, [], ◌∷◌, Result, Ok, Err, length, map, drop, All}
use Rattle.std.proofs.lemmas.List.{length-map}
use Rattle.std.proofs.lemmas.List.Elements.{All-cons, All-head, All-nil, All-tail}
use Rattle.gp_constraint.specs.declared.fault.BaseFault.{BaseFault}
use Rattle.gp_constraint.specs.Encoded.{base_due}
use Rattle.gp_report.specs.Records.{WindowRecord}
use Rattle.gp_report.specs.Report.{IsReport, IsWindowRecord}
use Rattle.gp_report.specs.ReportForm.{ReportForm}
use Rattle.gp_window.specs.RecordingForm.{RecordingForm}
use Rattle.gp_window.specs.WindowForm.{WindowForm, numbers_from}
use Rattle.gp_window.specs.Windows.{all_windows}
use Rattle.gp_compact.specs.Compact.{compacted, compacted_next, compacted_over, compacted_window, compacted_windows, sizes_of}
use Rattle.gp_sharing.specs.CompactedLaws.{by_number, by_told, in_second}

window_told : (format : ℕ) (window : WindowForm) (told : WindowRecord) → IsWindowRecord format told → IsWindowRecord 2 (compacted_window window told)
window_told format window told is = by (base_due window)
  where
    by : (due : Result WindowForm BaseFault) → IsWindowRecord 2 (compacted_over due told)
    by (Ok encoded) = by_told format (sizes_of encoded told.shared) told is
    by (Err fault) = in_second format told is

next_told : (format : ℕ) (windows : List WindowForm) (told : WindowRecord) → IsWindowRecord format told → IsWindowRecord 2 (compacted_next windows told)
next_told format [] told is = in_second format told is
next_told format (window ∷ windows) told is = window_told format window told is

windows_told : (format : ℕ) (windows : List WindowForm) (records : List WindowRecord) → All (IsWindowRecord format) records → All (IsWindowRecord 2) (compacted_windows windows records)
windows_told format windows [] told = All-nil (IsWindowRecord 2)
windows_told format windows (one ∷ records) told =
    All-cons (IsWindowRecord 2) (compacted_next windows one) (compacted_windows (drop 1 windows) records)
    (next_told format windows one (All-head (IsWindowRecord format) one records told)) (windows_told format (drop 1 windows) records (All-tail (IsWindowRecord format) one records told))

-- numbers stay
window_number : (window : WindowForm) (told : WindowRecord) → (compacted_window window told).number ≡ told.number
window_number window told = by (base_due window)
  where
    by : (due : Result WindowForm BaseFault) → (compacted_over due told).number ≡ told.number
    by (Ok encoded) = by_number (sizes_of encoded told.shared) told
    by (Err fault) = refl

abbrev number_in : WindowRecord → ℕ
number_in window = window.number

next_number : (windows : List WindowForm) (told : WindowRecord) → (compacted_next windows told).number ≡ told.number
next_number [] told = refl
next_number (window ∷ windows) told = window_number window told

windows_numbers : (windows : List WindowForm) (records : List WindowRecord) → map number_in (compacted_windows windows records) ≡ map number_in records
windows_numbers windows [] = refl
windows_numbers windows (one ∷ records) = λ i. next_number windows one i ∷ windows_numbers (drop 1 windows) records i

-- the report that is made can be told
pub report_told : (recording : RecordingForm) (report : ReportForm) → IsReport report → IsReport (compacted recording report)
report_told recording report is =
    let made = compacted_windows (all_windows recording) report.windows in
    let numbers = windows_numbers (all_windows recording) report.windows in
    let count : length report.windows ≡ length (compacted_windows (all_windows recording) report.windows) =
    sym (length-map report.windows number_in) ∙ sym (ap length numbers) ∙ length-map made number_in in
    record {
      format = inr refl;
      budget_some = is.budget_some;
      budget_few = is.budget_few;
      numbered = numbers ∙ is.numbered ∙ ap (numbers_from 1) count;
      windows = windows_told report.format (all_windows recording) report.windows is.windows;
    }
