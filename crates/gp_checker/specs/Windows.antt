-- What a check of all windows of a report says, whatever is accepted of a window and however its record fails.
use Rattle.std.specs.Prelude.{ℕ, ◌≡◌, ◌+◌, List}
use Rattle.std.specs.List.{AllZip}
use Rattle.gp_report.specs.Records.{WindowRecord}
use Rattle.gp_window.specs.RecordingForm.{RecordingForm}
use Rattle.gp_window.specs.WindowForm.{WindowForm}
use Rattle.gp_window.specs.Windows.{all_windows}
use Rattle.gp_checker.specs.declared.failure.Checked.{Checked}
use Rattle.gp_checker.specs.declared.failure.Checked.TheVariants.{Accepted, Rejected}
use Rattle.gp_checker.specs.declared.failure.Failure.{Failure}
use Rattle.gp_checker.specs.declared.failure.Reason.TheVariants.{WindowCount}
use Rattle.gp_checker.specs.First.{FailsFirst}
use Rattle.gp_checker.specs.Reasons.{IsOfWindow}

-- a window is the first that fails, is missing or is surplus; windows are numbered from 1
abbrev pub IsRejectedBy : (WindowForm → WindowRecord → Type 0) → (Failure → WindowForm → WindowRecord → Type 0) → RecordingForm → List WindowRecord → Failure → Type 0
IsRejectedBy Accepts Fails recording records failure =
    (place : ℕ) × (failure.window ≡ place + 1)
    × FailsFirst Accepts (Fails failure) (IsOfWindow WindowCount failure) (all_windows recording) records place

-- there is a record for each window, and each is accepted; or one is rejected by its first failure
abbrev pub IsCheckedBy : (WindowForm → WindowRecord → Type 0) → (Failure → WindowForm → WindowRecord → Type 0) → RecordingForm → List WindowRecord → Checked → Type 0
IsCheckedBy Accepts Fails recording records Accepted = AllZip Accepts (all_windows recording) records
IsCheckedBy Accepts Fails recording records (Rejected failure) = IsRejectedBy Accepts Fails recording records failure
