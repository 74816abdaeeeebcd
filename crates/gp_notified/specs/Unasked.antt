-- The windows that may be left out since a wake has no sleep, by their records.
use Rattle.std.specs.Prelude.{ℕ, ◌≡◌, ◌≤◌, Bool, true, false, List, [], ◌∷◌}
use Rattle.std.specs.List.{AllZip}
use Rattle.gp_report.specs.declared.record.WindowBodyOf.{WindowBodyOf}
use Rattle.gp_report.specs.declared.record.WindowBodyOf.TheVariants.{TooLarge, Answers}
use Rattle.gp_report.specs.declared.record.WindowRecordOf.{WindowRecordOf}
use Rattle.gp_window.specs.RecordingForm.{RecordingForm}
use Rattle.gp_window.specs.WindowForm.{numbers_from, window_of}
use Rattle.gp_notified.specs.declared.paired.Paired.{Paired}
use Rattle.gp_notified.specs.Due.{unpaired_in}

-- whether no property is told of a window, which is not told as too large
abbrev pub has_no_property : WindowBodyOf Paired → Bool
has_no_property (TooLarge events clauses) = false
has_no_property (Answers []) = true
has_no_property (Answers (own ∷ others)) = false

-- a record is that of window k of the recording; where it has a property, or is too large, the window is not left out for a wake
pub record IsRecordOf (recording : RecordingForm) (k : ℕ) (own : WindowRecordOf Paired) : Type 0 where
  pub number : own.number ≡ k
  pub within : (1 ≤ k) × (k ≤ recording.manifest.epochs)
  pub told : has_no_property own.body ≡ false → unpaired_in (window_of recording k) ≡ []

-- records are those of all windows, in order
abbrev pub AreRecordsOf : RecordingForm → List (WindowRecordOf Paired) → Type 0
AreRecordsOf recording records = AllZip (IsRecordOf recording) (numbers_from 1 recording.manifest.epochs) records
