-- What is true of windows that were cut out of a recording.
use Rattle.std.specs.Prelude.{ℕ, ◌≡◌, ◌+◌, ◌<◌, ◌≤◌, All}
use Rattle.gp_trace.specs.LockUse.{AreOfFormat}
use Rattle.gp_trace.specs.Trace.{in_order, LocalTraceForm}
use Rattle.gp_window.specs.RecordingForm.{IsRecording, RecordingForm}
use Rattle.gp_window.specs.WindowForm.{window_of}
use Rattle.gp_cut.specs.Cut.{cut_of}

-- a recording has so many windows behind so many, and a manifest can tell them with their stage
pub record CanBeCut (r : RecordingForm) (before count : ℕ) : Type 0 where
  pub rules : IsRecording r
  pub there : before + count ≤ r.manifest.epochs
  pub few : count < 4096

-- each trace of a recording has events of its format alone
abbrev pub FitsFormat : RecordingForm → Type 0
FitsFormat r = All (λ (trace : LocalTraceForm). AreOfFormat r.manifest.format (in_order trace.segments)) r.traces

-- windows that are cut out of a recording are a recording, of the same format
pub record CutsAreRecordings : Type 0 where
  pub rules : (r : RecordingForm) (before count : ℕ) → CanBeCut r before count → IsRecording (cut_of before count r)
  pub format : (r : RecordingForm) (before count : ℕ) → CanBeCut r before count → FitsFormat r → FitsFormat (cut_of before count r)

-- each window behind the stage is the window that it stands for, in everything but its number
abbrev pub CutWindowsAreTheSame : Type 0
CutWindowsAreTheSame = (r : RecordingForm) (before count number : ℕ) → CanBeCut r before count → 1 ≤ number → number ≤ count
    → window_of (cut_of before count r) (number + 1) ≡ record (window_of r (before + number)) { number = number + 1 }
