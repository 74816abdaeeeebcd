-- The windows of a recording, and which of them are still to come.
use Rattle.std.specs.Prelude.{ℕ, ◌≡◌, ◌+◌, ◌-◌, ◌≤◌, List, [], ◌∷◌, Option, Some, None, map}
use Rattle.gp_window.specs.RecordingForm.{RecordingForm}
use Rattle.gp_window.specs.Walk.{WalkForm}
use Rattle.gp_window.specs.WindowForm.{WindowForm, numbers_from, window_of}

-- so many neighbouring windows of a recording, from the one of this number on
abbrev pub windows_from : RecordingForm → ℕ → ℕ → List WindowForm
windows_from recording first count = map (window_of recording) (numbers_from first count)

-- the windows of a recording, in order
abbrev pub all_windows : RecordingForm → List WindowForm
all_windows recording = windows_from recording 1 recording.manifest.epochs

-- the windows from the one at which a walk stands to the one of this number
abbrev pub windows_to : ℕ → Option WalkForm → List WindowForm
windows_to last None = []
windows_to last (Some walk) = windows_from walk.recording walk.number (last + 1 - walk.number)

-- a walk does not stand behind the window of this number, which there is
abbrev pub CanGoTo : ℕ → Option WalkForm → Type 0
CanGoTo last None = Unit {0}
CanGoTo last (Some walk) = (walk.number ≤ last) × (last ≤ walk.recording.manifest.epochs)

-- of the windows that are still to come the first is taken, if there is one; else none is left after
abbrev pub TakesFirst : List WindowForm → Option WindowForm → List WindowForm → Type 0
TakesFirst left None after = (left ≡ []) × (after ≡ [])
TakesFirst left (Some window) after = left ≡ window ∷ after
