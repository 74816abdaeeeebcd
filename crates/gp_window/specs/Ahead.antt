-- The windows of a recording that are still to come for one that draws some of them.
use Rattle.std.specs.Prelude.{◌≡◌, ◌+◌, ◌-◌}
use Rattle.gp_window.specs.RecordingForm.{RecordingForm}
use Rattle.gp_window.specs.Windows.{windows_from}
use Rattle.gp_window.specs.declared.windows_ahead.WindowsAhead.{WindowsAhead}

-- all windows after those that were passed are still to come
abbrev pub AreAhead : RecordingForm → WindowsAhead → Type 0
AreAhead recording ahead = ahead.windows ≡ windows_from recording (ahead.passed + 1) (recording.manifest.epochs - ahead.passed)
