-- The walk over the windows of a recording: what it carries from one window to the next.
use Rattle.std.specs.Prelude.{ℕ, ℤ, ◌≡◌, ◌≤◌, ◌+◌, ◌-◌, ◌==◌, List, [], ◌∷◌, Option, Some, None, if◌then◌else◌, filter, nat_lt}
use Rattle.std.specs.Cmp.Lexicographic.{slice_cmp}
use Rattle.std.specs.Ordering.{nat_cmp}
use Rattle.gp_window.specs.declared.manifest.StartValue.{StartValue}
use Rattle.gp_window.specs.Holders.{Holdings, held_over}
use Rattle.gp_window.specs.RecordingForm.{RecordingForm, IsRecording}
use Rattle.gp_base.specs.Table.{with_entry}
use Rattle.gp_window.specs.WindowForm.{started_before, values_at}

-- where a walk stands: at the window of this number of this recording
pub record WalkForm : Type 0 where
  pub recording : RecordingForm
  pub number : ℕ

-- the walk went on to the next window, or it stood at the last one
abbrev pub GoesOn : WalkForm → Option WalkForm → Type 0
GoesOn walk (Some next) = (next.recording ≡ walk.recording) × (next.number ≡ walk.number + 1) × (next.number ≤ walk.recording.manifest.epochs)
GoesOn walk None = walk.number ≡ walk.recording.manifest.epochs

-- the values that are given for windows after this one
abbrev pub later_values : ℕ → List StartValue → List StartValue
later_values k given = filter (λ value. nat_lt k value.window) given

-- what a walk carries at a window: the values when it begins and those still to be given, and who
-- holds which lock and which threads were started after all earlier segments
pub record IsCarried (r : RecordingForm) (k : ℕ) (now : List (List ℕ × ℤ)) (left : List StartValue) (held : Holdings) (running : List ℕ) : Type 0 where
  pub rules : IsRecording r
  pub first : 1 ≤ k
  pub last : k ≤ r.manifest.epochs
  pub values : now ≡ values_at r.manifest.values k
  pub later : left ≡ later_values k r.manifest.values
  pub holders : held ≡ held_over r.traces (k - 1)
  pub started : running ≡ started_before (k - 1) r.traces

-- the values after those at the front were given that are for window k
abbrev pub after_given : ℕ → List (List ℕ × ℤ) → List StartValue → List (List ℕ × ℤ)
after_given k values [] = values
after_given k values (given ∷ more) =
    if given.window == k then after_given k (with_entry (slice_cmp nat_cmp) values given.variable given.value) more else values

-- the values after those at the front that are for window k
abbrev pub past_given : ℕ → List StartValue → List StartValue
past_given k [] = []
past_given k (given ∷ more) = if given.window == k then past_given k more else given ∷ more
