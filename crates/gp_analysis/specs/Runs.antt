-- Runs of neighbouring windows.
use Rattle.std.specs.Prelude.{ℕ, ◌+◌, ◌≡◌, ◌≤◌, List, All, flat_map, sum_by}
use Rattle.gp_window.specs.RecordingForm.{RecordingForm}
use Rattle.gp_window.specs.WindowForm.{WindowForm, numbers_from}
use Rattle.gp_window.specs.Windows.{windows_from}
use Rattle.gp_analysis.specs.declared.counting.Counted.{Counted}
use Rattle.gp_analysis.specs.declared.runs.Run.{Run}
use Rattle.gp_analysis.specs.Question.{QuestionForm}
use Rattle.gp_analysis.specs.Tickets.{window_count}

-- the numbers of the windows of a run
abbrev pub numbers_of : Run → List ℕ
numbers_of run = numbers_from run.first run.count

-- the windows of a run of a recording, in order
abbrev pub run_windows : RecordingForm → Run → List WindowForm
run_windows recording run = windows_from recording run.first run.count

-- how many asks are counted in the windows of a run
abbrev pub run_count : {Subject Shown : Type 0} → QuestionForm Subject Shown → Counted → RecordingForm → Run → ℕ
run_count question counted recording run = sum_by (window_count question counted) (run_windows recording run)

-- a run has some windows, which are among so many
pub record IsRun (epochs : ℕ) (run : Run) : Type 0 where
  pub first : 1 ≤ run.first
  pub some : 1 ≤ run.count
  pub last : run.first + run.count ≤ epochs + 1

-- runs part so many windows: each is a run of them, and side by side the runs are all of them in order
pub record PartAll (epochs : ℕ) (runs : List Run) : Type 0 where
  pub each : All (IsRun epochs) runs
  pub all : flat_map numbers_of runs ≡ numbers_from 1 epochs
