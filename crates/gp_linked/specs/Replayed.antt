-- Schedules of linked windows, one after another.
use Rattle.std.specs.Prelude.{ℕ, suc, ◌≡◌, ◌++◌, List, [], ◌∷◌, Option, Some, None, length, map}
use Rattle.gp_window.specs.declared.schedule.EventId.{EventId}
use Rattle.gp_window.specs.RecordingForm.{IsRecording, RecordingForm}
use Rattle.gp_window.specs.WindowForm.{window_of}
use Rattle.gp_replay.specs.Feasible.{IsFeasible}
use Rattle.gp_whole.specs.Whole.{Replays}
use Rattle.gp_linked.specs.declared.answer.LinkAnswer.{LinkAnswer}
use Rattle.gp_linked.specs.declared.answer.LinkAnswer.TheVariants.{Linked}
use Rattle.gp_linked.specs.Answered.{AnswersFrom}

-- the schedule of a window that is linked
abbrev pub found_of : LinkAnswer → Option (List EventId)
found_of (Linked schedule) = Some schedule.events
found_of _ = None

-- for each window before which all are linked: their schedules, followed by any feasible schedule of that window, replay from
-- the recording's very start
abbrev pub ReplayFromStart : RecordingForm → List LinkAnswer → Type 0
ReplayFromStart r links = (rest : List (Option (List EventId))) (schedules : List (List EventId)) (ids : List EventId)
    → map found_of links ≡ map (λ schedule. Some schedule) schedules ++ rest
    → IsFeasible (window_of r (suc (length schedules))) ids → Replays r (schedules ++ ids ∷ [])

-- answers of all windows of a recording but the last have schedules that replay from its very start
abbrev pub LinkedWindowsReplay : Type 0
LinkedWindowsReplay = (r : RecordingForm) (budget : ℕ) (links : List LinkAnswer) → IsRecording r → suc (length links) ≡ r.manifest.epochs
    → AnswersFrom r budget 1 links → ReplayFromStart r links
