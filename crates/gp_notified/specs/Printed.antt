-- The lines of words that tell which instances are possible where each wake needs a signal.
use Rattle.std.specs.Prelude.{ℕ, ◌==◌, List, [], ◌∷◌, ◌++◌, Option, Some, None, codes, decimal, flat_map, if◌then◌else◌}
use Rattle.gp_report.specs.declared.record.WindowRecordOf.{WindowRecordOf}
use Rattle.gp_report.specs.Entries.{entries_of}
use Rattle.gp_report.specs.Printed.{summary_words, window_lines_of}
use Rattle.gp_window.specs.declared.schedule.EventId.{EventId}
use Rattle.gp_window.specs.EventIds.{event_id_text}
use Rattle.gp_notified.specs.declared.paired.Paired.{Paired}
use Rattle.gp_notified.specs.declared.report.NotifyReport.{NotifyReport}
use Rattle.gp_notified.specs.declared.report.Unpaired.{Unpaired}
use Rattle.gp_notified.specs.Shown.{paired_lines}

-- the wake for which the window of this number is left out
abbrev pub wake_of : ℕ → List Unpaired → Option EventId
wake_of number [] = None
wake_of number (one ∷ others) = if one.window == number then Some one.wake else wake_of number others

-- what is told of a window: the wake without a sleep, where it is left out for one, else what each report tells
abbrev pub told_lines : WindowRecordOf Paired → Option EventId → List (List (List ℕ))
told_lines window None = window_lines_of paired_lines 1 window
told_lines window (Some wake) = (codes "window" ∷ decimal window.number ∷ []) ∷ (codes "unpaired" ∷ event_id_text wake ∷ []) ∷ []

abbrev pub window_lines : List Unpaired → WindowRecordOf Paired → List (List (List ℕ))
window_lines unpaired window = told_lines window (wake_of window.number unpaired)

-- the lines of a report
abbrev pub notified_lines : NotifyReport → List (List (List ℕ))
notified_lines report =
    (codes "gpnotify" ∷ decimal 1 ∷ []) ∷ (codes "budget" ∷ decimal report.budget ∷ [])
    ∷ (flat_map (window_lines report.unpaired) report.windows ++ summary_words (entries_of report.windows) ∷ [])
