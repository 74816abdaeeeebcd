-- What an accepted report of deadlocks says is true, whoever wrote it.
use Rattle.std.specs.Prelude.{ℕ, ◌≡◌, ◌+◌, List, Some, slice_get}
use Rattle.gp_report.specs.Records.{Answer, Entry, PropertyRecord, WindowRecord}
use Rattle.gp_report.specs.declared.record.AnswerOf.TheVariants.{Found, Impossible, Undecided}
use Rattle.gp_report.specs.Entries.{entries_in, properties_in}
use Rattle.gp_report.specs.ReportForm.{ReportForm}
use Rattle.gp_stuck.specs.Stuck.{EndsStuck}
use Rattle.gp_window.specs.declared.schedule.EventId.{EventId}
use Rattle.gp_window.specs.RecordingForm.{IsRecording, RecordingForm}
use Rattle.gp_window.specs.WindowForm.{WindowForm, window_of}
use Rattle.gp_deadlock_checker.specs.Accepted.{IsAcceptedDeadlocks}

-- found: after the schedule, which is feasible, the events of the cycle block one another; impossible: they do so after none
abbrev pub IsTrueAnswer : WindowForm → List EventId → Answer → Type 0
IsTrueAnswer window ids (Found schedule) = EndsStuck window ids schedule.events
IsTrueAnswer window ids (Impossible certificate) = (schedule : List EventId) → EndsStuck window ids schedule → ⊥
IsTrueAnswer window ids (Undecided worker from to) = Unit {0}

-- each answer of a report is true: that of each entry of each property of each window
abbrev pub DeadlocksAreTrue : RecordingForm → ReportForm → Type 0
DeadlocksAreTrue recording report =
    (k p i : ℕ) (window : WindowRecord) (told : PropertyRecord) (entry : Entry)
    → slice_get report.windows k ≡ Some window → slice_get (properties_in window.body) p ≡ Some told → slice_get (entries_in told.body) i ≡ Some entry
    → IsTrueAnswer (window_of recording (k + 1)) entry.events entry.answer

-- the answers of an accepted report are true
abbrev pub AcceptedDeadlocksAreTrue : Type 0
AcceptedDeadlocksAreTrue = (recording : RecordingForm) (report : ReportForm) → IsRecording recording → IsAcceptedDeadlocks recording report → DeadlocksAreTrue recording report
