-- What an accepted report says is true, whoever wrote it.
use Rattle.std.specs.Prelude.{ℕ, ◌≡◌, ◌+◌, true, List, Some, slice_get}
use Rattle.std.specs.List.{AllByRecursion}
use Rattle.gp_instance.specs.Matches.{matches_events}
use Rattle.gp_property.specs.Property.{IsProperty}
use Rattle.gp_property.specs.PropertyForm.{PropertyForm}
use Rattle.gp_replay.specs.Feasible.{IsFeasible}
use Rattle.gp_report.specs.Records.{Answer, Entry, PropertyRecord, WindowRecord}
use Rattle.gp_report.specs.declared.record.AnswerOf.TheVariants.{Found, Impossible, Undecided}
use Rattle.gp_report.specs.Entries.{entries_in, properties_in}
use Rattle.gp_report.specs.ReportForm.{ReportForm}
use Rattle.gp_window.specs.declared.schedule.EventId.{EventId}
use Rattle.gp_window.specs.RecordingForm.{IsRecording, RecordingForm}
use Rattle.gp_window.specs.WindowForm.{WindowForm, window_of}
use Rattle.gp_witness.specs.Possible.{IsPossible}
use Rattle.gp_checker.specs.Accepted.{IsAccepted}

-- found: the schedule is feasible and matches; impossible: no feasible schedule matches
abbrev pub IsTrueAnswer : WindowForm → PropertyForm → List EventId → Answer → Type 0
IsTrueAnswer window property ids (Found schedule) = IsFeasible window schedule.events × (matches_events property ids schedule.events ≡ true)
IsTrueAnswer window property ids (Impossible certificate) = IsPossible window property ids → ⊥
IsTrueAnswer window property ids (Undecided worker from to) = Unit {0}

-- each answer of a report is true: that of each entry of each property of each window
abbrev pub AnswersAreTrue : RecordingForm → List PropertyForm → ReportForm → Type 0
AnswersAreTrue recording properties report =
    (k p i : ℕ) (window : WindowRecord) (property : PropertyForm) (record_told : PropertyRecord) (entry : Entry)
    → slice_get report.windows k ≡ Some window → slice_get properties p ≡ Some property → slice_get (properties_in window.body) p ≡ Some record_told
    → slice_get (entries_in record_told.body) i ≡ Some entry
    → IsTrueAnswer (window_of recording (k + 1)) property entry.events entry.answer

-- the answers of an accepted report are true
abbrev pub AcceptedIsTrue : Type 0
AcceptedIsTrue = (recording : RecordingForm) (properties : List PropertyForm) (report : ReportForm) → IsRecording recording → AllByRecursion IsProperty properties
    → IsAccepted recording properties report → AnswersAreTrue recording properties report
