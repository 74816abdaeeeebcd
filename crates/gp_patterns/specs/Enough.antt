-- A budget that is enough decides.
use Rattle.std.specs.Prelude.{ℕ, ◌+◌, ◌^◌, ◌≤◌, List, length, map, All}
use Rattle.std.specs.List.{AllZip}
use Rattle.gp_constraint.specs.Base.{base_of}
use Rattle.gp_constraint.specs.Query.{query_of}
use Rattle.gp_property.specs.PropertyForm.{PropertyForm}
use Rattle.gp_report.specs.Records.{Answer, Entry, PropertyRecord, WindowBody, WindowRecord}
use Rattle.gp_report.specs.declared.record.AnswerOf.TheVariants.{Found, Impossible, Undecided}
use Rattle.gp_report.specs.declared.record.WindowBodyOf.TheVariants.{TooLarge, Answers}
use Rattle.gp_report.specs.Entries.{entries_in}
use Rattle.gp_report.specs.ReportForm.{ReportForm}
use Rattle.gp_window.specs.declared.schedule.EventId.{EventId}
use Rattle.gp_window.specs.RecordingForm.{RecordingForm}
use Rattle.gp_window.specs.WindowForm.{WindowForm, numbers_from, window_of}
use Rattle.gp_patterns.specs.Answered.{IsAnswered}

-- how many variables there are in what is asked of an instance: those of the window and those of the query
abbrev pub variables_of : WindowForm → PropertyForm → List EventId → ℕ
variables_of window property ids = length (base_of window).kinds + length (query_of window property ids).locals

-- a budget is enough for an instance where it is at least three to the power of the number of its variables
abbrev pub IsEnough : ℕ → WindowForm → PropertyForm → List EventId → Type 0
IsEnough budget window property ids = 3 ^ variables_of window property ids ≤ budget

-- an answer is decided where it is a schedule or a certificate
abbrev pub IsDecided : Answer → Type 0
IsDecided (Found schedule) = Unit {0}
IsDecided (Impossible certificate) = Unit {0}
IsDecided (Undecided worker from to) = ⊥

-- an entry of a property is decided where the budget is enough for its instance
abbrev pub DecidesEntry : ℕ → WindowForm → PropertyForm → Entry → Type 0
DecidesEntry budget window property entry = IsEnough budget window property entry.events → IsDecided entry.answer

-- so is each entry of the property
abbrev pub DecidesProperty : ℕ → WindowForm → PropertyForm → PropertyRecord → Type 0
DecidesProperty budget window property told = All (DecidesEntry budget window property) (entries_in told.body)

-- and each of each property of a window, unless the window is too large
abbrev pub DecidesBody : List PropertyForm → ℕ → WindowForm → WindowBody → Type 0
DecidesBody properties budget window (TooLarge events clauses) = Unit {0}
DecidesBody properties budget window (Answers records) = AllZip (DecidesProperty budget window) properties records

-- and each of each window
abbrev pub Decides : RecordingForm → List PropertyForm → ℕ → ReportForm → Type 0
Decides recording properties budget report =
    AllZip (λ (window : WindowForm) (told : WindowRecord). DecidesBody properties budget window told.body) (map (window_of recording) (numbers_from 1 recording.manifest.epochs)) report.windows

-- in a report that answers a recording and its properties no entry is undecided for which the budget is enough
abbrev pub EnoughDecides : Type 0
EnoughDecides = (recording : RecordingForm) (properties : List PropertyForm) (count budget : ℕ) (report : ReportForm)
    → IsAnswered recording properties count budget report → Decides recording properties budget report
