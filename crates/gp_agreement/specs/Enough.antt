-- A budget that is enough decides, whatever is asked.
use Rattle.std.specs.Prelude.{ℕ, ◌≡◌, ◌+◌, ◌^◌, ◌≤◌, List, [], Option, Some, None, length, All}
use Rattle.std.specs.List.{AllZip}
use Rattle.gp_report.specs.declared.record.AnswerOf.{AnswerOf}
use Rattle.gp_report.specs.declared.record.AnswerOf.TheVariants.{Found, Impossible, Undecided}
use Rattle.gp_report.specs.declared.record.EntryOf.{EntryOf}
use Rattle.gp_report.specs.declared.record.PropertyRecordOf.{PropertyRecordOf}
use Rattle.gp_report.specs.declared.record.WindowBodyOf.{WindowBodyOf}
use Rattle.gp_report.specs.declared.record.WindowBodyOf.TheVariants.{TooLarge, Answers}
use Rattle.gp_report.specs.declared.record.WindowRecordOf.{WindowRecordOf}
use Rattle.gp_report.specs.Entries.{entries_in}
use Rattle.gp_window.specs.declared.schedule.EventId.{EventId}
use Rattle.gp_window.specs.RecordingForm.{RecordingForm}
use Rattle.gp_window.specs.WindowForm.{WindowForm}
use Rattle.gp_window.specs.Windows.{all_windows}
use Rattle.gp_analysis.specs.declared.question.LeftOut.{LeftOut}
use Rattle.gp_analysis.specs.Answered.{IsAnswered}
use Rattle.gp_analysis.specs.Question.{QuestionForm}

-- an answer is decided where it is something that shows its ask, or a certificate
abbrev pub IsDecided : {Shown : Type 0} → AnswerOf Shown → Type 0
IsDecided (Found shown) = Unit {0}
IsDecided (Impossible certificate) = Unit {0}
IsDecided (Undecided worker from to) = ⊥

module _ {Subject Shown : Type 0} (question : QuestionForm Subject Shown) where
  -- how many variables there are in what is asked of events: those of the window's problem and those of the query
  abbrev pub variables_of : WindowForm → Subject → List EventId → ℕ
  variables_of window subject ids = length (question.problem window).kinds + length (question.query window subject ids).locals

  -- a budget is enough for an ask where it is at least three to the power of the number of its variables
  abbrev pub IsEnough : ℕ → WindowForm → Subject → List EventId → Type 0
  IsEnough budget window subject ids = 3 ^ variables_of window subject ids ≤ budget

  -- an entry of a subject is decided where the budget is enough for its ask
  abbrev pub DecidesEntry : ℕ → WindowForm → Subject → EntryOf Shown → Type 0
  DecidesEntry budget window subject entry = IsEnough budget window subject entry.events → IsDecided entry.answer

  -- so is each entry of the subject
  abbrev pub DecidesSubject : ℕ → WindowForm → Subject → PropertyRecordOf Shown → Type 0
  DecidesSubject budget window subject own = All (DecidesEntry budget window subject) (entries_in own.body)

  -- and each of each subject of a window; one that is left out has no entry
  abbrev pub DecidesBody : ℕ → WindowForm → Option LeftOut → WindowBodyOf Shown → Type 0
  DecidesBody budget window why (TooLarge events clauses) = Unit {0}
  DecidesBody budget window (Some why) (Answers records) = records ≡ []
  DecidesBody budget window None (Answers records) = AllZip (DecidesSubject budget window) question.subjects records

  -- and each of each window
  abbrev pub Decides : RecordingForm → ℕ → List (WindowRecordOf Shown) → Type 0
  Decides recording budget records =
      AllZip (λ (window : WindowForm) (own : WindowRecordOf Shown). DecidesBody budget window (question.left_out window) own.body) (all_windows recording) records

-- in records that answer a question no entry is undecided for which the budget is enough
abbrev pub EnoughDecides : {Subject Shown : Type 0} → QuestionForm Subject Shown → Type 0
EnoughDecides {Subject} {Shown} question = (recording : RecordingForm) (count budget : ℕ) (records : List (WindowRecordOf Shown))
    → IsAnswered question recording count budget records → Decides question recording budget records
