-- What is recorded of the windows of a recording.
use Rattle.std.specs.Prelude.{ℕ, ◌≡◌, ◌*◌, ◌≤◌, List, [], Option, None, Some}
use Rattle.std.specs.List.{AllZip}
use Rattle.gp_certificate.specs.declared.step.Step.{Step}
use Rattle.gp_report.specs.declared.record.WindowRecordOf.{WindowRecordOf}
use Rattle.gp_report.specs.Report.{IsWindowRecord}
use Rattle.gp_sharing.specs.declared.sizes.Sizes.{Sizes}
use Rattle.gp_sharing.specs.Compacted.{compacted_by, sizes_in}
use Rattle.gp_window.specs.RecordingForm.{RecordingForm}
use Rattle.gp_window.specs.WindowForm.{WindowForm}
use Rattle.gp_analysis.specs.declared.question.LeftOut.{LeftOut}
use Rattle.gp_analysis.specs.Answered.{AnswersWindow}
use Rattle.gp_analysis.specs.Question.{QuestionForm}
use Rattle.gp_analysis.specs.Tickets.{asked_total, window_asked}

-- the steps that are shared in a window that is left out, or is not: none where it is
abbrev pub shared_where : Option LeftOut → List Step → List Step
shared_where None shared = shared
shared_where (Some why) shared = []

-- a record with these sizes in the compact form: that of a window that is left out stays as it is
abbrev pub compacted_where : {Shown : Type 0} → Option LeftOut → Sizes → WindowRecordOf Shown → WindowRecordOf Shown
compacted_where None sizes told = compacted_by sizes told
compacted_where (Some why) sizes told = told

module _ {Subject Shown : Type 0} (question : QuestionForm Subject Shown) where
  -- what can be asked of so many workers: some, a budget, and not too much work in all windows
  pub record CanBeAnalysed (recording : RecordingForm) (count budget : ℕ) : Type 0 where
    pub workers : (1 ≤ count) × (count ≤ 16)
    pub least : 1 ≤ budget
    pub limit : asked_total question recording * budget ≤ 1000000

  -- what can be asked of the workers of a window: a budget, and not too much work
  pub record CanBeAnswered (budget : ℕ) (window : WindowForm) : Type 0 where
    pub least : 1 ≤ budget
    pub limit : window_asked question window * budget ≤ 1000000

  -- a record is of a window: it has its number and the steps that are shared from the start, answers it, and can be written
  pub record RecordsWindow (count budget : ℕ) (window : WindowForm) (own : WindowRecordOf Shown) : Type 0 where
    pub number : own.number ≡ window.number
    pub shared : own.shared ≡ shared_where (question.left_out window) (question.shared window)
    pub answered : AnswersWindow question count budget window own
    pub fits : IsWindowRecord 2 own

  -- records are of windows, one by one and in order
  abbrev pub RecordEach : ℕ → ℕ → List WindowForm → List (WindowRecordOf Shown) → Type 0
  RecordEach count budget windows records = AllZip (RecordsWindow count budget) windows records

  -- a record is the compact form of one that answers its window
  pub record IsCompactRecord (count budget : ℕ) (window : WindowForm) (own : WindowRecordOf Shown) : Type 0 where
    pub told : WindowRecordOf Shown
    pub records : RecordsWindow count budget window told
    pub made : own ≡ compacted_where (question.left_out window) (sizes_in (question.problem window) told.shared) told
    pub fits : IsWindowRecord 2 own

  -- records are compact forms, one by one and in the order of the windows
  abbrev pub CompactEach : ℕ → ℕ → List WindowForm → List (WindowRecordOf Shown) → Type 0
  CompactEach count budget windows records = AllZip (IsCompactRecord count budget) windows records
