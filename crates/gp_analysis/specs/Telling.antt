-- What is recorded of windows as their certificates are told.
use Rattle.std.specs.Prelude.{ℕ, ◌≡◌, List, Option, None, length, map}
use Rattle.std.specs.List.{AllZip}
use Rattle.gp_certificate.specs.declared.step.Step.{Step}
use Rattle.gp_clause.specs.declared.problem.Problem.{Problem}
use Rattle.gp_report.specs.declared.record.PropertyRecordOf.{PropertyRecordOf}
use Rattle.gp_report.specs.declared.record.WindowRecordOf.{WindowRecordOf}
use Rattle.gp_report.specs.Entries.{entries_among}
use Rattle.gp_sharing.specs.Compacted.{property_by, sizes_in}
use Rattle.gp_window.specs.WindowForm.{WindowForm}
use Rattle.gp_analysis.specs.declared.certifying.Moved.{Moved}
use Rattle.gp_analysis.specs.declared.certifying.Source.{Source}
use Rattle.gp_analysis.specs.declared.task.Telling.{Telling}
use Rattle.gp_analysis.specs.declared.task.Telling.TheVariants.{Whole, Compact}
use Rattle.gp_analysis.specs.Answered.{AnswersSubjects, Evidence}
use Rattle.gp_analysis.specs.Certificates.{certificates_among, moved_over, shared_by, steps_by}
use Rattle.gp_analysis.specs.Question.{QuestionForm}
use Rattle.gp_analysis.specs.Recorded.{IsCompactRecord, RecordsWindow}

-- what moves of these certificates: nothing where they are told whole
abbrev pub moved_as : Telling → Problem → List Step → List (List Step) → Option Moved
moved_as Whole problem shared certificates = None
moved_as Compact problem shared certificates = moved_over (sizes_in problem shared) shared certificates

module _ {Subject Shown : Type 0} (question : QuestionForm Subject Shown) where
  -- of these constraints and steps the certificates of a window are made
  pub record IsSourceOf (window : WindowForm) (source : Source) : Type 0 where
    pub clauses : source.clauses ≡ length (question.problem window).clauses
    pub gained : source.gained ≡ length (question.shared window)

  -- records of subjects are those that answer them and have these certificates, with the steps made into others
  pub record TellsSubjects (window : WindowForm) (evidence : Evidence) (into : List Step → List Step) (all : List (List Step)) (own : List (PropertyRecordOf Shown)) : Type 0 where
    pub told : List (PropertyRecordOf Shown)
    pub answers : AnswersSubjects question window evidence 0 0 question.subjects told
    pub certificates : certificates_among (entries_among told) ≡ all
    pub made : own ≡ map (property_by into) told

  -- the steps that the certificates of a window share in the end, and the records of its subjects, as certificates are told
  pub record TellsAll (telling : Telling) (window : WindowForm) (evidence : Evidence) (shared : List Step) (own : List (PropertyRecordOf Shown)) : Type 0 where
    pub certificates : List (List Step)
    pub moved : Option Moved
    pub moves : moved ≡ moved_as telling (question.problem window) (question.shared window) certificates
    pub shares : shared ≡ shared_by moved (question.shared window)
    pub tells : TellsSubjects window evidence (steps_by moved) certificates own

  -- a record is of a window, as its certificates are told
  abbrev pub RecordsAs : Telling → ℕ → ℕ → WindowForm → WindowRecordOf Shown → Type 0
  RecordsAs Whole count budget window own = RecordsWindow question count budget window own
  RecordsAs Compact count budget window own = IsCompactRecord question count budget window own

  -- records are of windows, one by one and in order
  abbrev pub RecordEachAs : Telling → ℕ → ℕ → List WindowForm → List (WindowRecordOf Shown) → Type 0
  RecordEachAs telling count budget windows records = AllZip (RecordsAs telling count budget) windows records
