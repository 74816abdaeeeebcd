-- What is recorded of two questions that are alike never contradicts each other.
use Rattle.std.specs.Prelude.{ℕ, ◌≡◌, List}
use Rattle.std.specs.List.{AllZip}
use Rattle.gp_report.specs.declared.record.AnswerOf.{AnswerOf}
use Rattle.gp_report.specs.declared.record.AnswerOf.TheVariants.{Found, Impossible}
use Rattle.gp_report.specs.declared.record.EntryOf.{EntryOf}
use Rattle.gp_report.specs.declared.record.PropertyBodyOf.{PropertyBodyOf}
use Rattle.gp_report.specs.declared.record.PropertyBodyOf.TheVariants.{TooMany, Entries}
use Rattle.gp_report.specs.declared.record.PropertyRecordOf.{PropertyRecordOf}
use Rattle.gp_report.specs.declared.record.WindowBodyOf.{WindowBodyOf}
use Rattle.gp_report.specs.declared.record.WindowBodyOf.TheVariants.{TooLarge, Answers}
use Rattle.gp_report.specs.declared.record.WindowRecordOf.{WindowRecordOf}
use Rattle.gp_window.specs.RecordingForm.{RecordingForm}
use Rattle.gp_analysis.specs.Answered.{IsAnswered}
use Rattle.gp_analysis.specs.Question.{QuestionForm}
use Rattle.gp_agreement.specs.Alike.{AreAlike}

module _ {Shown : Type 0} where
  -- two answers contradict each other where one is found and the other impossible
  abbrev pub Contradict : AnswerOf Shown → AnswerOf Shown → Type 0
  Contradict (Found shown) (Impossible certificate) = Unit {0}
  Contradict (Impossible certificate) (Found shown) = Unit {0}
  Contradict _ _ = ⊥

  -- two entries agree: they are of the same events, and their answers do not contradict each other
  pub record EntriesAgree (one other : EntryOf Shown) : Type 0 where
    pub events : one.events ≡ other.events
    pub answers : Contradict one.answer other.answer → ⊥

  -- what is recorded of a subject agrees: both times there are too many asks, or the entries agree one by one
  abbrev pub BodiesAgree : PropertyBodyOf Shown → PropertyBodyOf Shown → Type 0
  BodiesAgree TooMany TooMany = Unit {0}
  BodiesAgree (Entries one) (Entries other) = AllZip EntriesAgree one other
  BodiesAgree _ _ = ⊥

  -- two records of a subject agree: they have the same name, and what they tell agrees
  pub record PropertiesAgree (one other : PropertyRecordOf Shown) : Type 0 where
    pub name : one.name ≡ other.name
    pub body : BodiesAgree one.body other.body

  -- what is recorded of a window agrees: both times it is too large by the same two numbers, or the records of its subjects
  -- agree one by one
  abbrev pub WindowsAgree : WindowBodyOf Shown → WindowBodyOf Shown → Type 0
  WindowsAgree (TooLarge events clauses) (TooLarge more_events more_clauses) = (events ≡ more_events) × (clauses ≡ more_clauses)
  WindowsAgree (Answers one) (Answers other) = AllZip PropertiesAgree one other
  WindowsAgree _ _ = ⊥

  -- records agree: what they tell of each window agrees
  abbrev pub Agree : List (WindowRecordOf Shown) → List (WindowRecordOf Shown) → Type 0
  Agree one other = AllZip (λ (told : WindowRecordOf Shown) (again : WindowRecordOf Shown). WindowsAgree told.body again.body) one other

-- records that answer of one recording two questions that are alike agree, whatever their workers and their budgets
abbrev pub AnswersAgree : {Subject Other Shown : Type 0} → QuestionForm Subject Shown → QuestionForm Other Shown → Type 0
AnswersAgree {Subject} {Other} {Shown} question alike = AreAlike question alike
    → (recording : RecordingForm) (count more budget larger : ℕ) (one other : List (WindowRecordOf Shown))
    → IsAnswered question recording count budget one → IsAnswered alike recording more larger other → Agree one other
