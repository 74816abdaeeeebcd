-- What is recorded of a recording and a question: each ask of each window is answered once, with evidence.
use Rattle.std.specs.Prelude.{ℕ, ◌≡◌, ◌+◌, ◌≤◌, List, [], ◌∷◌, Option, Some, None, Result, Ok, Err, length, All}
use Rattle.std.specs.List.{AllZip}
use Rattle.gp_certificate.specs.declared.step.Step.{Step}
use Rattle.gp_certificate.specs.Shared.{SharedPasses}
use Rattle.gp_clause.specs.declared.problem.Problem.{Problem}
use Rattle.gp_derivation.specs.declared.record.WorkerRecord.{WorkerRecord}
use Rattle.gp_instance.specs.declared.instance.Instance.{Instance}
use Rattle.gp_instance.specs.declared.instance.InstancesFault.{InstancesFault}
use Rattle.gp_instance.specs.declared.instance.InstancesFault.TheVariants.{TooMany}
use Rattle.gp_report.specs.declared.record.AnswerOf.{AnswerOf}
use Rattle.gp_report.specs.declared.record.AnswerOf.TheVariants.{Found, Impossible, Undecided}
use Rattle.gp_report.specs.declared.record.EntryOf.{EntryOf}
use Rattle.gp_report.specs.declared.record.PropertyBodyOf.{PropertyBodyOf}
use Rattle.gp_report.specs.declared.record.PropertyBodyOf.TheVariants as body
use Rattle.gp_report.specs.declared.record.PropertyRecordOf.{PropertyRecordOf}
use Rattle.gp_report.specs.declared.record.WindowBodyOf.{WindowBodyOf}
use Rattle.gp_report.specs.declared.record.WindowBodyOf.TheVariants as recorded
use Rattle.gp_report.specs.declared.record.WindowRecordOf.{WindowRecordOf}
use Rattle.gp_window.specs.declared.schedule.EventId.{EventId}
use Rattle.gp_window.specs.RecordingForm.{RecordingForm}
use Rattle.gp_window.specs.WindowForm.{WindowForm}
use Rattle.gp_window.specs.Windows.{all_windows}
use Rattle.gp_workers.specs.Prefixes.{AreSharing}
use Rattle.gp_workers.specs.Record.{EachOnce, IsWorkerRecord}
use Rattle.gp_workers.specs.Sharing.{ShareNothing}
use Rattle.gp_workers.specs.Work.{IsSpentBy}
use Rattle.gp_analysis.specs.declared.question.LeftOut.{LeftOut}
use Rattle.gp_analysis.specs.declared.question.LeftOut.TheVariants as out
use Rattle.gp_analysis.specs.Question.{Holds, IsRefuted, QuestionForm}
use Rattle.gp_analysis.specs.Tickets.{subjects_tickets, tickets_listed, tickets_of}

-- what is known of the window to which answers belong: the budget, the shared steps, and the workers' records
pub record Evidence : Type 0 where
  pub budget : ℕ
  pub shared : List Step
  pub workers : List WorkerRecord

-- what is known of a window, whose certificates share the steps of the question
abbrev pub known_of : {Subject Shown : Type 0} → QuestionForm Subject Shown → WindowForm → ℕ → List WorkerRecord → Evidence
known_of question window budget workers = record { budget = budget; shared = question.shared window; workers = workers }

-- what so many workers did in a window: what each took follows from the constraints, its turns cover its log, each
-- ticket stands in exactly one turn of exactly one of them, one alone shares nothing, and two or more share what they learn
pub record AreWorkers (problem : Problem) (count tickets : ℕ) (workers : List WorkerRecord) : Type 0 where
  pub counted : length workers ≡ count
  pub each : All (IsWorkerRecord problem) workers
  pub once : EachOnce tickets workers
  pub alone : count ≡ 1 → ShareNothing workers
  pub shared : 2 ≤ count → AreSharing problem count workers

-- what is recorded of a window that is left out: where it is too large its two numbers, and where it is not asked no subject
abbrev pub RecordsLeftOut : {Shown : Type 0} → LeftOut → WindowBodyOf Shown → Type 0
RecordsLeftOut (out.TooLarge large) (recorded.TooLarge events clauses) = (events ≡ large.events) × (clauses ≡ large.clauses)
RecordsLeftOut out.Unasked (recorded.Answers records) = records ≡ []
RecordsLeftOut _ _ = ⊥

module _ {Subject Shown : Type 0} (question : QuestionForm Subject Shown) where
  -- what an answer says of the ask with a ticket; undecided: this worker's turn with the ticket is spent on these entries
  abbrev pub IsAnswer : WindowForm → Evidence → Subject → ℕ → List EventId → AnswerOf Shown → Type 0
  IsAnswer window evidence subject ticket ids (Found shown) = question.shows window subject ids shown
  IsAnswer window evidence subject ticket ids (Impossible certificate) = IsRefuted question window subject ids evidence.shared certificate
  IsAnswer window evidence subject ticket ids (Undecided worker from to) =
      IsSpentBy (question.problem window) (question.query window subject ids) evidence.budget evidence.workers ticket worker from to

  -- an ask that has an answer already keeps it, and it holds
  abbrev pub IsAnswerTo : WindowForm → Evidence → Subject → ℕ → List EventId → Option (AnswerOf Shown) → AnswerOf Shown → Type 0
  IsAnswerTo window evidence subject ticket ids None answer = IsAnswer window evidence subject ticket ids answer
  IsAnswerTo window evidence subject ticket ids (Some given) answer = (answer ≡ given) × Holds question window subject ids evidence.shared answer

  -- an entry for each ask in order, the first of which has this ticket
  abbrev pub AnswersEach : WindowForm → Evidence → Subject → ℕ → List Instance → List (EntryOf Shown) → Type 0
  AnswersEach window evidence subject ticket [] [] = Unit {0}
  AnswersEach window evidence subject ticket (ask ∷ asks) (entry ∷ entries) =
      (entry.events ≡ ask.events) × IsAnswerTo window evidence subject ticket ask.events (question.given window subject ask.events) entry.answer
      × AnswersEach window evidence subject (ticket + tickets_of (question.given window subject ask.events)) asks entries
  AnswersEach window evidence subject ticket _ _ = ⊥

  -- what is recorded of a subject that has these asks, or too many
  abbrev pub AnswersListed : WindowForm → Evidence → Subject → ℕ → Result (List Instance) InstancesFault → PropertyBodyOf Shown → Type 0
  AnswersListed window evidence subject ticket (Err TooMany) body.TooMany = Unit {0}
  AnswersListed window evidence subject ticket (Ok asks) (body.Entries entries) = AnswersEach window evidence subject ticket asks entries
  AnswersListed window evidence subject ticket _ _ = ⊥

  -- a record for each subject in order, the first of which has this number and its first ask this ticket
  abbrev pub AnswersSubjects : WindowForm → Evidence → ℕ → ℕ → List Subject → List (PropertyRecordOf Shown) → Type 0
  AnswersSubjects window evidence number ticket [] [] = Unit {0}
  AnswersSubjects window evidence number ticket (subject ∷ subjects) (own ∷ more) =
      (own.name ≡ question.name subject) × AnswersListed window evidence subject ticket (question.asks window subject number) own.body
      × AnswersSubjects window evidence (number + 1) (ticket + tickets_listed question window subject (question.asks window subject number)) subjects more
  AnswersSubjects window evidence number ticket _ _ = ⊥

  -- what is recorded of a window: one that is left out is recorded as such, and has no workers; of any other the shared steps
  -- pass, each subject has its record, and the workers did what they are recorded with
  abbrev pub AnswersBody : WindowForm → ℕ → Evidence → Option LeftOut → WindowBodyOf Shown → Type 0
  AnswersBody window count evidence (Some why) body = RecordsLeftOut why body × (evidence.workers ≡ [])
  AnswersBody window count evidence None (recorded.Answers records) =
      SharedPasses (question.problem window) evidence.shared × AnswersSubjects window evidence 0 0 question.subjects records
      × AreWorkers (question.problem window) count (subjects_tickets question window 0 question.subjects) evidence.workers
  AnswersBody window count evidence None (recorded.TooLarge events clauses) = ⊥

  -- a window's record answers it, for so many workers and this budget
  abbrev pub AnswersWindow : ℕ → ℕ → WindowForm → WindowRecordOf Shown → Type 0
  AnswersWindow count budget window own =
      AnswersBody window count (record { budget = budget; shared = own.shared; workers = own.records }) (question.left_out window) own.body

  -- records answer a recording, window by window, for so many workers and this budget
  abbrev pub IsAnswered : RecordingForm → ℕ → ℕ → List (WindowRecordOf Shown) → Type 0
  IsAnswered recording count budget records = AllZip (AnswersWindow count budget) (all_windows recording) records
