-- How the answers of a window's workers are recorded, one after another.
use Rattle.std.specs.Prelude.{◌≡◌, List, [], ◌∷◌, Option, Some, None, drop, length}
use Rattle.gp_certificate.specs.declared.certificate.Certificate.{Certificate}
use Rattle.gp_certificate.specs.declared.step.Step.{Step}
use Rattle.gp_clause.specs.declared.problem.Problem.{Problem}
use Rattle.gp_clause.specs.declared.problem.Query.{Query}
use Rattle.gp_clause.specs.Valuation.{Meets}
use Rattle.gp_derivation.specs.declared.record.WorkerRecord.{WorkerRecord}
use Rattle.gp_raise.specs.Raised.{raised}
use Rattle.gp_report.specs.declared.record.AnswerOf.{AnswerOf}
use Rattle.gp_report.specs.declared.record.AnswerOf.TheVariants.{Found, Impossible, Undecided}
use Rattle.gp_report.specs.declared.record.EntryOf.{EntryOf}
use Rattle.gp_report.specs.declared.record.PropertyBodyOf.{PropertyBodyOf}
use Rattle.gp_report.specs.declared.record.PropertyBodyOf.TheVariants.{TooMany, Entries}
use Rattle.gp_sharing.specs.Compacted.{answer_by}
use Rattle.gp_window.specs.declared.schedule.EventId.{EventId}
use Rattle.gp_window.specs.WindowForm.{WindowForm}
use Rattle.gp_workers.specs.declared.work.WorkAnswer.{WorkAnswer}
use Rattle.gp_workers.specs.declared.work.WorkAnswer.TheVariants.{Model, Refuted, Spent}
use Rattle.gp_workers.specs.Work.{CanBeCertified, certificate_by}
use Rattle.gp_analysis.specs.declared.listing.Asked.{Asked}
use Rattle.gp_analysis.specs.Question.{QuestionForm}

-- a valuation meets the problem and the query, and a refutation has a certificate by what the workers did; of a spent budget
-- nothing is wanted before it is recorded
abbrev pub IsSound : Problem → Query → List WorkerRecord → WorkAnswer → Type 0
IsSound problem query workers (Model valuation) = Meets problem query valuation
IsSound problem query workers (Refuted worker last) = CanBeCertified (length problem.clauses) workers worker last
IsSound problem query workers (Spent worker from to) = Unit {0}

-- what is left of the answers after an ask, which takes one where it has none already
abbrev pub left_after : {Shown : Type 0} → Option (AnswerOf Shown) → List WorkAnswer → List WorkAnswer
left_after (Some given) answers = answers
left_after None answers = drop 1 answers

-- a certificate with its steps made into others
abbrev pub told_by : (List Step → List Step) → Certificate → Certificate
told_by made certificate = record { steps = made certificate.steps }

module _ {Subject Shown : Type 0} (question : QuestionForm Subject Shown) (lists : WindowForm → Subject → List EventId → Type 0) (workers : List WorkerRecord) where
  -- the first of these answers can be recorded of an ask, where it has none already
  abbrev pub CanRecordAsk : WindowForm → Subject → List EventId → Option (AnswerOf Shown) → List WorkAnswer → Type 0
  CanRecordAsk window subject ids (Some given) answers = Unit {0}
  CanRecordAsk window subject ids None [] = ⊥
  CanRecordAsk window subject ids None (answer ∷ answers) = IsSound (question.problem window) (question.query window subject ids) workers answer

  -- the first of these answers can be recorded of the asks of a subject
  abbrev pub CanRecordEach : WindowForm → Subject → List (Asked Shown) → List WorkAnswer → Type 0
  CanRecordEach window subject [] answers = Unit {0}
  CanRecordEach window subject (asked ∷ more) answers =
      lists window subject asked.ask.events × CanRecordAsk window subject asked.ask.events asked.given answers
      × CanRecordEach window subject more (left_after asked.given answers)

  -- the same of the asks that are listed of a subject, if any
  abbrev pub CanRecord : WindowForm → Subject → Option (List (Asked Shown)) → List WorkAnswer → Type 0
  CanRecord window subject None answers = Unit {0}
  CanRecord window subject (Some asked) answers = CanRecordEach window subject asked answers

-- by what the workers did, where the steps of certificates are made into others as they are told
module _ {Subject Shown : Type 0} (question : QuestionForm Subject Shown) (workers : List WorkerRecord) (made : List Step → List Step) where
  -- how an answer is recorded of an ask: a valuation as what it shows, a refutation as its certificate over the steps that are
  -- shared from the start, and a spent budget as it is
  abbrev pub RecordsAnswer : WindowForm → Subject → List EventId → WorkAnswer → AnswerOf Shown → Type 0
  RecordsAnswer window subject ids (Model valuation) (Found shown) = question.shows window subject ids shown
  RecordsAnswer window subject ids (Refuted worker last) (Impossible own) =
      own ≡ told_by made (raised (length (question.problem window).clauses) (length (question.shared window)) (certificate_by (length (question.problem window).clauses) workers worker last))
  RecordsAnswer window subject ids (Spent worker from to) (Undecided by begins ends) = (by ≡ worker) × (begins ≡ from) × (ends ≡ to)
  RecordsAnswer window subject ids _ _ = ⊥

  -- the answer that an ask has already is recorded, else the first of these answers is
  abbrev pub RecordsAsk : WindowForm → Subject → List EventId → Option (AnswerOf Shown) → List WorkAnswer → AnswerOf Shown → Type 0
  RecordsAsk window subject ids (Some given) answers own = own ≡ answer_by made given
  RecordsAsk window subject ids None [] own = ⊥
  RecordsAsk window subject ids None (answer ∷ answers) own = RecordsAnswer window subject ids answer own

  -- entries record asks by the first of these answers, in order, and the other answers are left
  abbrev pub RecordsEach : WindowForm → Subject → List (Asked Shown) → List WorkAnswer → List (EntryOf Shown) → List WorkAnswer → Type 0
  RecordsEach window subject [] answers [] left = answers ≡ left
  RecordsEach window subject (asked ∷ more) answers (entry ∷ entries) left =
      (entry.events ≡ asked.ask.events) × RecordsAsk window subject asked.ask.events asked.given answers entry.answer
      × RecordsEach window subject more (left_after asked.given answers) entries left
  RecordsEach window subject _ _ _ left = ⊥

  -- what is recorded of a subject by the first of these answers, where these of its asks are listed
  abbrev pub RecordsListed : WindowForm → Subject → Option (List (Asked Shown)) → List WorkAnswer → PropertyBodyOf Shown → List WorkAnswer → Type 0
  RecordsListed window subject None answers TooMany left = answers ≡ left
  RecordsListed window subject (Some asked) answers (Entries entries) left = RecordsEach window subject asked answers entries left
  RecordsListed window subject _ answers _ left = ⊥
