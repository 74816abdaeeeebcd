-- In records that answer a question no entry is undecided for which the budget is enough.
use Rattle.std.proofs.Common.{◌≡◌, refl, subst, ℕ, ◌+◌, ◌-◌, ◌<◌, ◌≤◌, ◌^◌, Some, None, Option, List, [], ◌∷◌, Result, Ok, Err, length, All, Contains, inl, inr, arith}
use Rattle.std.specs.Prelude.{IsSomeAnd}
use Rattle.std.specs.List.{AllZip, slice_get}
use Rattle.std.proofs.lemmas.List.Elements.{All-cons, All-contains, All-nil}
use Rattle.gp_base.specs.ListLaws.{contains_got, first_or_rest, nothing_in}
use Rattle.gp_clause.specs.declared.problem.Problem.{Problem}
use Rattle.gp_clause.specs.declared.problem.Query.{Query}
use Rattle.gp_derivation.specs.declared.log.LogEntry.{LogEntry}
use Rattle.gp_derivation.specs.declared.record.Turn.{Turn}
use Rattle.gp_derivation.specs.declared.record.WorkerRecord.{WorkerRecord}
use Rattle.gp_derivation.specs.Spent.{HasTurnSpentOn}
use Rattle.gp_instance.specs.declared.instance.Instance.{Instance}
use Rattle.gp_instance.specs.declared.instance.InstancesFault.{InstancesFault}
use Rattle.gp_instance.specs.declared.instance.InstancesFault.TheVariants.{Memory, TooMany}
use Rattle.gp_report.specs.declared.record.AnswerOf.{AnswerOf}
use Rattle.gp_report.specs.declared.record.AnswerOf.TheVariants.{Found, Impossible, Undecided}
use Rattle.gp_report.specs.declared.record.EntryOf.{EntryOf}
use Rattle.gp_report.specs.declared.record.PropertyBodyOf.{PropertyBodyOf}
use Rattle.gp_report.specs.declared.record.PropertyBodyOf.TheVariants as body
use Rattle.gp_report.specs.declared.record.PropertyRecordOf.{PropertyRecordOf}
use Rattle.gp_report.specs.declared.record.WindowBodyOf.{WindowBodyOf}
use Rattle.gp_report.specs.declared.record.WindowBodyOf.TheVariants as recorded
use Rattle.gp_report.specs.declared.record.WindowRecordOf.{WindowRecordOf}
use Rattle.gp_report.specs.Entries.{entries_in}
use Rattle.gp_window.specs.declared.schedule.EventId.{EventId}
use Rattle.gp_window.specs.WindowForm.{WindowForm}
use Rattle.gp_window.specs.Windows.{all_windows}
use Rattle.gp_workers.specs.Record.{IsWorkerRecord, TurnsCover}
use Rattle.gp_workers.specs.Work.{IsSpentBy}
use Rattle.gp_analysis.specs.declared.question.LeftOut.{LeftOut}
use Rattle.gp_analysis.specs.declared.question.LeftOut.TheVariants as out
use Rattle.gp_analysis.specs.Answered.{AnswersBody, AnswersEach, AnswersListed, AnswersSubjects, AnswersWindow, Evidence, IsAnswer, IsAnswerTo}
use Rattle.gp_analysis.specs.Question.{Holds, QuestionForm}
use Rattle.gp_analysis.specs.Tickets.{tickets_of}
use Rattle.gp_agreement.specs.Enough.{DecidesBody, DecidesEntry, DecidesSubject, EnoughDecides, IsDecided, IsEnough}
use Rattle.gp_agreement.proofs.Few.{spent_few}

-- a turn of those that cover a log learned from no place before the one where it begins
pub in_order : (log : List LogEntry) (from to : ℕ) (turns : List Turn) (turn : Turn) → TurnsCover log from to turns → Contains turns turn → turn.begins ≤ turn.learned
in_order log from to [] turn covered is = absurd (nothing_in turn is)
in_order log from to (first ∷ turns) turn covered is =
    elim (first_or_rest first turns turn is) [
      | inl same ↦ subst (λ (t : Turn). t.begins ≤ t.learned) same covered.1.order.0
      | inr rest ↦ in_order log first.ends to turns turn covered.2 rest
    ]

pub below : (m n : ℕ) → m < n → n ≤ m → ⊥
below m n less more = omega (arith, less, more)

-- a budget that a worker spent is not enough
not_enough : (problem : Problem) (query : Query) (budget : ℕ) (workers : List WorkerRecord) (ticket worker from to : ℕ) → All (IsWorkerRecord problem) workers
    → IsSpentBy problem query budget workers ticket worker from to → 3 ^ (length problem.kinds + length query.locals) ≤ budget → ⊥
not_enough problem query budget workers ticket worker from to each spent = at (slice_get workers (worker - 1)) refl spent.own
  where
    at : (found : Option WorkerRecord) → slice_get workers (worker - 1) ≡ found → IsSomeAnd found (λ own. HasTurnSpentOn problem query own ticket budget from to)
        → 3 ^ (length problem.kinds + length query.locals) ≤ budget → ⊥
    at None got own enough = absurd own
    at (Some record_of) got own enough =
        let worked : IsWorkerRecord problem record_of = All-contains (IsWorkerRecord problem) workers record_of each (contains_got workers (worker - 1) record_of got) in
        let order : own.0.begins ≤ own.0.learned = in_order record_of.log 0 (length record_of.log) record_of.turns own.0 worked.covered own.1 in
        below budget (3 ^ (length problem.kinds + length query.locals)) (spent_few problem query record_of.log budget own.0 from to order own.3) enough

module _ {Subject Shown : Type 0} (question : QuestionForm Subject Shown) (window : WindowForm) (evidence : Evidence) where
  holding_decided : (subject : Subject) (ids : List EventId) (answer : AnswerOf Shown) → Holds question window subject ids evidence.shared answer → IsDecided answer
  holding_decided subject ids (Found shown) is = tt
  holding_decided subject ids (Impossible certificate) is = tt
  holding_decided subject ids (Undecided worker from to) is = absurd is

  module _ (each : All (IsWorkerRecord (question.problem window)) evidence.workers) where
    answer_decided : (subject : Subject) (ticket : ℕ) (ids : List EventId) (answer : AnswerOf Shown)
        → IsAnswer question window evidence subject ticket ids answer → IsEnough question evidence.budget window subject ids → IsDecided answer
    answer_decided subject ticket ids (Found shown) is enough = tt
    answer_decided subject ticket ids (Impossible certificate) is enough = tt
    answer_decided subject ticket ids (Undecided worker from to) is enough =
        not_enough (question.problem window) (question.query window subject ids) evidence.budget evidence.workers ticket worker from to each is enough

    given_decided : (subject : Subject) (ticket : ℕ) (ids : List EventId) (given : Option (AnswerOf Shown)) (answer : AnswerOf Shown)
        → IsAnswerTo question window evidence subject ticket ids given answer → IsEnough question evidence.budget window subject ids → IsDecided answer
    given_decided subject ticket ids None answer is enough = answer_decided subject ticket ids answer is enough
    given_decided subject ticket ids (Some given) answer is enough = holding_decided subject ids answer is.1

    entry_decided : (subject : Subject) (ticket : ℕ) (ids : List EventId) (entry : EntryOf Shown) → entry.events ≡ ids
        → IsAnswerTo question window evidence subject ticket ids (question.given window subject ids) entry.answer → DecidesEntry question evidence.budget window subject entry
    entry_decided subject ticket ids entry same is enough =
        given_decided subject ticket ids (question.given window subject ids) entry.answer is
        (subst (λ (events : List EventId). IsEnough question evidence.budget window subject events) same enough)

    entries_decided : (subject : Subject) (ticket : ℕ) (asks : List Instance) (entries : List (EntryOf Shown))
        → AnswersEach question window evidence subject ticket asks entries → All (DecidesEntry question evidence.budget window subject) entries
    entries_decided subject ticket [] [] are = All-nil (DecidesEntry question evidence.budget window subject)
    entries_decided subject ticket [] (entry ∷ entries) are = absurd are
    entries_decided subject ticket (ask ∷ asks) [] are = absurd are
    entries_decided subject ticket (ask ∷ asks) (entry ∷ entries) are =
        All-cons (DecidesEntry question evidence.budget window subject) entry entries (entry_decided subject ticket ask.events entry are.0 are.1)
        (entries_decided subject (ticket + tickets_of (question.given window subject ask.events)) asks entries are.2)

    listed_decided : (subject : Subject) (ticket : ℕ) (found : Result (List Instance) InstancesFault) (listed : PropertyBodyOf Shown)
        → AnswersListed question window evidence subject ticket found listed → All (DecidesEntry question evidence.budget window subject) (entries_in listed)
    listed_decided subject ticket found body.TooMany are = All-nil (DecidesEntry question evidence.budget window subject)
    listed_decided subject ticket (Ok asks) (body.Entries entries) are = entries_decided subject ticket asks entries are
    listed_decided subject ticket (Err TooMany) (body.Entries entries) are = absurd are
    listed_decided subject ticket (Err Memory) (body.Entries entries) are = absurd are

    subjects_decided : (number ticket : ℕ) (subjects : List Subject) (records : List (PropertyRecordOf Shown))
        → AnswersSubjects question window evidence number ticket subjects records → AllZip (DecidesSubject question evidence.budget window) subjects records
    subjects_decided number ticket [] [] are = are
    subjects_decided number ticket [] (own ∷ records) are = absurd are
    subjects_decided number ticket (subject ∷ subjects) [] are = absurd are
    subjects_decided number ticket (subject ∷ subjects) (own ∷ records) are =
        (listed_decided subject ticket (question.asks window subject number) own.body are.1, subjects_decided (number + 1) _ subjects records are.2)

  body_decided : (count : ℕ) (why : Option LeftOut) (answered : WindowBodyOf Shown)
      → AnswersBody question window count evidence why answered → DecidesBody question evidence.budget window why answered
  body_decided count why (recorded.TooLarge events clauses) are = tt
  body_decided count (Some out.Unasked) (recorded.Answers records) are = are.0
  body_decided count (Some (out.TooLarge large)) (recorded.Answers records) are = absurd are.0
  body_decided count None (recorded.Answers records) are = subjects_decided are.2.each 0 0 question.subjects records are.1

all_decided : {Subject Shown : Type 0} (question : QuestionForm Subject Shown) (count budget : ℕ) (windows : List WindowForm) (records : List (WindowRecordOf Shown))
    → AllZip (AnswersWindow question count budget) windows records
    → AllZip (λ (window : WindowForm) (own : WindowRecordOf Shown). DecidesBody question budget window (question.left_out window) own.body) windows records
all_decided question count budget [] [] are = are
all_decided question count budget [] (own ∷ records) are = absurd are
all_decided question count budget (window ∷ windows) [] are = absurd are
all_decided question count budget (window ∷ windows) (own ∷ records) are = (
  body_decided question window (record { budget = budget; shared = own.shared; workers = own.records }) count (question.left_out window) own.body are.0,
  all_decided question count budget windows records are.1,
)

pub enough_decided : {Subject Shown : Type 0} (question : QuestionForm Subject Shown) → EnoughDecides question
enough_decided question recording count budget records answered = all_decided question count budget (all_windows recording) records answered
