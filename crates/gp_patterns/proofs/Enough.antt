-- In a report that answers a recording and its properties no entry is undecided for which the budget is enough.
use Rattle.std.proofs.Common.{◌≡◌, refl, subst, ℕ, ◌+◌, ◌-◌, ◌<◌, ◌≤◌, ◌^◌, Some, None, Option, List, [], ◌∷◌, Result, Ok, Err, length, All, Contains, inl, inr, arith}
use Rattle.std.specs.Prelude.{IsSomeAnd}
use Rattle.std.specs.List.{AllZip, slice_get}
use Rattle.std.proofs.lemmas.List.Elements.{All-cons, All-contains, All-nil}
use Rattle.gp_base.specs.ListLaws.{contains_got, first_or_rest, nothing_in}
use Rattle.gp_clause.specs.declared.problem.Problem.{Problem}
use Rattle.gp_clause.specs.declared.problem.Query.{Query}
use Rattle.gp_constraint.specs.declared.fault.BaseFault.{BaseFault}
use Rattle.gp_constraint.specs.declared.fault.BaseFault.TheVariants.{TooLarge}
use Rattle.gp_constraint.specs.declared.fault.BaseFault.TheVariants as no_window
use Rattle.gp_constraint.specs.Base.{base_of}
use Rattle.gp_constraint.specs.Encoded.{base_due}
use Rattle.gp_constraint.specs.Query.{query_of}
use Rattle.gp_derivation.specs.declared.log.LogEntry.{LogEntry}
use Rattle.gp_derivation.specs.declared.record.Turn.{Turn}
use Rattle.gp_derivation.specs.declared.record.WorkerRecord.{WorkerRecord}
use Rattle.gp_derivation.specs.Spent.{HasTurnSpentOn}
use Rattle.gp_instance.specs.declared.instance.Instance.{Instance}
use Rattle.gp_instance.specs.declared.instance.InstancesFault.{InstancesFault}
use Rattle.gp_instance.specs.declared.instance.InstancesFault.TheVariants.{Memory, TooMany}
use Rattle.gp_instance.specs.Instances.{due_instances}
use Rattle.gp_property.specs.PropertyForm.{PropertyForm}
use Rattle.gp_report.specs.Records.{Answer, Entry, PropertyBody, PropertyRecord, WindowBody, WindowRecord}
use Rattle.gp_report.specs.declared.record.AnswerOf.TheVariants.{Found, Impossible, Undecided}
use Rattle.gp_report.specs.declared.record.PropertyBodyOf.TheVariants as body
use Rattle.gp_report.specs.declared.record.WindowBodyOf.TheVariants as told
use Rattle.gp_report.specs.Entries.{entries_in}
use Rattle.gp_window.specs.declared.schedule.EventId.{EventId}
use Rattle.gp_window.specs.WindowForm.{WindowForm}
use Rattle.gp_workers.specs.Record.{IsWorkerRecord, TurnsCover}
use Rattle.gp_workers.specs.Work.{IsSpentBy}
use Rattle.gp_analysis.specs.Answered.{Evidence}
use Rattle.gp_patterns.specs.Answered.{AnswersBody, AnswersEach, AnswersListed, AnswersProperties, AnswersWindow, IsAnswer}
use Rattle.gp_patterns.specs.Enough.{DecidesBody, DecidesEntry, DecidesProperty, EnoughDecides, IsDecided, IsEnough}
use Rattle.gp_patterns.proofs.Few.{spent_few}

-- a turn of those that cover a log learned from no place before the one where it begins
in_order : (log : List LogEntry) (from to : ℕ) (turns : List Turn) (turn : Turn) → TurnsCover log from to turns → Contains turns turn → turn.begins ≤ turn.learned
in_order log from to [] turn covered is = absurd (nothing_in turn is)
in_order log from to (first ∷ turns) turn covered is =
    elim (first_or_rest first turns turn is) [
      | inl same ↦ subst (λ (t : Turn). t.begins ≤ t.learned) same covered.1.order.0
      | inr rest ↦ in_order log first.ends to turns turn covered.2 rest
    ]

below : (m n : ℕ) → m < n → n ≤ m → ⊥
below m n less more = omega (arith, less, more)

-- a budget that a worker spent is not enough
not_enough : (problem : Problem) (query : Query) (budget : ℕ) (workers : List WorkerRecord) (ticket worker from to : ℕ) → All (IsWorkerRecord problem) workers
    → IsSpentBy problem query budget workers ticket worker from to → 3 ^ (length problem.kinds + length query.locals) ≤ budget → ⊥
not_enough problem query budget workers ticket worker from to each spent = at (slice_get workers (worker - 1)) refl spent.own
  where
    at : (found : Option WorkerRecord) → slice_get workers (worker - 1) ≡ found → IsSomeAnd found (λ own. HasTurnSpentOn problem query own ticket budget from to)
        → 3 ^ (length problem.kinds + length query.locals) ≤ budget → ⊥
    at None got own enough = absurd own
    at (Some record_of) got own enough =
        let worked : IsWorkerRecord problem record_of = All-contains (IsWorkerRecord problem) workers record_of each (contains_got workers (worker - 1) record_of got) in
        let order : own.0.begins ≤ own.0.learned = in_order record_of.log 0 (length record_of.log) record_of.turns own.0 worked.covered own.1 in
        below budget (3 ^ (length problem.kinds + length query.locals)) (spent_few problem query record_of.log budget own.0 from to order own.3) enough

answer_decided : (window : WindowForm) (evidence : Evidence) (property : PropertyForm) (ticket : ℕ) (ids : List EventId) (answer : Answer) → All (IsWorkerRecord (base_of window)) evidence.workers
    → IsAnswer window evidence property ticket ids answer → IsEnough evidence.budget window property ids → IsDecided answer
answer_decided window evidence property ticket ids (Found schedule) each is enough = tt
answer_decided window evidence property ticket ids (Impossible certificate) each is enough = tt
answer_decided window evidence property ticket ids (Undecided worker from to) each is enough =
    not_enough (base_of window) (query_of window property ids) evidence.budget evidence.workers ticket worker from to each is enough

entry_decided : (window : WindowForm) (evidence : Evidence) (property : PropertyForm) (ticket : ℕ) (ids : List EventId) (entry : Entry) → All (IsWorkerRecord (base_of window)) evidence.workers
    → entry.events ≡ ids → IsAnswer window evidence property ticket ids entry.answer → DecidesEntry evidence.budget window property entry
entry_decided window evidence property ticket ids entry each same is enough =
    answer_decided window evidence property ticket ids entry.answer each is (subst (λ (events : List EventId). IsEnough evidence.budget window property events) same enough)

entries_decided : (window : WindowForm) (evidence : Evidence) (property : PropertyForm) (ticket : ℕ) (instances : List Instance) (entries : List Entry) → All (IsWorkerRecord (base_of window)) evidence.workers
    → AnswersEach window evidence property ticket instances entries → All (DecidesEntry evidence.budget window property) entries
entries_decided window evidence property ticket [] [] each are = All-nil (DecidesEntry evidence.budget window property)
entries_decided window evidence property ticket [] (entry ∷ entries) each are = absurd are
entries_decided window evidence property ticket (instance ∷ instances) [] each are = absurd are
entries_decided window evidence property ticket (instance ∷ instances) (entry ∷ entries) each are =
    All-cons (DecidesEntry evidence.budget window property) entry entries (entry_decided window evidence property ticket instance.events entry each are.0 are.1)
    (entries_decided window evidence property (ticket + 1) instances entries each are.2)

listed_decided : (window : WindowForm) (evidence : Evidence) (property : PropertyForm) (ticket : ℕ) (due : Result (List Instance) InstancesFault) (listed : PropertyBody)
    → All (IsWorkerRecord (base_of window)) evidence.workers → AnswersListed window evidence property ticket due listed → All (DecidesEntry evidence.budget window property) (entries_in listed)
listed_decided window evidence property ticket due body.TooMany each are = All-nil (DecidesEntry evidence.budget window property)
listed_decided window evidence property ticket (Ok instances) (body.Entries entries) each are = entries_decided window evidence property ticket instances entries each are
listed_decided window evidence property ticket (Err TooMany) (body.Entries entries) each are = absurd are
listed_decided window evidence property ticket (Err Memory) (body.Entries entries) each are = absurd are

properties_decided : (window : WindowForm) (evidence : Evidence) (number ticket : ℕ) (properties : List PropertyForm) (records : List PropertyRecord) → All (IsWorkerRecord (base_of window)) evidence.workers
    → AnswersProperties window evidence number ticket properties records → AllZip (DecidesProperty evidence.budget window) properties records
properties_decided window evidence number ticket [] [] each are = are
properties_decided window evidence number ticket [] (one ∷ records) each are = absurd are
properties_decided window evidence number ticket (property ∷ properties) [] each are = absurd are
properties_decided window evidence number ticket (property ∷ properties) (one ∷ records) each are = (
  listed_decided window evidence property ticket (due_instances window property number) one.body each are.1,
  properties_decided window evidence (number + 1) _ properties records each are.2,
)

body_decided : (window : WindowForm) (properties : List PropertyForm) (count : ℕ) (evidence : Evidence) (due : Result WindowForm BaseFault) (answered : WindowBody)
    → AnswersBody window properties count evidence due answered → DecidesBody properties evidence.budget window answered
body_decided window properties count evidence due (told.TooLarge events clauses) are = tt
body_decided window properties count evidence (Ok encoded) (told.Answers records) are = properties_decided window evidence 0 0 properties records are.2.each are.1
body_decided window properties count evidence (Err (TooLarge events clauses)) (told.Answers records) are = absurd are
body_decided window properties count evidence (Err no_window.Memory) (told.Answers records) are = absurd are

all_decided : (properties : List PropertyForm) (count budget : ℕ) (windows : List WindowForm) (records : List WindowRecord) → AllZip (AnswersWindow properties count budget) windows records
    → AllZip (λ (window : WindowForm) (one : WindowRecord). DecidesBody properties budget window one.body) windows records
all_decided properties count budget [] [] are = are
all_decided properties count budget [] (one ∷ records) are = absurd are
all_decided properties count budget (window ∷ windows) [] are = absurd are
all_decided properties count budget (window ∷ windows) (one ∷ records) are = (
  body_decided window properties count (record { budget = budget; shared = one.shared; workers = one.records }) (base_due window) one.body are.0,
  all_decided properties count budget windows records are.1,
)

pub enough_decides_lem : EnoughDecides
enough_decides_lem recording properties count budget report answered = all_decided properties count budget _ report.windows answered.windows
