-- What a kept report says of a recording and its properties: each instance of each window is answered once, with evidence.
use Rattle.std.specs.Prelude.{ℕ, ◌≡◌, ◌+◌, true, List, [], ◌∷◌, Result, Ok, Err, map}
use Rattle.std.specs.List.{AllZip}
use Rattle.gp_constraint.specs.declared.fault.BaseFault.{BaseFault}
use Rattle.gp_constraint.specs.declared.fault.BaseFault.TheVariants.{TooLarge}
use Rattle.gp_constraint.specs.Base.{base_of}
use Rattle.gp_constraint.specs.Encoded.{base_due}
use Rattle.gp_constraint.specs.Query.{query_of}
use Rattle.gp_certificate.specs.declared.certificate.Certificate.{Certificate}
use Rattle.gp_certificate.specs.declared.step.Step.{Step}
use Rattle.gp_certificate.specs.Shared.{RefutesOver, SharedPasses}
use Rattle.gp_instance.specs.declared.instance.Instance.{Instance}
use Rattle.gp_instance.specs.declared.instance.InstancesFault.{InstancesFault}
use Rattle.gp_instance.specs.declared.instance.InstancesFault.TheVariants.{TooMany}
use Rattle.gp_instance.specs.Instances.{due_instances}
use Rattle.gp_instance.specs.Matches.{matches_events}
use Rattle.gp_property.specs.PropertyForm.{PropertyForm}
use Rattle.gp_replay.specs.Feasible.{IsFeasible}
use Rattle.gp_report.specs.Records.{Answer, Entry, PropertyBody, PropertyRecord, WindowBody, WindowRecord}
use Rattle.gp_report.specs.declared.record.AnswerOf.TheVariants.{Found, Impossible, Undecided}
use Rattle.gp_report.specs.declared.record.PropertyBodyOf.TheVariants as body
use Rattle.gp_report.specs.declared.record.WindowBodyOf.TheVariants as told
use Rattle.gp_report.specs.ReportForm.{ReportForm}
use Rattle.gp_window.specs.declared.schedule.EventId.{EventId}
use Rattle.gp_window.specs.RecordingForm.{RecordingForm}
use Rattle.gp_window.specs.WindowForm.{WindowForm, numbers_from, window_of}
use Rattle.gp_witness.specs.Possible.{IsPossible}
use Rattle.gp_workers.specs.Work.{IsSpentBy}
use Rattle.gp_analysis.specs.Answered.{AreWorkers, Evidence}
use Rattle.gp_patterns.specs.Tickets.{listed_count, properties_count}

-- found: the schedule is feasible and matches the instance
pub record IsShown (window : WindowForm) (property : PropertyForm) (ids schedule : List EventId) : Type 0 where
  pub feasible : IsFeasible window schedule
  pub matches : matches_events property ids schedule ≡ true

-- impossible: no feasible schedule matches the instance, and the certificate refutes its query over the shared steps
pub record IsRefuted (window : WindowForm) (property : PropertyForm) (ids : List EventId) (shared : List Step) (certificate : Certificate) : Type 0 where
  pub impossible : IsPossible window property ids → ⊥
  pub refutes : RefutesOver (base_of window) shared (query_of window property ids) certificate

-- what an answer says of the instance with a ticket; undecided: this worker's turn with the ticket is spent on these entries
abbrev pub IsAnswer : WindowForm → Evidence → PropertyForm → ℕ → List EventId → Answer → Type 0
IsAnswer window evidence property ticket ids (Found schedule) = IsShown window property ids schedule.events
IsAnswer window evidence property ticket ids (Impossible certificate) = IsRefuted window property ids evidence.shared certificate
IsAnswer window evidence property ticket ids (Undecided worker from to) =
    IsSpentBy (base_of window) (query_of window property ids) evidence.budget evidence.workers ticket worker from to

-- an entry for each instance in order, the first of which has this ticket
abbrev pub AnswersEach : WindowForm → Evidence → PropertyForm → ℕ → List Instance → List Entry → Type 0
AnswersEach window evidence property ticket [] [] = Unit {0}
AnswersEach window evidence property ticket (instance ∷ instances) (entry ∷ entries) =
    (entry.events ≡ instance.events) × IsAnswer window evidence property ticket instance.events entry.answer
    × AnswersEach window evidence property (ticket + 1) instances entries
AnswersEach window evidence property ticket _ _ = ⊥

-- what is recorded of a property that has these instances, or too many
abbrev pub AnswersListed : WindowForm → Evidence → PropertyForm → ℕ → Result (List Instance) InstancesFault → PropertyBody → Type 0
AnswersListed window evidence property ticket (Err TooMany) body.TooMany = Unit {0}
AnswersListed window evidence property ticket (Ok instances) (body.Entries entries) = AnswersEach window evidence property ticket instances entries
AnswersListed window evidence property ticket _ _ = ⊥

-- a record for each property in order, the first of which has this number and its first instance this ticket
abbrev pub AnswersProperties : WindowForm → Evidence → ℕ → ℕ → List PropertyForm → List PropertyRecord → Type 0
AnswersProperties window evidence number ticket [] [] = Unit {0}
AnswersProperties window evidence number ticket (property ∷ properties) (told ∷ more) =
    (told.name ≡ property.name) × AnswersListed window evidence property ticket (due_instances window property number) told.body
    × AnswersProperties window evidence (number + 1) (ticket + listed_count (due_instances window property number)) properties more
AnswersProperties window evidence number ticket _ _ = ⊥

-- what is recorded of a window by the constraints that it has: one that is too large is recorded with its two numbers, and has no
-- workers; of any other the shared steps pass, each property has its record, and the workers did what they are recorded with
abbrev pub AnswersBody : WindowForm → List PropertyForm → ℕ → Evidence → Result WindowForm BaseFault → WindowBody → Type 0
AnswersBody window properties count evidence (Err (TooLarge events clauses)) (told.TooLarge more_events more_clauses) =
    (more_events ≡ events) × (more_clauses ≡ clauses) × (evidence.workers ≡ [])
AnswersBody window properties count evidence (Ok encoded) (told.Answers records) =
    SharedPasses (base_of window) evidence.shared × AnswersProperties window evidence 0 0 properties records
    × AreWorkers (base_of window) count (properties_count window 0 properties) evidence.workers
AnswersBody window properties count evidence _ _ = ⊥

-- a window's record answers it, for so many workers and this budget
abbrev pub AnswersWindow : List PropertyForm → ℕ → ℕ → WindowForm → WindowRecord → Type 0
AnswersWindow properties count budget window told =
    AnswersBody window properties count (record { budget = budget; shared = told.shared; workers = told.records }) (base_due window) told.body

-- a report answers a recording and its properties, for so many workers and this budget
pub record IsAnswered (recording : RecordingForm) (properties : List PropertyForm) (count budget : ℕ) (report : ReportForm) : Type 0 where
  pub same_budget : report.budget ≡ budget
  pub windows : AllZip (AnswersWindow properties count budget) (map (window_of recording) (numbers_from 1 recording.manifest.epochs)) report.windows
