-- The first failure of a report, by its window, property, instance, reason and place.
use Rattle.std.specs.Prelude.{ℕ, ◌≡◌, ◌≢◌, ◌⊎◌, ◌+◌, ◌++◌, false, List, Result, Ok, Err, length}
use Rattle.std.specs.List.{enumerate_from}
use Rattle.gp_clause.specs.declared.problem.Problem.{Problem}
use Rattle.gp_clause.specs.declared.problem.Query.{Query}
use Rattle.gp_constraint.specs.declared.fault.BaseFault.{BaseFault}
use Rattle.gp_constraint.specs.declared.fault.BaseFault.TheVariants.{Memory, TooLarge}
use Rattle.gp_constraint.specs.Base.{base_of}
use Rattle.gp_constraint.specs.Encoded.{base_due}
use Rattle.gp_constraint.specs.Query.{query_of}
use Rattle.gp_certificate.specs.declared.certificate.Certificate.{Certificate}
use Rattle.gp_certificate.specs.declared.step.Step.{Step}
use Rattle.gp_certificate.specs.Certificate.{clauses_of}
use Rattle.gp_certificate.specs.Shared.{FirstFails, FirstOwnFails, PassesOver, SharedPasses}
use Rattle.gp_instance.specs.declared.instance.Instance.{Instance}
use Rattle.gp_instance.specs.declared.instance.InstancesFault.{InstancesFault}
use Rattle.gp_instance.specs.Instances.{due_instances}
use Rattle.gp_instance.specs.Matches.{matches_events}
use Rattle.gp_property.specs.PropertyForm.{PropertyForm}
use Rattle.gp_replay.specs.declared.rule.Rule.{Rule}
use Rattle.gp_replay.specs.Feasible.{IsFeasible, StuckAt}
use Rattle.gp_replay.specs.Step.{start_state}
use Rattle.gp_report.specs.Records.{Answer, Entry, PropertyBody, PropertyRecord, WindowBody, WindowRecord}
use Rattle.gp_report.specs.declared.record.AnswerOf.TheVariants.{Found, Impossible, Undecided}
use Rattle.gp_report.specs.declared.record.PropertyBodyOf.TheVariants as body
use Rattle.gp_report.specs.declared.record.WindowBodyOf.TheVariants as told
use Rattle.gp_report.specs.ReportForm.{ReportForm}
use Rattle.gp_window.specs.declared.schedule.EventId.{EventId}
use Rattle.gp_window.specs.RecordingForm.{RecordingForm}
use Rattle.gp_window.specs.WindowForm.{WindowForm}
use Rattle.gp_checker.specs.declared.failure.Failure.{Failure}
use Rattle.gp_checker.specs.declared.failure.Reason.{Reason}
use Rattle.gp_checker.specs.declared.failure.Reason.TheVariants.{WrongSize, WrongProperty, WrongEvents, Stuck, Unmatched, BadStep, Unrefuted, WrongBudget, BadSharedStep}
use Rattle.gp_checker.specs.Accepted.{AcceptsEntry, AcceptsProperty, AcceptsWindow, RefutesAtLast, HasSize}
use Rattle.gp_checker.specs.First.{FailsFirst}
use Rattle.gp_checker.specs.Reasons.{IsOfProperty, IsOfWindow}
use Rattle.gp_checker.specs.Windows.{IsRejectedBy}

-- a schedule is stuck at this place, or it is feasible and does not match
abbrev pub FailsSchedule : WindowForm → PropertyForm → List EventId → List EventId → Reason → ℕ → Type 0
FailsSchedule window property ids schedule Stuck place = (rule : Rule) × StuckAt window (start_state window) schedule place rule
FailsSchedule window property ids schedule Unmatched place =
    IsFeasible window schedule × (matches_events property ids schedule ≡ false) × (place ≡ 0)
FailsSchedule window property ids schedule _ place = ⊥

-- the own step at this place is the first that fails, or all pass and the last refutes no query
abbrev pub FailsCertificate : Problem → List Step → Query → Certificate → Reason → ℕ → Type 0
FailsCertificate problem shared query certificate BadStep place =
    FirstOwnFails problem.edges (problem.kinds ++ query.locals) problem.clauses (clauses_of shared) certificate.steps place
FailsCertificate problem shared query certificate Unrefuted place =
    PassesOver problem shared query certificate × (RefutesAtLast query certificate.steps → ⊥) × (place ≡ 0)
FailsCertificate problem shared query certificate _ place = ⊥

-- how the answer to an instance fails
abbrev pub FailsAnswer : WindowForm → ℕ → List Step → PropertyForm → List EventId → Answer → Reason → ℕ → Type 0
FailsAnswer window budget shared property ids (Found schedule) reason place =
    FailsSchedule window property ids schedule.events reason place
FailsAnswer window budget shared property ids (Impossible certificate) reason place =
    FailsCertificate (base_of window) shared (query_of window property ids) certificate reason place
FailsAnswer window budget shared property ids (Undecided worker from to) reason place =
    (reason ≡ WrongBudget) × (to ≢ from + budget) × (place ≡ 0)

-- an entry has other events than its instance, or its answer fails
abbrev pub FailsEntry : WindowForm → ℕ → List Step → PropertyForm → Failure → Instance → Entry → Type 0
FailsEntry window budget shared property failure instance entry =
    ((failure.reason ≡ WrongEvents) × (entry.events ≢ instance.events) × (failure.place ≡ 0))
    ⊎ ((entry.events ≡ instance.events)
    × FailsAnswer window budget shared property instance.events entry.answer failure.reason failure.place)

-- a property is told as having too many instances and has not, or the reverse, or there are not as many entries as
-- instances; or else an entry is the first that fails
abbrev pub FailsListed : WindowForm → ℕ → List Step → PropertyForm → Failure → Result (List Instance) InstancesFault → PropertyBody → Type 0
FailsListed window budget shared property failure (Err fault) body.TooMany = ⊥
FailsListed window budget shared property failure (Err fault) (body.Entries entries) = IsOfProperty WrongProperty failure
FailsListed window budget shared property failure (Ok instances) body.TooMany = IsOfProperty WrongProperty failure
FailsListed window budget shared property failure (Ok instances) (body.Entries entries) =
    (IsOfProperty WrongProperty failure × (length entries ≢ length instances))
    ⊎ ((length entries ≡ length instances)
    × FailsFirst (AcceptsEntry window budget shared property) (FailsEntry window budget shared property failure) ⊥ instances entries failure.instance)

-- a property is told with another name, or what is told of its instances fails
abbrev pub FailsProperty : WindowForm → ℕ → List Step → Failure → ℕ × PropertyForm → PropertyRecord → Type 0
FailsProperty window budget shared failure (number, property) told =
    (IsOfProperty WrongProperty failure × (told.name ≢ property.name))
    ⊎ ((told.name ≡ property.name)
    × FailsListed window budget shared property failure (due_instances window property number) told.body)

-- a shared step is the first that fails
abbrev pub FailsShared : Problem → List Step → Failure → Type 0
FailsShared problem shared failure =
    (failure.reason ≡ BadSharedStep) × (failure.property ≡ 0) × (failure.instance ≡ 0) × FirstFails problem shared failure.place

-- a window is told as too large and is not, or with other numbers, or the reverse; or a shared step fails; or else a
-- property is the first that fails, is missing or is surplus
abbrev pub FailsBody : WindowForm → ℕ → List PropertyForm → List Step → Failure → Result WindowForm BaseFault → WindowBody → Type 0
FailsBody window budget properties shared failure (Err (TooLarge events clauses)) body =
    IsOfWindow WrongSize failure × (HasSize events clauses body → ⊥)
FailsBody window budget properties shared failure (Err Memory) body = ⊥
FailsBody window budget properties shared failure (Ok encoded) (told.TooLarge events clauses) = IsOfWindow WrongSize failure
FailsBody window budget properties shared failure (Ok encoded) (told.Answers records) =
    FailsShared (base_of window) shared failure
    ⊎ (SharedPasses (base_of window) shared
    × FailsFirst (AcceptsProperty window budget shared) (FailsProperty window budget shared failure) (IsOfProperty WrongProperty failure)
    (enumerate_from 0 properties) records failure.property)

-- the record of a window fails
abbrev pub FailsWindow : List PropertyForm → ℕ → Failure → WindowForm → WindowRecord → Type 0
FailsWindow properties budget failure window told =
    FailsBody window budget properties told.shared failure (base_due window) told.body

-- a window is the first that fails, is missing or is surplus
abbrev pub IsRejected : RecordingForm → List PropertyForm → ReportForm → Failure → Type 0
IsRejected recording properties report =
    IsRejectedBy (AcceptsWindow properties report.budget) (FailsWindow properties report.budget) recording report.windows
