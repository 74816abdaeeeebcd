-- The first failure of a report of deadlocks, by its window, property, cycle, reason and place.
use Rattle.std.specs.Prelude.{ℕ, ◌≡◌, ◌≢◌, ◌⊎◌, ◌+◌, List, Result, Ok, Err, length}
use Rattle.gp_constraint.specs.declared.fault.BaseFault.{BaseFault}
use Rattle.gp_constraint.specs.declared.fault.BaseFault.TheVariants.{Memory, TooLarge}
use Rattle.gp_constraint.specs.Base.{base_of}
use Rattle.gp_constraint.specs.Encoded.{base_due}
use Rattle.gp_certificate.specs.declared.step.Step.{Step}
use Rattle.gp_certificate.specs.Shared.{SharedPasses}
use Rattle.gp_checker.specs.declared.failure.Failure.{Failure}
use Rattle.gp_checker.specs.declared.failure.Reason.{Reason}
use Rattle.gp_checker.specs.declared.failure.Reason.TheVariants.{WrongSize, WrongProperty, WrongEvents, Stuck, Unmatched, WrongBudget}
use Rattle.gp_checker.specs.Accepted.{HasSize}
use Rattle.gp_checker.specs.First.{FailsFirst}
use Rattle.gp_checker.specs.Reasons.{IsOfProperty, IsOfWindow}
use Rattle.gp_checker.specs.Rejected.{FailsCertificate, FailsShared}
use Rattle.gp_checker.specs.Windows.{IsRejectedBy}
use Rattle.gp_instance.specs.declared.instance.Instance.{Instance}
use Rattle.gp_instance.specs.declared.instance.InstancesFault.{InstancesFault}
use Rattle.gp_replay.specs.declared.rule.Rule.{Rule}
use Rattle.gp_replay.specs.Feasible.{IsFeasible, StuckAt}
use Rattle.gp_replay.specs.Step.{start_state}
use Rattle.gp_report.specs.Records.{Answer, Entry, PropertyBody, PropertyRecord, WindowBody, WindowRecord}
use Rattle.gp_report.specs.declared.record.AnswerOf.TheVariants.{Found, Impossible, Undecided}
use Rattle.gp_report.specs.declared.record.PropertyBodyOf.TheVariants as body
use Rattle.gp_report.specs.declared.record.WindowBodyOf.TheVariants as told
use Rattle.gp_report.specs.ReportForm.{ReportForm}
use Rattle.gp_stuck.specs.Cycles.{due_cycles}
use Rattle.gp_stuck.specs.Stuck.{EndsStuck}
use Rattle.gp_stuck.specs.StuckQuery.{stuck_query_of}
use Rattle.gp_window.specs.declared.schedule.EventId.{EventId}
use Rattle.gp_window.specs.RecordingForm.{RecordingForm}
use Rattle.gp_window.specs.WindowForm.{WindowForm}
use Rattle.gp_deadlock_checker.specs.Accepted.{AcceptsEntry, AcceptsProperty, AcceptsWindow, subjects}

-- a schedule is stuck at this place, or it is feasible and the events of the cycle do not block one another after it
abbrev pub FailsSchedule : WindowForm → List EventId → List EventId → Reason → ℕ → Type 0
FailsSchedule window ids schedule Stuck place = (rule : Rule) × StuckAt window (start_state window) schedule place rule
FailsSchedule window ids schedule Unmatched place = IsFeasible window schedule × (EndsStuck window ids schedule → ⊥) × (place ≡ 0)
FailsSchedule window ids schedule _ place = ⊥

-- how the answer to a cycle fails
abbrev pub FailsAnswer : WindowForm → ℕ → List Step → List EventId → Answer → Reason → ℕ → Type 0
FailsAnswer window budget shared ids (Found schedule) reason place = FailsSchedule window ids schedule.events reason place
FailsAnswer window budget shared ids (Impossible certificate) reason place =
    FailsCertificate (base_of window) shared (stuck_query_of window ids) certificate reason place
FailsAnswer window budget shared ids (Undecided worker from to) reason place =
    (reason ≡ WrongBudget) × (to ≢ from + budget) × (place ≡ 0)

-- an entry has other events than its cycle, or its answer fails
abbrev pub FailsEntry : WindowForm → ℕ → List Step → Failure → Instance → Entry → Type 0
FailsEntry window budget shared failure cycle entry =
    ((failure.reason ≡ WrongEvents) × (entry.events ≢ cycle.events) × (failure.place ≡ 0))
    ⊎ ((entry.events ≡ cycle.events)
    × FailsAnswer window budget shared cycle.events entry.answer failure.reason failure.place)

-- too many cycles are told and there are not, or the reverse, or there are not as many entries as cycles; or else an entry is the
-- first that fails
abbrev pub FailsListed : WindowForm → ℕ → List Step → Failure → Result (List Instance) InstancesFault → PropertyBody → Type 0
FailsListed window budget shared failure (Err fault) body.TooMany = ⊥
FailsListed window budget shared failure (Err fault) (body.Entries entries) = IsOfProperty WrongProperty failure
FailsListed window budget shared failure (Ok cycles) body.TooMany = IsOfProperty WrongProperty failure
FailsListed window budget shared failure (Ok cycles) (body.Entries entries) =
    (IsOfProperty WrongProperty failure × (length entries ≢ length cycles))
    ⊎ ((length entries ≡ length cycles)
    × FailsFirst (AcceptsEntry window budget shared) (FailsEntry window budget shared failure) ⊥ cycles entries failure.instance)

-- the property is told with another name, or what is told of the cycles fails
abbrev pub FailsProperty : WindowForm → ℕ → List Step → Failure → List ℕ → PropertyRecord → Type 0
FailsProperty window budget shared failure name told =
    (IsOfProperty WrongProperty failure × (told.name ≢ name))
    ⊎ ((told.name ≡ name) × FailsListed window budget shared failure (due_cycles window) told.body)

-- a window is told as too large and is not, or with other numbers, or the reverse; or a shared step fails; or else the property
-- fails, is missing, or is not the only one
abbrev pub FailsBody : WindowForm → ℕ → List Step → Failure → Result WindowForm BaseFault → WindowBody → Type 0
FailsBody window budget shared failure (Err (TooLarge events clauses)) body =
    IsOfWindow WrongSize failure × (HasSize events clauses body → ⊥)
FailsBody window budget shared failure (Err Memory) body = ⊥
FailsBody window budget shared failure (Ok encoded) (told.TooLarge events clauses) = IsOfWindow WrongSize failure
FailsBody window budget shared failure (Ok encoded) (told.Answers records) =
    FailsShared (base_of window) shared failure
    ⊎ (SharedPasses (base_of window) shared
    × FailsFirst (AcceptsProperty window budget shared) (FailsProperty window budget shared failure) (IsOfProperty WrongProperty failure)
    subjects records failure.property)

-- the record of a window fails
abbrev pub FailsWindow : ℕ → Failure → WindowForm → WindowRecord → Type 0
FailsWindow budget failure window told = FailsBody window budget told.shared failure (base_due window) told.body

-- a window is the first that fails, is missing or is surplus
abbrev pub IsRejectedDeadlocks : RecordingForm → ReportForm → Failure → Type 0
IsRejectedDeadlocks recording report = IsRejectedBy (AcceptsWindow report.budget) (FailsWindow report.budget) recording report.windows
