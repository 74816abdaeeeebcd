-- What a report of deadlocks has to say so that it is accepted, whoever wrote it.
use Rattle.std.specs.Prelude.{ℕ, ◌≡◌, ◌+◌, List, [], ◌∷◌, Result, Ok, Err, codes}
use Rattle.std.specs.List.{AllZip}
use Rattle.gp_constraint.specs.declared.fault.BaseFault.{BaseFault}
use Rattle.gp_constraint.specs.declared.fault.BaseFault.TheVariants.{TooLarge}
use Rattle.gp_constraint.specs.Base.{base_of}
use Rattle.gp_constraint.specs.Encoded.{base_due}
use Rattle.gp_certificate.specs.declared.step.Step.{Step}
use Rattle.gp_certificate.specs.Shared.{PassesOver, SharedPasses}
use Rattle.gp_checker.specs.Accepted.{HasSize, RefutesAtLast}
use Rattle.gp_instance.specs.declared.instance.Instance.{Instance}
use Rattle.gp_instance.specs.declared.instance.InstancesFault.{InstancesFault}
use Rattle.gp_instance.specs.declared.instance.InstancesFault.TheVariants.{TooMany}
use Rattle.gp_report.specs.Records.{Answer, Entry, PropertyBody, PropertyRecord, WindowBody, WindowRecord}
use Rattle.gp_report.specs.declared.record.AnswerOf.TheVariants.{Found, Impossible, Undecided}
use Rattle.gp_report.specs.declared.record.PropertyBodyOf.TheVariants as body
use Rattle.gp_report.specs.declared.record.WindowBodyOf.TheVariants as told
use Rattle.gp_report.specs.ReportForm.{ReportForm}
use Rattle.gp_stuck.specs.Cycles.{due_cycles}
use Rattle.gp_stuck.specs.Stuck.{EndsStuck}
use Rattle.gp_stuck.specs.StuckQuery.{stuck_query_of}
use Rattle.gp_window.specs.declared.schedule.EventId.{EventId}
use Rattle.gp_window.specs.RecordingForm.{RecordingForm}
use Rattle.gp_window.specs.WindowForm.{WindowForm}
use Rattle.gp_window.specs.Windows.{all_windows}

-- the properties of a report of deadlocks: one, of this name
abbrev pub subjects : List (List ℕ)
subjects = codes "deadlock" ∷ []

-- found: after the schedule the events of the cycle block one another; impossible: each step passes over the shared ones, and the
-- last refutes the query of the cycle; undecided: as many entries as the budget
abbrev pub AcceptsAnswer : WindowForm → ℕ → List Step → List EventId → Answer → Type 0
AcceptsAnswer window budget shared ids (Found schedule) = EndsStuck window ids schedule.events
AcceptsAnswer window budget shared ids (Impossible certificate) =
    PassesOver (base_of window) shared (stuck_query_of window ids) certificate
    × RefutesAtLast (stuck_query_of window ids) certificate.steps
AcceptsAnswer window budget shared ids (Undecided worker from to) = to ≡ from + budget

-- the entry of a cycle has its events, and an answer that is accepted
abbrev pub AcceptsEntry : WindowForm → ℕ → List Step → Instance → Entry → Type 0
AcceptsEntry window budget shared cycle entry =
    (entry.events ≡ cycle.events) × AcceptsAnswer window budget shared cycle.events entry.answer

-- what is told of the cycles: too many exactly where there are too many, else an entry for each
abbrev pub AcceptsListed : WindowForm → ℕ → List Step → Result (List Instance) InstancesFault → PropertyBody → Type 0
AcceptsListed window budget shared (Err TooMany) body.TooMany = Unit {0}
AcceptsListed window budget shared (Ok cycles) (body.Entries entries) = AllZip (AcceptsEntry window budget shared) cycles entries
AcceptsListed window budget shared _ _ = ⊥

-- the record of the property of this name
abbrev pub AcceptsProperty : WindowForm → ℕ → List Step → List ℕ → PropertyRecord → Type 0
AcceptsProperty window budget shared name told =
    (told.name ≡ name) × AcceptsListed window budget shared (due_cycles window) told.body

-- what is told of a window: too large exactly where it is, with its numbers; else the shared steps pass, and there is one record
abbrev pub AcceptsBody : WindowForm → ℕ → List Step → Result WindowForm BaseFault → WindowBody → Type 0
AcceptsBody window budget shared (Err (TooLarge events clauses)) body = HasSize events clauses body
AcceptsBody window budget shared (Ok encoded) (told.Answers records) =
    SharedPasses (base_of window) shared × AllZip (AcceptsProperty window budget shared) subjects records
AcceptsBody window budget shared _ _ = ⊥

-- the record of a window is accepted
abbrev pub AcceptsWindow : ℕ → WindowForm → WindowRecord → Type 0
AcceptsWindow budget window told = AcceptsBody window budget told.shared (base_due window) told.body

-- a report is accepted where it has a record for each window
abbrev pub IsAcceptedDeadlocks : RecordingForm → ReportForm → Type 0
IsAcceptedDeadlocks recording report = AllZip (AcceptsWindow report.budget) (all_windows recording) report.windows
