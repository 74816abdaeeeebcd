-- What a report has to say so that it is accepted, whoever wrote it.
use Rattle.std.specs.Prelude.{ℕ, ◌≡◌, ◌+◌, true, List, Result, Ok, Err, All, Contains}
use Rattle.std.specs.List.{AllZip, enumerate_from}
use Rattle.gp_clause.specs.declared.problem.Query.{Query}
use Rattle.gp_clause.specs.Lit.{opposite}
use Rattle.gp_constraint.specs.declared.fault.BaseFault.{BaseFault}
use Rattle.gp_constraint.specs.declared.fault.BaseFault.TheVariants.{TooLarge}
use Rattle.gp_constraint.specs.Base.{base_of}
use Rattle.gp_constraint.specs.Encoded.{base_due}
use Rattle.gp_constraint.specs.Query.{query_of}
use Rattle.gp_certificate.specs.declared.step.Step.{Step}
use Rattle.gp_certificate.specs.Certificate.{IsLast}
use Rattle.gp_certificate.specs.Shared.{PassesOver, SharedPasses}
use Rattle.gp_instance.specs.declared.instance.Instance.{Instance}
use Rattle.gp_instance.specs.declared.instance.InstancesFault.{InstancesFault}
use Rattle.gp_instance.specs.declared.instance.InstancesFault.TheVariants.{TooMany}
use Rattle.gp_instance.specs.Instances.{due_instances}
use Rattle.gp_instance.specs.Matches.{matches_events}
use Rattle.gp_property.specs.PropertyForm.{PropertyForm}
use Rattle.gp_replay.specs.Feasible.{IsFeasible}
use Rattle.gp_report.specs.Records.{Answer, Entry, PropertyBody, PropertyRecord, WindowBody, WindowRecord}
use Rattle.gp_report.specs.declared.record.AnswerOf.TheVariants.{Found, Impossible, Undecided}
use Rattle.gp_report.specs.declared.record.PropertyBodyOf.TheVariants as body
use Rattle.gp_report.specs.declared.record.WindowBodyOf.TheVariants as told
use Rattle.gp_report.specs.ReportForm.{ReportForm}
use Rattle.gp_window.specs.declared.schedule.EventId.{EventId}
use Rattle.gp_window.specs.RecordingForm.{RecordingForm}
use Rattle.gp_window.specs.WindowForm.{WindowForm}
use Rattle.gp_window.specs.Windows.{all_windows}

-- there is a last step, and it has negations of assumptions alone
abbrev pub RefutesAtLast : Query → List Step → Type 0
RefutesAtLast query steps = (step : Step) × IsLast steps step × All (λ lit. Contains query.assumed (opposite lit)) step.clause

-- found: the schedule is feasible and matches; impossible: each step passes over the shared ones, and the last refutes
-- the query; undecided: as many entries as the budget
abbrev pub AcceptsAnswer : WindowForm → ℕ → List Step → PropertyForm → List EventId → Answer → Type 0
AcceptsAnswer window budget shared property ids (Found schedule) =
    IsFeasible window schedule.events × (matches_events property ids schedule.events ≡ true)
AcceptsAnswer window budget shared property ids (Impossible certificate) =
    PassesOver (base_of window) shared (query_of window property ids) certificate
    × RefutesAtLast (query_of window property ids) certificate.steps
AcceptsAnswer window budget shared property ids (Undecided worker from to) = to ≡ from + budget

-- the entry of an instance has its events, and an answer that is accepted
abbrev pub AcceptsEntry : WindowForm → ℕ → List Step → PropertyForm → Instance → Entry → Type 0
AcceptsEntry window budget shared property instance entry =
    (entry.events ≡ instance.events) × AcceptsAnswer window budget shared property instance.events entry.answer

-- what is told of a property: too many exactly where there are too many instances, else an entry for each
abbrev pub AcceptsListed : WindowForm → ℕ → List Step → PropertyForm → Result (List Instance) InstancesFault → PropertyBody → Type 0
AcceptsListed window budget shared property (Err TooMany) body.TooMany = Unit {0}
AcceptsListed window budget shared property (Ok instances) (body.Entries entries) =
    AllZip (AcceptsEntry window budget shared property) instances entries
AcceptsListed window budget shared property _ _ = ⊥

-- the record of the property of this number has its name
abbrev pub AcceptsProperty : WindowForm → ℕ → List Step → ℕ × PropertyForm → PropertyRecord → Type 0
AcceptsProperty window budget shared (number, property) told =
    (told.name ≡ property.name) × AcceptsListed window budget shared property (due_instances window property number) told.body

-- a window is told as too large, with these two numbers
abbrev pub HasSize : ℕ → ℕ → WindowBody → Type 0
HasSize events clauses (told.TooLarge more_events more_clauses) = (more_events ≡ events) × (more_clauses ≡ clauses)
HasSize events clauses (told.Answers records) = ⊥

-- what is told of a window: too large exactly where it is, with its numbers; else the shared steps pass, and there is a
-- record for each property
abbrev pub AcceptsBody : WindowForm → ℕ → List PropertyForm → List Step → Result WindowForm BaseFault → WindowBody → Type 0
AcceptsBody window budget properties shared (Err (TooLarge events clauses)) body = HasSize events clauses body
AcceptsBody window budget properties shared (Ok encoded) (told.Answers records) =
    SharedPasses (base_of window) shared
    × AllZip (AcceptsProperty window budget shared) (enumerate_from 0 properties) records
AcceptsBody window budget properties shared _ _ = ⊥

-- the record of a window is accepted
abbrev pub AcceptsWindow : List PropertyForm → ℕ → WindowForm → WindowRecord → Type 0
AcceptsWindow properties budget window told = AcceptsBody window budget properties told.shared (base_due window) told.body

-- a report is accepted where it has a record for each window
abbrev pub IsAccepted : RecordingForm → List PropertyForm → ReportForm → Type 0
IsAccepted recording properties report = AllZip (AcceptsWindow properties report.budget) (all_windows recording) report.windows
