-- What a check finds: nothing exactly where what is told is accepted, else how it fails.
use Rattle.std.specs.Prelude.{ℕ, ◌≡◌, ◌-◌, ◌++◌, true, List, Option, Some, Result, Ok, IsSomeAnd, MatchOption, slice_get}
use Rattle.std.specs.List.{AllZip, enumerate_from}
use Rattle.gp_clause.specs.declared.problem.Query.{Query}
use Rattle.gp_constraint.specs.Base.{base_of}
use Rattle.gp_certificate.specs.declared.certificate.Certificate.{Certificate}
use Rattle.gp_certificate.specs.Certificate.{clauses_of}
use Rattle.gp_certificate.specs.Shared.{FirstOwnFails, PassesOver}
use Rattle.gp_instance.specs.declared.instance.Instance.{Instance}
use Rattle.gp_instance.specs.declared.instance.InstancesFault.{InstancesFault}
use Rattle.gp_instance.specs.Matches.{matches_events}
use Rattle.gp_property.specs.PropertyForm.{PropertyForm}
use Rattle.gp_replay.specs.Feasible.{IsFeasible}
use Rattle.gp_report.specs.Records.{Answer, Entry, PropertyBody, PropertyRecord, WindowBody, WindowRecord}
use Rattle.gp_report.specs.ReportForm.{ReportForm}
use Rattle.gp_window.specs.declared.schedule.EventId.{EventId}
use Rattle.gp_window.specs.WindowForm.{WindowForm}
use Rattle.gp_checker.specs.declared.failure.Failure.{Failure}
use Rattle.gp_checker.specs.declared.failure.Reason.TheVariants.{WindowCount, WrongProperty}
use Rattle.gp_checker.specs.Accepted.{AcceptsAnswer, AcceptsBody, AcceptsEntry, AcceptsListed, AcceptsProperty, AcceptsWindow, RefutesAtLast}
use Rattle.gp_checker.specs.Basis.{Basis}
use Rattle.gp_checker.specs.First.{FailsFirst, FailsHere}
use Rattle.gp_checker.specs.Reasons.{IsOfProperty, IsOfWindow}
use Rattle.gp_checker.specs.Rejected.{FailsAnswer, FailsBody, FailsCertificate, FailsEntry, FailsListed, FailsProperty, FailsSchedule, FailsWindow}

-- at a window of a report: it has no record of it, or the record fails
abbrev pub FindsAt : List PropertyForm → ReportForm → WindowForm → Option Failure → Type 0
FindsAt properties report window found =
    MatchOption found (IsSomeAnd (slice_get report.windows (window.number - 1)) (AcceptsWindow properties report.budget window))
    (λ failure. (failure.window ≡ window.number)
    × FailsHere (FailsWindow properties report.budget failure) (IsOfWindow WindowCount failure) (Some window) (slice_get report.windows (window.number - 1)))

-- of the record of a window
abbrev pub FindsWindow : List PropertyForm → ℕ → WindowForm → WindowRecord → Option Failure → Type 0
FindsWindow properties budget window told found =
    MatchOption found (AcceptsWindow properties budget window told) (λ failure. FailsWindow properties budget failure window told)

-- of what is told of a window that has constraints
abbrev pub FindsBody : Basis → List PropertyForm → WindowBody → Option Failure → Type 0
FindsBody basis properties body found =
    MatchOption found (AcceptsBody basis.window basis.budget properties basis.shared (Ok basis.window) body)
    (λ failure. FailsBody basis.window basis.budget properties basis.shared failure (Ok basis.window) body)

-- of the records of some properties
abbrev pub FindsProperties : Basis → List PropertyForm → List PropertyRecord → Option Failure → Type 0
FindsProperties basis properties records found =
    MatchOption found (AllZip (AcceptsProperty basis.window basis.budget basis.shared) (enumerate_from 0 properties) records)
    (λ failure. FailsFirst (AcceptsProperty basis.window basis.budget basis.shared) (FailsProperty basis.window basis.budget basis.shared failure)
    (IsOfProperty WrongProperty failure) (enumerate_from 0 properties) records failure.property)

-- of the record of the property of this number
abbrev pub FindsProperty : Basis → ℕ × PropertyForm → PropertyRecord → Option Failure → Type 0
FindsProperty basis property told found =
    MatchOption found (AcceptsProperty basis.window basis.budget basis.shared property told)
    (λ failure. FailsProperty basis.window basis.budget basis.shared failure property told)

-- of what is told of the instances of a property
abbrev pub FindsListed : Basis → PropertyForm → Result (List Instance) InstancesFault → PropertyBody → Option Failure → Type 0
FindsListed basis property due body found =
    MatchOption found (AcceptsListed basis.window basis.budget basis.shared property due body)
    (λ failure. FailsListed basis.window basis.budget basis.shared property failure due body)

-- of as many entries as instances
abbrev pub FindsEntries : Basis → PropertyForm → List Instance → List Entry → Option Failure → Type 0
FindsEntries basis property instances entries found =
    MatchOption found (AllZip (AcceptsEntry basis.window basis.budget basis.shared property) instances entries)
    (λ failure. FailsFirst (AcceptsEntry basis.window basis.budget basis.shared property) (FailsEntry basis.window basis.budget basis.shared property failure)
    ⊥ instances entries failure.instance)

-- of the entry of an instance
abbrev pub FindsEntry : Basis → PropertyForm → Instance → Entry → Option Failure → Type 0
FindsEntry basis property instance entry found =
    MatchOption found (AcceptsEntry basis.window basis.budget basis.shared property instance entry)
    (λ failure. FailsEntry basis.window basis.budget basis.shared property failure instance entry)

-- of the answer to an instance that has these events
abbrev pub FindsAnswer : Basis → PropertyForm → List EventId → Answer → Option Failure → Type 0
FindsAnswer basis property ids answer found =
    MatchOption found (AcceptsAnswer basis.window basis.budget basis.shared property ids answer)
    (λ failure. FailsAnswer basis.window basis.budget basis.shared property ids answer failure.reason failure.place)

-- of a schedule for an instance that has these events
abbrev pub FindsSchedule : WindowForm → PropertyForm → List EventId → List EventId → Option Failure → Type 0
FindsSchedule window property ids schedule found =
    MatchOption found (IsFeasible window schedule × (matches_events property ids schedule ≡ true))
    (λ failure. FailsSchedule window property ids schedule failure.reason failure.place)

-- of a certificate for a query
abbrev pub FindsCertificate : Basis → Query → Certificate → Option Failure → Type 0
FindsCertificate basis query certificate found =
    MatchOption found (PassesOver (base_of basis.window) basis.shared query certificate × RefutesAtLast query certificate.steps)
    (λ failure. FailsCertificate (base_of basis.window) basis.shared query certificate failure.reason failure.place)

-- of the steps of a certificate for a query: the place of the first that fails
abbrev pub FindsStep : Basis → Query → Certificate → Option ℕ → Type 0
FindsStep basis query certificate found =
    MatchOption found (PassesOver (base_of basis.window) basis.shared query certificate)
    (FirstOwnFails (base_of basis.window).edges ((base_of basis.window).kinds ++ query.locals) (base_of basis.window).clauses (clauses_of basis.shared) certificate.steps)
