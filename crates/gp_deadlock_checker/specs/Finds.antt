-- What a check finds: nothing exactly where what is told is accepted, else how it fails.
use Rattle.std.specs.Prelude.{ℕ, ◌≡◌, ◌-◌, Bool, true, ◌==◌, All, List, Option, Some, Result, Ok, IsSomeAnd, MatchOption, slice_get}
use Rattle.std.specs.List.{AllZip, list_all}
use Rattle.gp_checker.specs.declared.failure.Failure.{Failure}
use Rattle.gp_checker.specs.declared.failure.Reason.TheVariants.{WindowCount, WrongProperty}
use Rattle.gp_checker.specs.Basis.{Basis}
use Rattle.gp_checker.specs.First.{FailsFirst, FailsHere}
use Rattle.gp_checker.specs.Reasons.{IsOfProperty, IsOfWindow}
use Rattle.gp_instance.specs.declared.instance.Instance.{Instance}
use Rattle.gp_instance.specs.declared.instance.InstancesFault.{InstancesFault}
use Rattle.gp_replay.specs.declared.state.State.{State}
use Rattle.gp_replay.specs.Step.{count_of}
use Rattle.gp_report.specs.Records.{Answer, Entry, PropertyBody, PropertyRecord, WindowBody, WindowRecord}
use Rattle.gp_report.specs.ReportForm.{ReportForm}
use Rattle.gp_stuck.specs.Cycle.{is_cycle}
use Rattle.gp_stuck.specs.Stuck.{EndsStuck}
use Rattle.gp_window.specs.declared.schedule.EventId.{EventId}
use Rattle.gp_window.specs.WindowForm.{WindowForm}
use Rattle.gp_deadlock_checker.specs.Accepted.{AcceptsAnswer, AcceptsBody, AcceptsEntry, AcceptsListed, AcceptsProperty, AcceptsWindow, subjects}
use Rattle.gp_deadlock_checker.specs.Rejected.{FailsAnswer, FailsBody, FailsEntry, FailsListed, FailsProperty, FailsSchedule, FailsWindow}

-- at a window of a report: it has no record of it, or the record fails
abbrev pub FindsAt : ReportForm → WindowForm → Option Failure → Type 0
FindsAt report window found =
    MatchOption found (IsSomeAnd (slice_get report.windows (window.number - 1)) (AcceptsWindow report.budget window))
    (λ failure. (failure.window ≡ window.number)
    × FailsHere (FailsWindow report.budget failure) (IsOfWindow WindowCount failure) (Some window) (slice_get report.windows (window.number - 1)))

-- of the record of a window
abbrev pub FindsWindow : ℕ → WindowForm → WindowRecord → Option Failure → Type 0
FindsWindow budget window told found =
    MatchOption found (AcceptsWindow budget window told) (λ failure. FailsWindow budget failure window told)

-- of what is told of a window that has constraints
abbrev pub FindsBody : Basis → WindowBody → Option Failure → Type 0
FindsBody basis body found =
    MatchOption found (AcceptsBody basis.window basis.budget basis.shared (Ok basis.window) body)
    (λ failure. FailsBody basis.window basis.budget basis.shared failure (Ok basis.window) body)

-- of the records of its properties
abbrev pub FindsProperties : Basis → List PropertyRecord → Option Failure → Type 0
FindsProperties basis records found =
    MatchOption found (AllZip (AcceptsProperty basis.window basis.budget basis.shared) subjects records)
    (λ failure. FailsFirst (AcceptsProperty basis.window basis.budget basis.shared) (FailsProperty basis.window basis.budget basis.shared failure)
    (IsOfProperty WrongProperty failure) subjects records failure.property)

-- of the record of the property of this name
abbrev pub FindsProperty : Basis → List ℕ → PropertyRecord → Option Failure → Type 0
FindsProperty basis name told found =
    MatchOption found (AcceptsProperty basis.window basis.budget basis.shared name told)
    (λ failure. FailsProperty basis.window basis.budget basis.shared failure name told)

-- of what is told of the cycles
abbrev pub FindsListed : Basis → Result (List Instance) InstancesFault → PropertyBody → Option Failure → Type 0
FindsListed basis due body found =
    MatchOption found (AcceptsListed basis.window basis.budget basis.shared due body)
    (λ failure. FailsListed basis.window basis.budget basis.shared failure due body)

-- of as many entries as cycles
abbrev pub FindsEntries : Basis → List Instance → List Entry → Option Failure → Type 0
FindsEntries basis cycles entries found =
    MatchOption found (AllZip (AcceptsEntry basis.window basis.budget basis.shared) cycles entries)
    (λ failure. FailsFirst (AcceptsEntry basis.window basis.budget basis.shared) (FailsEntry basis.window basis.budget basis.shared failure)
    ⊥ cycles entries failure.instance)

-- of the entry of a cycle
abbrev pub FindsEntry : Basis → Instance → Entry → Option Failure → Type 0
FindsEntry basis cycle entry found =
    MatchOption found (AcceptsEntry basis.window basis.budget basis.shared cycle entry)
    (λ failure. FailsEntry basis.window basis.budget basis.shared failure cycle entry)

-- of the answer to a cycle that has these events
abbrev pub FindsAnswer : Basis → List EventId → Answer → Option Failure → Type 0
FindsAnswer basis ids answer found =
    MatchOption found (AcceptsAnswer basis.window basis.budget basis.shared ids answer)
    (λ failure. FailsAnswer basis.window basis.budget basis.shared ids answer failure.reason failure.place)

-- of a schedule for a cycle that has these events
abbrev pub FindsSchedule : WindowForm → List EventId → List EventId → Option Failure → Type 0
FindsSchedule window ids schedule found =
    MatchOption found (EndsStuck window ids schedule) (λ failure. FailsSchedule window ids schedule failure.reason failure.place)

-- whether an event is the next one of its thread
abbrev pub is_next : State → EventId → Bool
is_next state id = count_of state id.thread == id.index

-- whether each of these events is
abbrev pub are_next : State → List EventId → Bool
are_next state ids = list_all (is_next state) ids

-- all of these are cycles of a window
abbrev pub AreCycles : WindowForm → List Instance → Type 0
AreCycles window cycles = All (λ (cycle : Instance). is_cycle window cycle.events ≡ true) cycles
