-- The record of a window is accepted, or it fails with the number of the window.
use Rattle.std.proofs.Common.{sym, subst, ◌-◌, Option, Some}
use Rattle.std.specs.Option.{IsSomeAnd}
use Rattle.std.proofs.lemmas.Option.{MatchOption-at_none, MatchOption-at_some}
use Rattle.gp_report.specs.Records.{WindowRecord}
use Rattle.gp_checker.specs.declared.failure.Failure.{Failure}
use Rattle.gp_checker.specs.declared.failure.Reason.TheVariants.{WindowCount}
use Rattle.gp_deadlock_checker.specs.Accepted.{AcceptsWindow}
use Rattle.gp_checker.specs.First.{FailsHere}
use Rattle.gp_checker.specs.Reasons.{IsOfWindow}
use Rattle.gp_deadlock_checker.specs.Rejected.{FailsWindow}
use Rattle.gp_deadlock_checker.proofs.Moved.{window_moved}
use Rattle.gp_checker.specs.PlaceLaws.{lent_at}
use Rattle.gp_checker.specs.WalkLaws.{record_there}
use Rattle.gp_deadlock_checker.proofs.checking.check_at.Goals as goal

pub returns-in-Some-2 : goal.returns-in-Some-2
returns-in-Some-2 c =
    let report = c.args.report.now in
    let window = c.args.window in
    let told = c.in-Some.told.now in
    let number = c.number-number.result in
    let failure = c.in-Some-2.failure in
    let here : Failure = record failure { window = number } in
    let there = record_there report.windows c.windows.result.now told number window.number c.windows.ensures.value c.number-number.ensures.value
    (lent_at c.windows.result.now (number - 1) (Some c.in-Some.told) c.in-Some.ensures.lookup) in
    let fails : FailsWindow c.budget.result failure window told =
    MatchOption-at_some (AcceptsWindow c.budget.result window told) (λ (one : Failure). FailsWindow c.budget.result one window told) failure c.in-Some-2.is c.in_ok-failure.ensures in (
      c.number-number.ensures.value,
      subst (λ (o : Option WindowRecord). FailsHere (FailsWindow report.budget here) (IsOfWindow WindowCount here) (Some window) o) (sym there)
          (window_moved number failure report.budget window told (subst (λ b. FailsWindow b failure window told) c.budget.ensures.value fails)),
    )

pub returns : goal.returns
returns c =
    let report = c.args.report.now in
    let window = c.args.window in
    let told = c.in-Some.told.now in
    let number = c.number-number.result in
    let there = record_there report.windows c.windows.result.now told number window.number c.windows.ensures.value c.number-number.ensures.value
    (lent_at c.windows.result.now (number - 1) (Some c.in-Some.told) c.in-Some.ensures.lookup) in
    let accepts : AcceptsWindow c.budget.result window told =
    MatchOption-at_none (AcceptsWindow c.budget.result window told) (λ (one : Failure). FailsWindow c.budget.result one window told) c.in_default-2.is c.in_ok-failure.ensures in
    subst (λ (o : Option WindowRecord). IsSomeAnd o (AcceptsWindow report.budget window)) (sym there) (subst (λ b. AcceptsWindow b window told) c.budget.ensures.value accepts)
