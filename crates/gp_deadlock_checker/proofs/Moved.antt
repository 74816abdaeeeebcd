-- What fails still fails once the failure is given the number of its property or of its window.
use Rattle.std.proofs.Common.{ℕ, inl, inr, List, Option, None, Some, Result, Ok, Err}
use Rattle.std.specs.List.{slice_get}
use Rattle.gp_constraint.specs.declared.fault.BaseFault.{BaseFault}
use Rattle.gp_constraint.specs.declared.fault.BaseFault.TheVariants as fault
use Rattle.gp_constraint.specs.Encoded.{base_due}
use Rattle.gp_certificate.specs.declared.step.Step.{Step}
use Rattle.gp_checker.specs.declared.failure.Failure.{Failure}
use Rattle.gp_checker.specs.declared.failure.Reason.{Reason}
use Rattle.gp_checker.specs.declared.failure.Reason.TheVariants.{WrongProperty, WrongSize}
use Rattle.gp_checker.specs.First.{FailsFirst, FailsHere}
use Rattle.gp_checker.specs.Reasons.{IsOfProperty, IsOfWindow}
use Rattle.gp_instance.specs.declared.instance.Instance.{Instance}
use Rattle.gp_instance.specs.declared.instance.InstancesFault.{InstancesFault}
use Rattle.gp_report.specs.Records.{PropertyBody, PropertyRecord, WindowBody, WindowRecord}
use Rattle.gp_report.specs.declared.record.PropertyBodyOf.TheVariants as body
use Rattle.gp_report.specs.declared.record.WindowBodyOf.TheVariants as told
use Rattle.gp_stuck.specs.Cycles.{due_cycles}
use Rattle.gp_window.specs.WindowForm.{WindowForm}
use Rattle.gp_deadlock_checker.specs.Accepted.{AcceptsProperty, subjects}
use Rattle.gp_deadlock_checker.specs.Rejected.{FailsBody, FailsListed, FailsProperty, FailsWindow}

here_weaker : {A B : Type 0} (Fails Fails' : A → B → Type 0) (Lacks Lacks' : Type 0) (one : Option A) (other : Option B) → ((x : A) (y : B) → Fails x y → Fails' x y) → (Lacks → Lacks')
    → FailsHere Fails Lacks one other → FailsHere Fails' Lacks' one other
here_weaker Fails Fails' Lacks Lacks' (Some one) (Some other) pairs lacks here = pairs one other here
here_weaker Fails Fails' Lacks Lacks' (Some one) None pairs lacks here = lacks here
here_weaker Fails Fails' Lacks Lacks' None (Some other) pairs lacks here = lacks here
here_weaker Fails Fails' Lacks Lacks' None None pairs lacks here = here

-- what fails first in one way fails first in another, where that is true of what fails
first_weaker : {A B : Type 0} (Accepts Fails Fails' : A → B → Type 0) (Lacks Lacks' : Type 0) (ones : List A) (others : List B) (place : ℕ) → ((x : A) (y : B) → Fails x y → Fails' x y) → (Lacks → Lacks')
    → FailsFirst Accepts Fails Lacks ones others place → FailsFirst Accepts Fails' Lacks' ones others place
first_weaker Accepts Fails Fails' Lacks Lacks' ones others place pairs lacks first = record {
  before = first.before;
  here = here_weaker Fails Fails' Lacks Lacks' (slice_get ones place) (slice_get others place) pairs lacks first.here;
}

module _ (number asked : ℕ) (failure : Failure) where
  -- the failure with these numbers of a window and of a property
  abbrev pub moved : Failure
  moved = record failure { window = number; property = asked }

  of_property_moved : (reason : Reason) → IsOfProperty reason failure → IsOfProperty reason moved
  of_property_moved reason is = record { reason_is = is.reason_is; no_instance = is.no_instance; no_place = is.no_place }

  listed_moved : (window : WindowForm) (budget : ℕ) (shared : List Step) (due : Result (List Instance) InstancesFault) (told_body : PropertyBody)
      → FailsListed window budget shared failure due told_body → FailsListed window budget shared moved due told_body
  listed_moved window budget shared (Err why) body.TooMany fails = fails
  listed_moved window budget shared (Err why) (body.Entries entries) fails = of_property_moved WrongProperty fails
  listed_moved window budget shared (Ok cycles) body.TooMany fails = of_property_moved WrongProperty fails
  listed_moved window budget shared (Ok cycles) (body.Entries entries) (inl fails) = inl (of_property_moved WrongProperty fails.0, fails.1)
  listed_moved window budget shared (Ok cycles) (body.Entries entries) (inr fails) = inr fails

  pub property_moved : (window : WindowForm) (budget : ℕ) (shared : List Step) (name : List ℕ) (told_record : PropertyRecord)
      → FailsProperty window budget shared failure name told_record → FailsProperty window budget shared moved name told_record
  property_moved window budget shared name told_record (inl fails) = inl (of_property_moved WrongProperty fails.0, fails.1)
  property_moved window budget shared name told_record (inr fails) = inr (fails.0, listed_moved window budget shared (due_cycles window) told_record.body fails.1)

module _ (number : ℕ) (failure : Failure) where
  of_window_moved : (reason : Reason) → IsOfWindow reason failure → IsOfWindow reason (moved number failure.property failure)
  of_window_moved reason is = record { whole = of_property_moved number failure.property failure reason is.whole; no_property = is.no_property }

  body_moved : (window : WindowForm) (budget : ℕ) (shared : List Step) (due : Result WindowForm BaseFault) (told_body : WindowBody)
      → FailsBody window budget shared failure due told_body → FailsBody window budget shared (moved number failure.property failure) due told_body
  body_moved window budget shared (Err (fault.TooLarge events clauses)) told_body fails = (of_window_moved WrongSize fails.0, fails.1)
  body_moved window budget shared (Err fault.Memory) told_body fails = fails
  body_moved window budget shared (Ok encoded) (told.TooLarge events clauses) fails = of_window_moved WrongSize fails
  body_moved window budget shared (Ok encoded) (told.Answers records) (inl fails) = inl fails
  body_moved window budget shared (Ok encoded) (told.Answers records) (inr fails) = inr (
    fails.0,
    first_weaker (AcceptsProperty window budget shared) (FailsProperty window budget shared failure) (FailsProperty window budget shared (moved number failure.property failure))
        (IsOfProperty WrongProperty failure) (IsOfProperty WrongProperty (moved number failure.property failure)) subjects records failure.property
        (property_moved number failure.property failure window budget shared) (of_property_moved number failure.property failure WrongProperty) fails.1,
  )

  pub window_moved : (budget : ℕ) (window : WindowForm) (told_record : WindowRecord)
      → FailsWindow budget failure window told_record → FailsWindow budget (record failure { window = number }) window told_record
  window_moved budget window told_record = body_moved window budget told_record.shared (base_due window) told_record.body
