-- The reasons by which a report is rejected.
use Rattle.std.specs.Prelude.{ℕ, ◌≡◌}
use Rattle.gp_checker.specs.declared.failure.Failure.{Failure}
use Rattle.gp_checker.specs.declared.failure.Reason.{Reason}
use Rattle.gp_checker.specs.declared.failure.Reason.TheVariants.{WindowCount, WrongSize, WrongProperty, WrongEvents, Stuck, Unmatched, BadStep, Unrefuted, WrongBudget, BadSharedStep}

-- the number by which a reason is told
abbrev pub number_of : Reason → ℕ
number_of WindowCount = 1
number_of WrongSize = 2
number_of WrongProperty = 3
number_of WrongEvents = 4
number_of Stuck = 5
number_of Unmatched = 6
number_of BadStep = 7
number_of Unrefuted = 8
number_of WrongBudget = 9
number_of BadSharedStep = 10

-- a failure has this reason and is told of a property as a whole
pub record IsOfProperty (reason : Reason) (failure : Failure) : Type 0 where
  pub reason_is : failure.reason ≡ reason
  pub no_instance : failure.instance ≡ 0
  pub no_place : failure.place ≡ 0

-- a failure has this reason and is told of a window as a whole
pub record IsOfWindow (reason : Reason) (failure : Failure) : Type 0 where
  pub whole : IsOfProperty reason failure
  pub no_property : failure.property ≡ 0

-- the failure of a window that is missing or surplus
abbrev pub wrong_count : ℕ → Failure
wrong_count number = record { window = number; property = 0; instance = 0; reason = WindowCount; place = 0 }
