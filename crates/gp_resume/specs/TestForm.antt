-- By what old answers are tested.
use Rattle.std.specs.Prelude.{◌≡◌, Bool, List}
use Rattle.gp_certificate.specs.declared.step.Step.{Step}
use Rattle.gp_clause.specs.declared.problem.Problem.{Problem}
use Rattle.gp_constraint.specs.Base.{base_of}
use Rattle.gp_constraint.specs.Encoded.{IsEncodable}
use Rattle.gp_decided.specs.Refuting.{shared_passes}
use Rattle.gp_window.specs.WindowForm.{WindowForm}

-- the window, and the shared list of its old record
pub record TestForm : Type 0 where
  pub window : WindowForm
  pub shared : List Step

-- a judge is of the problem of a window, which is not too large, and it is known whether the shared list passes
pub record IsTest (judge : Problem) (passes : Bool) (test : TestForm) : Type 0 where
  pub encodable : IsEncodable test.window
  pub base : judge ≡ base_of test.window
  pub told : passes ≡ shared_passes (base_of test.window) test.shared
