-- By what the answers of a window are checked.
use Rattle.std.specs.Prelude.{ℕ, ◌≡◌, List}
use Rattle.gp_clause.specs.declared.problem.Problem.{Problem}
use Rattle.gp_constraint.specs.Base.{base_of}
use Rattle.gp_constraint.specs.Encoded.{IsEncodable}
use Rattle.gp_certificate.specs.declared.step.Step.{Step}
use Rattle.gp_certificate.specs.Shared.{SharedPasses}
use Rattle.gp_window.specs.WindowForm.{WindowForm}

-- the window, the budget of each query, and the steps that certificates share
pub record Basis : Type 0 where
  pub window : WindowForm
  pub budget : ℕ
  pub shared : List Step

-- a judge is of the problem of a window, which is not too large, and the shared steps pass
pub record IsReady (judge : Problem) (window : WindowForm) (shared : List Step) : Type 0 where
  pub encodable : IsEncodable window
  pub base : judge ≡ base_of window
  pub shares : SharedPasses (base_of window) shared
