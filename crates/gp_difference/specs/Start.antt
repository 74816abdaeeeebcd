use Rattle.std.specs.Prelude.{◌≡◌, ℕ, ℤ, List, length, All}
use Rattle.gp_difference.specs.Places.{IsEdgeOf, AreFresh}
use Rattle.gp_difference.specs.declared.bound.Bound.{Bound}
use Rattle.gp_difference.specs.Links.{BoundList}

-- a fresh place for each point, whatever the edges
pub record IsStart (points : ℕ) (places : List ℤ) : Type 0 where
  pub size : length places ≡ points
  pub fresh : AreFresh places

-- bounds over the points, each within them
pub record AreBoundsOf (points : ℕ) (list : BoundList) : Type 0 where
  pub size : list.points ≡ points
  pub edges : All (λ (bound : Bound). IsEdgeOf points bound.edge) list.bounds
