-- What holds of the parts of a solver.
use Rattle.std.specs.Prelude.{◌≡◌, ℕ, ◌≤◌, Option, List, length}
use Rattle.gp_sat.specs.State.{SolverForm, assigned}
use Rattle.gp_sat.specs.Sound.{IsSound}
use Rattle.gp_sat.specs.Levels.{AreStarts}
use Rattle.gp_sat.specs.Deciding.{IsPlaced}

-- a solver is sound, knows where its levels begin, keeps a place in its order, and has room for all variables on its trail
pub record IsConsistent (s : SolverForm) (starts : List ℕ) (place : Option ℕ) (trail_room starts_room : ℕ) : Type 0 where
  pub sound : IsSound s
  pub starts_at : AreStarts s starts
  pub placed : IsPlaced (assigned s) s.used s.order place
  pub ordered : length s.order ≡ length s.values
  pub used_in : s.used ≤ length s.values
  pub trail_has : length s.values ≤ trail_room
  pub starts_has : length s.values ≤ starts_room
