-- Where the levels end on the trail.
use Rattle.std.specs.Prelude.{◌≡◌, ℕ, ◌<◌, ◌≤◌, Option, Some, List, length, slice_index}
use Rattle.gp_sat.specs.declared.assigned.Assigned.{Assigned}
use Rattle.gp_sat.specs.State.{SolverForm, assigned}

-- a place of the trail parts the assignments up to a level from those above it
pub record IsEndOf (values : ℕ → Option Assigned) (size level end : ℕ) : Type 0 where
  pub within : end ≤ size
  pub low : (v : ℕ) (a : Assigned) → values v ≡ Some a → a.place < end → a.level ≤ level
  pub high : (v : ℕ) (a : Assigned) → values v ≡ Some a → end ≤ a.place → level < a.level

-- each level below the present one ends where the next one begins
pub record AreStarts (s : SolverForm) (starts : List ℕ) : Type 0 where
  pub count : length starts ≡ s.level
  pub ends : (level : ℕ) → level < s.level → IsEndOf (assigned s) (length s.trail) level (slice_index starts level)
