-- The order in which variables are decided.
use Rattle.std.specs.Prelude.{◌≡◌, ℕ, ◌<◌, ◌≤◌, ◌⊎◌, Option, Some, None, List, ◌∷◌, ◌++◌, Contains, slice_get}
use Rattle.gp_sat.specs.declared.assigned.Assigned.{Assigned}
use Rattle.gp_sat.specs.State.{SolverForm, assigned}

-- a variable needs no decision: it is not in use, or is assigned
abbrev pub IsPassed : (ℕ → Option Assigned) → ℕ → ℕ → Type 0
IsPassed values used variable = (used ≤ variable) ⊎ ((a : Assigned) × (values variable ≡ Some a))

-- a place in the order, or its end where there is none: no variable before it needs a decision
pub record IsPlaced (values : ℕ → Option Assigned) (used : ℕ) (order : List ℕ) (place : Option ℕ) : Type 0 where
  pub front : List ℕ
  pub rest : List ℕ
  pub parts : order ≡ front ++ rest
  pub there : place ≡ slice_get rest 0
  pub passed : (variable : ℕ) → Contains front variable → IsPassed values used variable

-- a variable in use is unassigned, and no variable before it in the order needs a decision
pub record IsNextFree (s : SolverForm) (variable : ℕ) : Type 0 where
  pub within : variable < s.used
  pub free : assigned s variable ≡ None
  pub front : List ℕ
  pub back : List ℕ
  pub parts : s.order ≡ front ++ variable ∷ back
  pub passed : (other : ℕ) → Contains front other → IsPassed (assigned s) s.used other

-- all variables in use are assigned
abbrev pub IsFull : SolverForm → Type 0
IsFull s = (variable : ℕ) → variable < s.used → (a : Assigned) × (assigned s variable ≡ Some a)
