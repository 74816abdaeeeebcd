-- The walk of an analysis along the trail.
use Rattle.std.specs.Prelude.{◌≡◌, ℕ, ◌<◌, ◌≤◌, ◌⊎◌, Bool, not, Some, None, List, length, Contains}
use Rattle.gp_clause.specs.declared.lit.Lit.{Lit}
use Rattle.gp_clause.specs.Lit.{opposite}
use Rattle.gp_clause.specs.Clause.{occurrences}
use Rattle.gp_sat.specs.declared.analysis.Stop.{Stop}
use Rattle.gp_sat.specs.declared.analysis.Stop.TheVariants.{Decisions, FirstPoint}
use Rattle.gp_sat.specs.declared.assigned.Assigned.{Assigned}
use Rattle.gp_sat.specs.State.{SolverForm, assigned, clause_at}
use Rattle.gp_sat.specs.Standing.{Each}
use Rattle.gp_sat.specs.Sound.{true_lit}
use Rattle.gp_sat.specs.Learning.{IsReason, IsBelowLevel, HasOnePresent, LeadsTo, IsUniquePoint, HasPresentFrom}
use Rattle.gp_sat.specs.Marking.{IsMarked, HasMarked}

-- the reason of an assignment was followed: its clause is a hint, and the variables of the clause are marked
pub record IsFollowed (s : SolverForm) (marks : List Bool) (hints : List ℕ) (a : Assigned) : Type 0 where
  pub number : ℕ
  pub reason : a.reason ≡ Some number
  pub hint : Contains hints number
  pub marked : Each (λ lit. IsMarked marks lit.variable) (clause_at s.clauses number)

-- the walk stopped at a literal: it is false by an assignment from a place on, and a decision where only those are kept
pub record IsStopped (s : SolverForm) (stop : Stop) (place : ℕ) (lit : Lit) : Type 0 where
  pub value : Assigned
  pub is : assigned s lit.variable ≡ Some value
  pub opposes : value.positive ≡ not lit.positive
  pub from : place ≤ value.place
  pub decided : stop ≡ Decisions → value.reason ≡ None
  pub above : stop ≡ FirstPoint → 0 < value.level

-- either no literal of the present level was kept and a marked one is still to come, or exactly one was kept and none is
abbrev pub IsPointing : SolverForm → ℕ → List Bool → List Lit → Type 0
IsPointing s place marks lits = (HasMarked s marks place × Each (IsBelowLevel s s.level) lits) ⊎ ((HasMarked s marks place → ⊥) × HasOnePresent s lits)

-- the walk has come down to a place of the trail
pub record IsWalked (s : SolverForm) (stop : Stop) (place : ℕ) (marks : List Bool) (lits : List Lit) (hints : List ℕ) : Type 0 where
  pub size : length marks ≡ length s.values
  pub true_marks : (variable : ℕ) → IsMarked marks variable → (a : Assigned) × (assigned s variable ≡ Some a)
  pub handled : (variable : ℕ) (a : Assigned) → assigned s variable ≡ Some a → IsMarked marks variable → place ≤ a.place
      → Contains lits (opposite (true_lit variable a)) ⊎ IsFollowed s marks hints a
  pub reasons : (number : ℕ) → Contains hints number → IsReason s number
  pub stopped : (lit : Lit) → Contains lits lit → IsStopped s stop place lit
  pub once : (variable : ℕ) → occurrences variable lits ≤ 1
  pub absent : (variable : ℕ) → ((a : Assigned) → assigned s variable ≡ Some a → a.place < place) → occurrences variable lits ≡ 0
  pub pointing : stop ≡ FirstPoint → IsPointing s place marks lits

-- down to a place of the trail, what is marked at the present level leads to the conflict, and no unique implication point
-- was passed by
pub record IsSearched (s : SolverForm) (conflict : List Lit) (place : ℕ) (marks : List Bool) (lits : List Lit) : Type 0 where
  pub started : (lit : Lit) → Contains conflict lit → IsMarked marks lit.variable
  pub reached : (variable : ℕ) (a : Assigned) → IsMarked marks variable → assigned s variable ≡ Some a → a.level ≡ s.level → LeadsTo s conflict place variable
  pub first : (variable : ℕ) (a : Assigned) → IsUniquePoint s conflict variable a → place ≤ a.place → HasPresentFrom s lits a.place

-- a walk has come down to the begin of the trail from the literals of a conflict, which are marked
pub record IsWalkedDown (s : SolverForm) (conflict : List Lit) (stop : Stop) (lits : List Lit) (hints : List ℕ) : Type 0 where
  pub marks : List Bool
  pub walked : IsWalked s stop 0 marks lits hints
  pub started : (lit : Lit) → Contains conflict lit → IsMarked marks lit.variable
  pub searched : stop ≡ FirstPoint → IsSearched s conflict 0 marks lits
