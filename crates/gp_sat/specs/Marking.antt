-- The variables that an analysis marks.
use Rattle.std.specs.Prelude.{◌≡◌, ℕ, ◌<◌, ◌≤◌, ◌⊎◌, Bool, true, false, Some, None, List, length, Contains, slice_index_or}
use Rattle.gp_clause.specs.declared.lit.Lit.{Lit}
use Rattle.gp_sat.specs.declared.analysis.Stop.{Stop}
use Rattle.gp_sat.specs.declared.analysis.Stop.TheVariants.{Decisions, FirstPoint}
use Rattle.gp_sat.specs.declared.assigned.Assigned.{Assigned}
use Rattle.gp_sat.specs.State.{SolverForm, assigned}

-- a variable is marked
abbrev pub IsMarked : List Bool → ℕ → Type 0
IsMarked marks variable = slice_index_or marks variable false ≡ true

-- a marked variable of the present level was assigned at a place
pub record IsPresentAt (s : SolverForm) (marks : List Bool) (place : ℕ) : Type 0 where
  pub variable : ℕ
  pub value : Assigned
  pub is : assigned s variable ≡ Some value
  pub there : value.place ≡ place
  pub marked : IsMarked marks variable
  pub present : value.level ≡ s.level

-- a marked variable of the present level was assigned before a place
abbrev pub HasMarked : SolverForm → List Bool → ℕ → Type 0
HasMarked s marks place = (at : ℕ) × (at < place) × IsPresentAt s marks at

-- a place is the least of the marked literals of the present level, or the end of the trail where there is none
pub record IsLowest (s : SolverForm) (marks : List Bool) (lowest : ℕ) : Type 0 where
  pub least : (variable : ℕ) (a : Assigned) → assigned s variable ≡ Some a → IsMarked marks variable → a.level ≡ s.level → lowest ≤ a.place
  pub reached : (lowest ≡ length s.trail) ⊎ IsPresentAt s marks lowest

-- the lower one of a place and that of a literal of the present level
pub record IsLower (s : SolverForm) (lit : Lit) (lowest least : ℕ) : Type 0 where
  pub below : least ≤ lowest
  pub least_of : (a : Assigned) → assigned s lit.variable ≡ Some a → a.level ≡ s.level → least ≤ a.place
  pub reached : (least ≡ lowest) ⊎ ((a : Assigned) × (assigned s lit.variable ≡ Some a) × (a.level ≡ s.level) × (a.place ≡ least))

-- the least one of a place and those of literals of the present level
pub record IsLowestOf (s : SolverForm) (lits : List Lit) (lowest least : ℕ) : Type 0 where
  pub below : least ≤ lowest
  pub least_of : (lit : Lit) (a : Assigned) → Contains lits lit → assigned s lit.variable ≡ Some a → a.level ≡ s.level → least ≤ a.place
  pub reached : (least ≡ lowest) ⊎ ((lit : Lit) × (a : Assigned) × Contains lits lit × (assigned s lit.variable ≡ Some a) × (a.level ≡ s.level) × (a.place ≡ least))

-- an analysis stops at an assignment: it is a decision, or no marked variable of its level was assigned before it, if it is
-- of the present one
abbrev pub StopsAt : SolverForm → Stop → List Bool → Assigned → Type 0
StopsAt s Decisions marks a = a.reason ≡ None
StopsAt s FirstPoint marks a = (a.level ≡ s.level → HasMarked s marks a.place → ⊥) × (a.level ≡ 0 → a.reason ≡ None)

-- an analysis follows the reason of an assignment: up to the first unique implication point it is of level 0, or it has a
-- marked variable of the present level before it
abbrev pub GoesOn : SolverForm → Stop → List Bool → Assigned → Type 0
GoesOn s Decisions marks a = Unit {0}
GoesOn s FirstPoint marks a = (a.level ≡ 0) ⊎ HasMarked s marks a.place

-- the analysis stops at the literal of a place of the trail
abbrev pub Stops : SolverForm → Stop → List Bool → ℕ → Type 0
Stops s stop marks place = (variable : ℕ) (a : Assigned) → assigned s variable ≡ Some a → a.place ≡ place → StopsAt s stop marks a

-- the analysis follows the reason of the literal of a place of the trail
abbrev pub FollowsReason : SolverForm → Stop → List Bool → ℕ → ℕ → Type 0
FollowsReason s stop marks place number = (variable : ℕ) (a : Assigned) → assigned s variable ≡ Some a → a.place ≡ place → (a.reason ≡ Some number) × GoesOn s stop marks a

-- the variables of literals are marked, and no others
pub record Marks (old new : List Bool) (lits : List Lit) : Type 0 where
  pub size : length new ≡ length old
  pub kept : (variable : ℕ) → IsMarked old variable → IsMarked new variable
  pub all : (lit : Lit) → Contains lits lit → IsMarked new lit.variable
  pub only : (variable : ℕ) → IsMarked new variable → IsMarked old variable ⊎ ((lit : Lit) × Contains lits lit × (lit.variable ≡ variable))
