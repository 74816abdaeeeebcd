-- The places that a walk has still to visit.
use Rattle.std.specs.Prelude.{◌≡◌, ℕ, ◌<◌, ◌≤◌, ◌⊎◌, ◌==◌, Bool, true, Some, List, [], ◌∷◌, length, count_by, Contains, slice_set, IsPermutation}
use Rattle.std.specs.BinaryHeap.{IsHeap, KeepsHeap, heap_items}
use Rattle.std.specs.Ordering.{nat_cmp}
use Rattle.gp_clause.specs.declared.lit.Lit.{Lit}
use Rattle.gp_sat.specs.declared.assigned.Assigned.{Assigned}
use Rattle.gp_sat.specs.declared.marking.Marking.{Marking}
use Rattle.gp_sat.specs.State.{SolverForm, assigned}
use Rattle.gp_sat.specs.Marking.{IsMarked}

-- no variable is marked, and nothing is to be visited
pub record AreClear (variables : ℕ) (marking : Marking) : Type 0 where
  pub size : length marking.marks.items ≡ variables
  pub none : (variable : ℕ) → IsMarked marking.marks.items variable → ⊥
  pub unlisted : marking.marked.items ≡ []
  pub empty : heap_items marking.places ≡ []
  pub ordered : IsHeap nat_cmp (heap_items marking.places)

-- each marked variable is listed, and the marks have a place for each listed one
pub record AreListed (marks : List Bool) (marked : List ℕ) : Type 0 where
  pub all : (variable : ℕ) → IsMarked marks variable → Contains marked variable
  pub within : (variable : ℕ) → Contains marked variable → variable < length marks

-- one more variable is marked and its place is queued, unless the variable was marked before
abbrev pub IsAdded : List Bool → List Bool → List ℕ → List ℕ → ℕ → ℕ → Type 0
IsAdded old new before after variable place = (IsMarked old variable × (new ≡ old) × (after ≡ before))
    ⊎ ((IsMarked old variable → ⊥) × (new ≡ slice_set old variable true) × IsPermutation (place ∷ before) after × KeepsHeap nat_cmp before after)

-- a marked variable was assigned at a place
abbrev pub IsMarkedAt : SolverForm → List Bool → ℕ → Type 0
IsMarkedAt s marks place = (variable : ℕ) × (a : Assigned) × (assigned s variable ≡ Some a) × (a.place ≡ place) × IsMarked marks variable

-- a heap holds the places before a bound at which marked variables were assigned, each place once
pub record AreQueued (s : SolverForm) (bound : ℕ) (marks : List Bool) (places : List ℕ) : Type 0 where
  pub ordered : IsHeap nat_cmp places
  pub once : (place : ℕ) → count_by (λ q. q == place) places ≤ 1
  pub before : (place : ℕ) → 0 < count_by (λ q. q == place) places → (place < bound) × IsMarkedAt s marks place
  pub all : (variable : ℕ) (a : Assigned) → assigned s variable ≡ Some a → IsMarked marks variable → a.place < bound → 0 < count_by (λ q. q == a.place) places

-- the variable of a literal is assigned
abbrev pub IsAssigned : SolverForm → Lit → Type 0
IsAssigned s lit = (a : Assigned) × (assigned s lit.variable ≡ Some a)

-- the variable of a literal is marked, or was assigned before a place
abbrev pub IsMarkedOrBefore : SolverForm → ℕ → List Bool → Lit → Type 0
IsMarkedOrBefore s bound marks lit = IsMarked marks lit.variable ⊎ ((a : Assigned) × (assigned s lit.variable ≡ Some a) × (a.place < bound))
