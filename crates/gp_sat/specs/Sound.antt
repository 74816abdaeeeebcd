-- What is true of every solver.
use Rattle.std.specs.Prelude.{◌≡◌, ℕ, ◌+◌, ◌<◌, ◌≤◌, ◌^◌, Option, Some, None, List, length, slice_index_or}
use Rattle.gp_clause.specs.declared.lit.Lit.{Lit}
use Rattle.gp_sat.specs.declared.assigned.Assigned.{Assigned}
use Rattle.gp_sat.specs.Stored.{Stored}
use Rattle.gp_sat.specs.State.{SolverForm, assigned, clause_at}
use Rattle.gp_sat.specs.Standing.{IsClosed, IsForcing, Each}

-- the true literal of an assigned variable
abbrev pub true_lit : ℕ → Assigned → Lit
true_lit variable a = record { variable = variable; positive = a.positive }

-- the trail holds exactly the true literals, each at its place, and levels rise along it
pub record IsOrdered (values : ℕ → Option Assigned) (trail : List Lit) (level : ℕ) : Type 0 where
  pub within : (variable : ℕ) (a : Assigned) → values variable ≡ Some a → a.place < length trail
  pub on_trail : (variable : ℕ) (a : Assigned) (d : Lit) → values variable ≡ Some a → slice_index_or trail a.place d ≡ true_lit variable a
  pub off_trail : (place : ℕ) (d : Lit) → place < length trail
      → (a : Assigned) × (values (slice_index_or trail place d).variable ≡ Some a) × (a.place ≡ place)
  pub rising : (variable other : ℕ) (a b : Assigned) → values variable ≡ Some a → values other ≡ Some b → a.place < b.place → a.level ≤ b.level
  pub present : (variable : ℕ) (a : Assigned) → values variable ≡ Some a → (a.level ≤ level) × (a.level ≤ a.place + 1)
  pub few : level ≤ length trail

-- a decision is the first of its level, which is above 0, and each other assignment has a clause that forces it
pub record IsExplained (values : ℕ → Option Assigned) (clauses : List Stored) : Type 0 where
  pub first : (variable : ℕ) (a : Assigned) → values variable ≡ Some a → a.reason ≡ None
      → (0 < a.level) × ((other : ℕ) (b : Assigned) → values other ≡ Some b → b.place < a.place → b.level < a.level)
  pub forced : (variable : ℕ) (a : Assigned) (number : ℕ) → values variable ≡ Some a → a.reason ≡ Some number
      → (number < length clauses) × IsForcing values (clause_at clauses number) (true_lit variable a) a.place

-- the clauses name variables of the solver alone
abbrev pub IsNamed : ℕ → List Stored → Type 0
IsNamed variables clauses = (number : ℕ) → Each (λ lit. lit.variable < variables) (clause_at clauses number)

-- what is true of every solver: its trail is in order, each assignment has its reason, and the trail is closed at each level
-- below the present one
pub record IsSound (s : SolverForm) : Type 0 where
  pub ordered : IsOrdered (assigned s) s.trail s.level
  pub explained : IsExplained (assigned s) s.clauses
  pub closed : (level : ℕ) → level < s.level → IsClosed s level
  pub named : IsNamed (length s.values) s.clauses
  pub small : (length s.values < 2 ^ 32) × (length s.clauses < 2 ^ 32)
