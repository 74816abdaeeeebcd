-- How literals and clauses stand under an assignment of variables.
use Rattle.std.specs.Prelude.{◌≡◌, ◌≢◌, ℕ, ◌<◌, ◌≤◌, not, Option, Some, List, Contains}
use Rattle.gp_clause.specs.declared.lit.Lit.{Lit}
use Rattle.gp_sat.specs.declared.assigned.Assigned.{Assigned}
use Rattle.gp_sat.specs.State.{SolverForm, assigned, clause_at, IsAttached}

-- a literal is false
abbrev pub IsFalse : (ℕ → Option Assigned) → Lit → Type 0
IsFalse values lit = (a : Assigned) × (values lit.variable ≡ Some a) × (a.positive ≡ not lit.positive)

-- a literal is false by the assignments up to a level
abbrev pub IsFalseTo : ℕ → (ℕ → Option Assigned) → Lit → Type 0
IsFalseTo level values lit = (a : Assigned) × (values lit.variable ≡ Some a) × (a.positive ≡ not lit.positive) × (a.level ≤ level)

-- a literal is false by an assignment before a place of the trail
abbrev pub IsFalseBefore : ℕ → (ℕ → Option Assigned) → Lit → Type 0
IsFalseBefore place values lit = (a : Assigned) × (values lit.variable ≡ Some a) × (a.positive ≡ not lit.positive) × (a.place < place)

-- no assignment up to a level is of the variable of a literal
abbrev pub IsFreeTo : ℕ → (ℕ → Option Assigned) → Lit → Type 0
IsFreeTo level values lit = (a : Assigned) → values lit.variable ≡ Some a → level < a.level

-- each literal of a clause has a property
abbrev pub Each : (Lit → Type 0) → List Lit → Type 0
Each P clause = (lit : Lit) → Contains clause lit → P lit

-- each literal of a clause but one has a property
abbrev pub EachOther : (Lit → Type 0) → List Lit → Lit → Type 0
EachOther P clause lit = (other : Lit) → Contains clause other → other ≢ lit → P other

-- by the assignments up to a level, a clause is not false, and not unit with its last literal unassigned
pub record IsQuiet (level : ℕ) (values : ℕ → Option Assigned) (clause : List Lit) : Type 0 where
  pub not_false : Each (IsFalseTo level values) clause → ⊥
  pub not_unit : (lit : Lit) → Contains clause lit → IsFreeTo level values lit → EachOther (IsFalseTo level values) clause lit → ⊥

-- the trail is closed at a level: by the assignments up to it each attached clause is quiet
abbrev pub IsClosed : SolverForm → ℕ → Type 0
IsClosed s level = (number : ℕ) → IsAttached s.clauses number → IsQuiet level (assigned s) (clause_at s.clauses number)

-- a clause forces a literal before a place of the trail: its other literals are false by then
pub record IsForcing (values : ℕ → Option Assigned) (clause : List Lit) (lit : Lit) (place : ℕ) : Type 0 where
  pub within : Contains clause lit
  pub others : EachOther (IsFalseBefore place values) clause lit
