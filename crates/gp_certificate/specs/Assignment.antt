-- A partial assignment that is written down by variable, and how clauses stand under it.
use Rattle.std.specs.Prelude.{ℕ, ◌≡◌, ◌≢◌, ◌+◌, ◌≤◌, ◌⊎◌, Bool, List, Option, None, length, count_by, slice_index_or, vec_capacity, All, Any, Contains}
use Rattle.std.specs.Option.{is_none}
use Rattle.gp_clause.specs.declared.lit.Lit.{Lit}
use Rattle.gp_clause.specs.Clause.{NamesOnce}
use Rattle.gp_clause.specs.Closure.{Derived, IsTrueIn, IsFalseIn}
use Rattle.gp_certificate.specs.declared.assignment.Assignment.{Assignment}
use Rattle.gp_certificate.specs.declared.assignment.Standing.{Standing}
use Rattle.gp_certificate.specs.declared.assignment.Standing.TheVariants.{Open, False, Due}

-- the value of a variable, where it has one
abbrev pub value_of : List (Option Bool) → ℕ → Option Bool
value_of values variable = slice_index_or values variable None

-- all literals of a clause are false but one, which is unassigned
pub record IsDue (values : List (Option Bool)) (clause : List Lit) (lit : Lit) : Type 0 where
  pub within : Contains clause lit
  pub unassigned : value_of values lit.variable ≡ None
  pub others : (other : Lit) → Contains clause other → other ≢ lit → IsFalseIn (value_of values) other

-- a clause is open where it is neither false nor due
pub record IsOpen (values : List (Option Bool)) (clause : List Lit) : Type 0 where
  pub no_false : All (IsFalseIn (value_of values)) clause → ⊥
  pub no_due : (lit : Lit) → IsDue values clause lit → ⊥

-- two literals of a clause are unassigned
abbrev pub HasTwo : List (Option Bool) → List Lit → Type 0
HasTwo values clause = (first : Lit) × Contains clause first × (value_of values first.variable ≡ None) × Any (λ lit. (lit ≢ first) × (value_of values lit.variable ≡ None)) clause

-- how a clause stands under an assignment
abbrev pub StandsAs : List (Option Bool) → List Lit → Standing → Type 0
StandsAs values clause Open = Any (IsTrueIn (value_of values)) clause ⊎ HasTwo values clause
StandsAs values clause False = All (IsFalseIn (value_of values)) clause
StandsAs values clause (Due lit) = IsDue values clause lit

-- how many variables have no value
abbrev pub unassigned : List (Option Bool) → ℕ
unassigned values = count_by is_none values

-- the trail holds exactly the literals that are true, each once, and has room for those to come
pub record IsKept (assignment : Assignment) : Type 0 where
  pub room : length assignment.values.items ≤ vec_capacity assignment.trail
  pub count : unassigned assignment.values.items + length assignment.trail.items ≡ length assignment.values.items
  pub trailed : (lit : Lit) → IsTrueIn (value_of assignment.values.items) lit → Contains assignment.trail.items lit
  pub noted : All (IsTrueIn (value_of assignment.values.items)) assignment.trail.items
  pub once : NamesOnce assignment.trail.items

-- an assignment on the way from a start to its closure: it makes the start true, and what it makes true is derived
pub record IsClosing (start : List Lit) (clauses : List (List Lit)) (assignment : Assignment) : Type 0 where
  pub kept : IsKept assignment
  pub derived : All (Derived start clauses) assignment.trail.items
  pub starts : All (Contains assignment.trail.items) start
