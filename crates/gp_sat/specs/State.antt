-- What contracts see of a solver.
use Rattle.std.specs.Prelude.{◌≡◌, ℕ, ◌-◌, Bool, true, false, Option, Some, None, List, [], ◌∷◌, ◌++◌, length, replicate, slice_set, slice_index_or, if◌then◌else◌, nat_lt}
use Rattle.gp_clause.specs.declared.lit.Lit.{Lit}
use Rattle.gp_queue.specs.Order.{numbers_between}
use Rattle.gp_sat.specs.declared.assigned.Assigned.{Assigned}
use Rattle.gp_sat.specs.Stored.{Stored}

-- the assignment of each variable, the true literals in the order in which they were assigned, the clauses by number, the
-- present level, the order in which variables are decided, and the number below which they are in use
pub record SolverForm : Type 0 where
  pub values : List (Option Assigned)
  pub trail : List Lit
  pub clauses : List Stored
  pub level : ℕ
  pub order : List ℕ
  pub used : ℕ

-- the assignment of a variable
abbrev pub assigned : SolverForm → ℕ → Option Assigned
assigned s variable = slice_index_or s.values variable None

-- what stands under a number that no clause has
abbrev pub no_clause : Stored
no_clause = record { clause = []; attached = false }

-- the literals of the clause of a number, attached or not
abbrev pub clause_at : List Stored → ℕ → List Lit
clause_at clauses number = (slice_index_or clauses number no_clause).clause

-- the clause of a number is attached
abbrev pub IsAttached : List Stored → ℕ → Type 0
IsAttached clauses number = (slice_index_or clauses number no_clause).attached ≡ true

-- a solver that has no clause and no assignment
abbrev pub blank : ℕ → SolverForm
blank variables = record { values = replicate variables None; trail = []; clauses = []; level = 0; order = numbers_between 0 variables; used = variables }

-- the solver with more variables, which are unassigned and come last in the order; all variables are in use
abbrev pub grown : SolverForm → ℕ → SolverForm
grown s variables = record s { values = s.values ++ replicate (variables - length s.values) None; order = s.order ++ numbers_between (length s.order) variables; used = variables }

-- the solver with one more clause, attached under the next number
abbrev pub with_clause : SolverForm → List Lit → SolverForm
with_clause s clause = record s { clauses = s.clauses ++ record { clause = clause; attached = true } ∷ [] }

-- the solver with the clause of a number detached
abbrev pub without_clause : SolverForm → ℕ → SolverForm
without_clause s number = record s { clauses = slice_set s.clauses number (record { clause = clause_at s.clauses number; attached = false }) }

-- the solver without any assignment
abbrev pub cleared : SolverForm → SolverForm
cleared s = record s { values = replicate (length s.values) None; trail = []; level = 0 }

-- the solver with one more true literal at the end of its trail
abbrev pub with_literal : SolverForm → Lit → ℕ → Option ℕ → SolverForm
with_literal s lit level reason = record s {
  values = slice_set s.values lit.variable (Some (record { positive = lit.positive; level = level; place = length s.trail; reason = reason }));
  trail = s.trail ++ lit ∷ [];
  level = level;
}

-- whether a variable was assigned above a level
abbrev pub above : ℕ → Option Assigned → Bool
above level None = false
above level (Some a) = nat_lt level a.level

-- an assignment, if it was not made above a level
abbrev pub kept_to : ℕ → Option Assigned → Option Assigned
kept_to level value = if above level value then None else value
