-- What unit clauses derive from a start: no order of using the clauses matters.
use Rattle.std.specs.Prelude.{ℕ, ◌≡◌, ◌≢◌, Bool, not, Option, Some, None, List, All, Contains}
use Rattle.gp_clause.specs.declared.lit.Lit.{Lit}
use Rattle.gp_clause.specs.Clause.{HoldsAll}
use Rattle.gp_clause.specs.Lit.{HoldsLit, opposite}

-- a literal is derived where it is in the start, or where some clause has it and the negation of each of its other
-- literals is derived
pub data Derived (start : List Lit) (clauses : List (List Lit)) : Lit → Type 0 where
  given : (lit : Lit) → Contains start lit → Derived start clauses lit
  forced : (clause : List Lit) (lit : Lit) → Contains clauses clause → Contains clause lit
      → ((other : Lit) → Contains clause other → other ≢ lit → Derived start clauses (opposite other))
      → Derived start clauses lit

-- some clause is false: the negation of each of its literals is derived
abbrev pub Conflicts : List Lit → List (List Lit) → Type 0
Conflicts start clauses = (clause : List Lit) × Contains clauses clause × ((lit : Lit) → Contains clause lit → Derived start clauses (opposite lit))

-- where the start and the clauses are true, so is each literal that is derived, and no clause is false
pub record DerivedMeans : Type 0 where
  pub true_too : (start : List Lit) (clauses : List (List Lit)) (truth : ℕ → Bool) → All (HoldsLit truth) start → HoldsAll truth clauses
      → (lit : Lit) → Derived start clauses lit → HoldsLit truth lit
  pub no_conflict : (start : List Lit) (clauses : List (List Lit)) (truth : ℕ → Bool) → All (HoldsLit truth) start → HoldsAll truth clauses
      → Conflicts start clauses → ⊥

-- a partial assignment makes a literal true
abbrev pub IsTrueIn : (ℕ → Option Bool) → Lit → Type 0
IsTrueIn values lit = values lit.variable ≡ Some lit.positive

-- a partial assignment makes a literal false
abbrev pub IsFalseIn : (ℕ → Option Bool) → Lit → Type 0
IsFalseIn values lit = values lit.variable ≡ Some (not lit.positive)

-- a partial assignment leaves no clause false, and none unit: with one literal unassigned and all others false
pub record LeavesNone (values : ℕ → Option Bool) (clauses : List (List Lit)) : Type 0 where
  pub no_false : (clause : List Lit) → Contains clauses clause → ((lit : Lit) → Contains clause lit → IsFalseIn values lit) → ⊥
  pub no_unit : (clause : List Lit) (lit : Lit) → Contains clauses clause → Contains clause lit
      → ((other : Lit) → Contains clause other → other ≢ lit → IsFalseIn values other) → values lit.variable ≡ None → ⊥

-- what is derived is the least closure: a partial assignment that makes the start true and leaves no clause false or unit
-- makes each literal that is derived true, and then no clause is false
pub record ClosureIsLeast : Type 0 where
  pub true_too : (start : List Lit) (clauses : List (List Lit)) (values : ℕ → Option Bool) → All (IsTrueIn values) start
      → LeavesNone values clauses → (lit : Lit) → Derived start clauses lit → IsTrueIn values lit
  pub no_conflict : (start : List Lit) (clauses : List (List Lit)) (values : ℕ → Option Bool) → All (IsTrueIn values) start
      → LeavesNone values clauses → Conflicts start clauses → ⊥
