use Rattle.std.specs.Prelude.{ℕ, Bool, ◌⊎◌, ◌<◌, ◌≤◌, ◌==◌, List, length, All, Any, count_by}
use Rattle.std.specs.List.{AllAdjacentBelow}
use Rattle.gp_clause.specs.declared.lit.Lit.{Lit}
use Rattle.gp_clause.specs.Lit.{HoldsLit, opposite}

-- the variables rise from each literal to the next, so that none stands twice
abbrev pub IsRising : List Lit → Type 0
IsRising lits = AllAdjacentBelow (λ a b. a.variable < b.variable) lits (length lits)

-- in how many literals a variable stands
abbrev pub occurrences : ℕ → List Lit → ℕ
occurrences variable lits = count_by (λ lit. lit.variable == variable) lits

-- some variable stands in two of the literals or more
abbrev pub NamesTwice : List Lit → Type 0
NamesTwice lits = (variable : ℕ) × (2 ≤ occurrences variable lits)

-- no variable stands in two of the literals
abbrev pub NamesOnce : List Lit → Type 0
NamesOnce lits = (variable : ℕ) → occurrences variable lits ≤ 1

-- each literal has a variable below the number
abbrev pub NamesBelow : ℕ → List Lit → Type 0
NamesBelow count lits = All (λ lit. lit.variable < count) lits

-- a clause is true where one of its literals is
abbrev pub HoldsClause : (ℕ → Bool) → List Lit → Type 0
HoldsClause truth clause = Any (HoldsLit truth) clause

-- every clause of the list is true
abbrev pub HoldsAll : (ℕ → Bool) → List (List Lit) → Type 0
HoldsAll truth clauses = All (HoldsClause truth) clauses

-- either a clause is true, or the negation of each of its literals is
abbrev pub TrueOrFalse : Type 0
TrueOrFalse = (truth : ℕ → Bool) (clause : List Lit) → HoldsClause truth clause ⊎ All (λ lit. HoldsLit truth (opposite lit)) clause
