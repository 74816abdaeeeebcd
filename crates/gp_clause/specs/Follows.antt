use Rattle.std.specs.Prelude.{ℕ, Bool, ℤ, List, ◌++◌, length, All, Contains}
use Rattle.gp_clause.specs.declared.edge.Edge.{Edge}
use Rattle.gp_clause.specs.declared.kind.Kind.{Kind}
use Rattle.gp_clause.specs.declared.lit.Lit.{Lit}
use Rattle.gp_clause.specs.Clause.{HoldsClause, HoldsAll, NamesBelow}
use Rattle.gp_clause.specs.Valuation.{IsValuation}

-- a clause follows from a list where each valuation that makes every clause of the list true makes it true
abbrev pub Follows : ℕ → List Edge → List Kind → List (List Lit) → List Lit → Type 0
Follows points edges kinds clauses clause = (truth : ℕ → Bool) (place : ℕ → ℤ) → IsValuation points edges kinds truth place → HoldsAll truth clauses → HoldsClause truth clause

-- each clause of a list follows from the list
abbrev pub MembersFollow : Type 0
MembersFollow = (points : ℕ) (edges : List Edge) (kinds : List Kind) (clauses : List (List Lit)) (clause : List Lit) → Contains clauses clause → Follows points edges kinds clauses clause

-- what follows from clauses that all follow from a list follows from the list
abbrev pub FollowsThrough : Type 0
FollowsThrough = (points : ℕ) (edges : List Edge) (kinds : List Kind) (clauses lemmas : List (List Lit)) (clause : List Lit)
    → All (Follows points edges kinds clauses) lemmas → Follows points edges kinds lemmas clause → Follows points edges kinds clauses clause

-- what follows from a part of a list follows from the list
abbrev pub FollowsFromMore : Type 0
FollowsFromMore = (points : ℕ) (edges : List Edge) (kinds : List Kind) (clauses part : List (List Lit)) (clause : List Lit)
    → All (Contains clauses) part → Follows points edges kinds part clause → Follows points edges kinds clauses clause

-- more variables change nothing: what follows follows with locals too, and between clauses of the first variables what
-- follows with locals follows without them
pub record LocalsChangeNothing : Type 0 where
  pub added : (points : ℕ) (edges : List Edge) (kinds locals : List Kind) (clauses : List (List Lit)) (clause : List Lit)
      → Follows points edges kinds clauses clause → Follows points edges (kinds ++ locals) clauses clause
  pub left_out : (points : ℕ) (edges : List Edge) (kinds locals : List Kind) (clauses : List (List Lit)) (clause : List Lit)
      → All (NamesBelow (length kinds)) clauses → NamesBelow (length kinds) clause → Follows points edges (kinds ++ locals) clauses clause → Follows points edges kinds clauses clause
