use Rattle.std.specs.Prelude.{ℕ, ◌≡◌, ◌≢◌, ◌+◌, ◌<◌, ◌≤◌, ℤ, pos, Bool, false, List, ◌++◌, Some, length, slice_get, slice_index_or, All}
use Rattle.gp_clause.specs.declared.edge.Edge.{Edge}
use Rattle.gp_clause.specs.declared.kind.Kind.{Kind}
use Rattle.gp_clause.specs.declared.problem.Problem.{Problem}
use Rattle.gp_clause.specs.declared.problem.Query.{Query}
use Rattle.gp_clause.specs.declared.valuation.Valuation.{Valuation}
use Rattle.gp_clause.specs.Clause.{HoldsAll}
use Rattle.gp_clause.specs.Edge.{Keeps}
use Rattle.gp_clause.specs.Kind.{bound_of, KeepsBound, FitsKind}
use Rattle.gp_clause.specs.Lit.{HoldsLit}
use Rattle.gp_clause.specs.Problem.{IsValidKind, IsValidProblem, IsValidQuery}

-- a valuation of points, edges and variables: no two points share a place, the places keep every edge, and the truth
-- value of each variable is what its kind says of the places
pub record IsValuation (points : ℕ) (edges : List Edge) (kinds : List Kind) (truth : ℕ → Bool) (place : ℕ → ℤ) : Type 0 where
  pub apart : (a b : ℕ) → a < points → b < points → a ≢ b → place a ≢ place b
  pub keeps : All (Keeps place) edges
  pub fits : (variable : ℕ) (kind : Kind) → slice_get kinds variable ≡ Some kind → FitsKind place kind (truth variable)

-- a valuation extends to more variables, the locals: the truth values of the first variables and the places stay
abbrev pub ValuationsExtend : Type 0
ValuationsExtend = (points : ℕ) (edges : List Edge) (kinds locals : List Kind) (truth : ℕ → Bool) (place : ℕ → ℤ) → IsValuation points edges kinds truth place
    → (more : ℕ → Bool) × ((variable : ℕ) → variable < length kinds → more variable ≡ truth variable) × IsValuation points edges (kinds ++ locals) more place

-- what a variable says is its bound: at a valuation the places keep the bound of each variable by its truth value, and
-- a truth value whose bound the places keep is what the kind says of them
pub record BoundsMean : Type 0 where
  pub kept : (points : ℕ) (edges : List Edge) (kinds : List Kind) (truth : ℕ → Bool) (place : ℕ → ℤ) → IsValuation points edges kinds truth place
      → (variable : ℕ) (kind : Kind) → slice_get kinds variable ≡ Some kind → IsValidKind points kind → KeepsBound place (bound_of kind (truth variable))
  pub fits : (place : ℕ → ℤ) (kind : Kind) (value : Bool) → KeepsBound place (bound_of kind value) → FitsKind place kind value

-- the truth value that an answer gives a variable
abbrev pub truth_of : Valuation → ℕ → Bool
truth_of valuation variable = slice_index_or valuation.truth variable false

-- the place that an answer gives a point
abbrev pub place_of : Valuation → ℕ → ℤ
place_of valuation point = slice_index_or valuation.places point (pos 0)

-- an answer meets a problem and a query: it has a truth value for each variable and perhaps more, and a place for each
-- point; edges, clauses and assumptions hold; and the places keep the bound of each variable by its truth value
pub record Meets (problem : Problem) (query : Query) (valuation : Valuation) : Type 0 where
  pub truth : length problem.kinds + length query.locals ≤ length valuation.truth
  pub places : length valuation.places ≡ problem.points
  pub edges : All (Keeps (place_of valuation)) problem.edges
  pub clauses : HoldsAll (truth_of valuation) problem.clauses
  pub assumed : All (HoldsLit (truth_of valuation)) query.assumed
  pub bounds : (variable : ℕ) (kind : Kind) → slice_get (problem.kinds ++ query.locals) variable ≡ Some kind → KeepsBound (place_of valuation) (bound_of kind (truth_of valuation variable))

-- an answer writes down the truth values of so many variables and the places of so many points
pub record WritesDown (variables points : ℕ) (truth : ℕ → Bool) (place : ℕ → ℤ) (valuation : Valuation) : Type 0 where
  pub truth_values : length valuation.truth ≡ variables
  pub places : length valuation.places ≡ points
  pub same_truth : (variable : ℕ) → variable < variables → truth_of valuation variable ≡ truth variable
  pub same_place : (point : ℕ) → point < points → place_of valuation point ≡ place point

-- a valuation that makes the clauses and the assumptions true can be written down, and what writes it down meets the
-- problem and the query
pub record ValuationsMeet : Type 0 where
  pub written : (variables points : ℕ) (truth : ℕ → Bool) (place : ℕ → ℤ) → (valuation : Valuation) × WritesDown variables points truth place valuation
  pub meets : (problem : Problem) (query : Query) (truth : ℕ → Bool) (place : ℕ → ℤ) (valuation : Valuation) → IsValidProblem problem → IsValidQuery problem query
      → IsValuation problem.points problem.edges (problem.kinds ++ query.locals) truth place → HoldsAll truth problem.clauses → All (HoldsLit truth) query.assumed
      → WritesDown (length problem.kinds + length query.locals) problem.points truth place valuation → Meets problem query valuation
