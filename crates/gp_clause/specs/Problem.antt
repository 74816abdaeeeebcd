use Rattle.std.specs.Prelude.{ℕ, ◌≢◌, ◌+◌, ◌^◌, ◌<◌, ◌≤◌, ◌≤ℤ◌, pos, negsuc, length, All}
use Rattle.gp_clause.specs.declared.edge.Edge.{Edge}
use Rattle.gp_clause.specs.declared.kind.Kind.{Kind}
use Rattle.gp_clause.specs.declared.kind.Kind.TheVariants.{Free, Order, Span}
use Rattle.gp_clause.specs.declared.problem.Problem.{Problem}
use Rattle.gp_clause.specs.declared.problem.Query.{Query}
use Rattle.gp_clause.specs.Clause.{NamesBelow, NamesOnce}

-- the points of a kind are among so many, those of an order differ, and a span is at most 4095 wide
abbrev pub IsValidKind : ℕ → Kind → Type 0
IsValidKind points Free = Unit {0}
IsValidKind points (Order a b) = (a < points) × (b < points) × (a ≢ b)
IsValidKind points (Span a b c) = (a < points) × (b < points) × (c ≤ 4095)

-- the points of an edge are among so many, and its bound lies from -4095 to 4095
pub record IsValidEdge (points : ℕ) (edge : Edge) : Type 0 where
  pub a : edge.a < points
  pub b : edge.b < points
  pub low : negsuc 4094 ≤ℤ edge.c
  pub high : edge.c ≤ℤ pos 4095

-- a problem has at most 65536 points, valid kinds and edges, and clauses of its own variables
pub record IsValidProblem (problem : Problem) : Type 0 where
  pub few_points : problem.points ≤ 65536
  pub few_kinds : length problem.kinds < 2 ^ 30
  pub few_clauses : length problem.clauses < 2 ^ 30
  pub kinds : All (IsValidKind problem.points) problem.kinds
  pub edges : All (IsValidEdge problem.points) problem.edges
  pub clauses : All (NamesBelow (length problem.kinds)) problem.clauses

-- a query to a problem has valid locals, and assumes no variable twice and none but those of the problem and its locals
pub record IsValidQuery (problem : Problem) (query : Query) : Type 0 where
  pub few_locals : length query.locals < 2 ^ 30
  pub locals : All (IsValidKind problem.points) query.locals
  pub assumed : NamesBelow (length problem.kinds + length query.locals) query.assumed
  pub once : NamesOnce query.assumed
