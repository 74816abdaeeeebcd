-- What is true of the problem of a window and of the query of an instance.
use Rattle.std.specs.Prelude.{ℕ, ◌≡◌, ◌≤◌, ◌<◌, true, length, List, Contains}
use Rattle.gp_clause.specs.declared.problem.Query.{Query}
use Rattle.gp_clause.specs.declared.valuation.Valuation.{Valuation}
use Rattle.gp_clause.specs.Edge.{IsSolvable}
use Rattle.gp_clause.specs.Problem.{IsValidProblem, IsValidQuery}
use Rattle.gp_clause.specs.Valuation.{Meets, truth_of}
use Rattle.gp_instance.specs.Instance.{is_instance}
use Rattle.gp_property.specs.PropertyForm.{PropertyForm}
use Rattle.gp_window.specs.declared.schedule.EventId.{EventId}
use Rattle.gp_window.specs.WindowForm.{WindowForm}
use Rattle.gp_constraint.specs.declared.symbol.Symbol.{Symbol}
use Rattle.gp_constraint.specs.declared.symbol.Symbol.TheVariants.{Executed}
use Rattle.gp_constraint.specs.declared.symbol.SymbolicLit.{SymbolicLit}
use Rattle.gp_constraint.specs.Base.{base_of, clauses_of, names_in}
use Rattle.gp_constraint.specs.Points.{number_in, points_of}
use Rattle.gp_constraint.specs.Query.{mentioned, pattern_lits, query_names, query_of}
use Rattle.gp_constraint.specs.SymbolTruth.{Bound, HoldAll, IsTrueLit, KeepsEdges, read_by, SymbolTruth}

-- up to the limits on events and clauses the problem of a window is valid, as is the query of an instance of up to 6 events;
-- its edges can be kept at any size
pub record ProblemsAreValid : Type 0 where
  pub base : (window : WindowForm) → length (points_of window) ≤ 2048 → length (clauses_of window) ≤ 500000 → IsValidProblem (base_of window)
  pub solvable : (window : WindowForm) → IsSolvable (base_of window).edges
  pub query : (window : WindowForm) (property : PropertyForm) (ids : List EventId) → length (points_of window) ≤ 2048
      → length ids ≤ 6 → is_instance window property ids ≡ true → IsValidQuery (base_of window) (query_of window property ids)

-- the places rise along each thread, and all clauses of the window are true
pub record BaseMeans (window : WindowForm) (t : SymbolTruth) : Type 0 where
  pub edges : KeepsEdges window (number_in window) t
  pub clauses : HoldAll t (clauses_of window)

-- all that the query assumes is true, and the places keep what each symbol says that it mentions
pub record QueryMeans (window : WindowForm) (property : PropertyForm) (ids : List EventId) (t : SymbolTruth) : Type 0 where
  pub executed : (id : EventId) → Contains ids id → t.symbols (Executed (number_in window id)) ≡ true
  pub pattern : (lit : SymbolicLit) → Contains (pattern_lits window property ids) lit → IsTrueLit t lit
  pub mentioned : (symbol : Symbol) → Contains (mentioned window property ids) symbol → Bound t symbol (t.symbols symbol)

-- what an answer to the problem of a window says of symbols, whatever the query, and what it says by the query of an instance;
-- point p is executed is variable p
pub record AnswersMean : Type 0 where
  pub base : (window : WindowForm) (query : Query) (valuation : Valuation) → Meets (base_of window) query valuation
      → BaseMeans window (read_by (names_in window) valuation)
  pub clauses : (window : WindowForm) (property : PropertyForm) (ids : List EventId) (valuation : Valuation)
      → Meets (base_of window) (query_of window property ids) valuation → BaseMeans window (read_by (query_names window property ids) valuation)
  pub query : (window : WindowForm) (property : PropertyForm) (ids : List EventId) (valuation : Valuation)
      → Meets (base_of window) (query_of window property ids) valuation → QueryMeans window property ids (read_by (query_names window property ids) valuation)
  pub points : (window : WindowForm) (valuation : Valuation) (point : ℕ) → point < length (points_of window)
      → (read_by (names_in window) valuation).symbols (Executed point) ≡ truth_of valuation point
  pub query_points : (window : WindowForm) (property : PropertyForm) (ids : List EventId) (valuation : Valuation) (point : ℕ) → point < length (points_of window)
      → (read_by (query_names window property ids) valuation).symbols (Executed point) ≡ truth_of valuation point
