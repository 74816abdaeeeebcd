-- The problem of a window with further clauses, numbered after its own.
use Rattle.std.specs.Prelude.{ℕ, ℤ, ◌≡◌, ◌≢◌, ◌≤◌, ◌+◌, ◌<◌, ◌++◌, All, Bool, false, List, [], if◌then◌else◌, length, map, nat_lt, slice_index_or}
use Rattle.std.specs.List.{AllByRecursion}
use Rattle.gp_clause.specs.declared.problem.Problem.{Problem}
use Rattle.gp_clause.specs.declared.problem.Query.{Query}
use Rattle.gp_clause.specs.declared.valuation.Valuation.{Valuation}
use Rattle.gp_clause.specs.Clause.{HoldsAll}
use Rattle.gp_clause.specs.Edge.{Keeps}
use Rattle.gp_clause.specs.Kind.{FitsKind}
use Rattle.gp_clause.specs.Problem.{IsValidKind, IsValidProblem}
use Rattle.gp_clause.specs.Valuation.{IsValuation, Meets, truth_of}
use Rattle.gp_window.specs.WindowForm.{WindowForm}
use Rattle.gp_constraint.specs.declared.symbol.Symbol.{Symbol}
use Rattle.gp_constraint.specs.declared.symbol.Symbol.TheVariants.{Executed, Last, Signal}
use Rattle.gp_constraint.specs.declared.symbol.SymbolicLit.{SymbolicLit}
use Rattle.gp_constraint.specs.Base.{base_of, clauses_of, first_names, names_in}
use Rattle.gp_constraint.specs.Laws.{BaseMeans}
use Rattle.gp_constraint.specs.Numbering.{names_of, number_of, numbered}
use Rattle.gp_constraint.specs.Points.{number_in, points_of}
use Rattle.gp_constraint.specs.SymbolTruth.{HoldAll, KeepsEdges, read_by}
use Rattle.gp_constraint.specs.Symbols.{kind_of}
use Rattle.gp_constraint.specs.Truths.{AreTrue, variable_true}

-- the names of a window, and those that further clauses mention
abbrev pub names_with : WindowForm → List (List SymbolicLit) → List Symbol
names_with window more = names_of (names_in window) more

-- the problem of a window with further clauses
abbrev pub base_with : WindowForm → List (List SymbolicLit) → Problem
base_with window more = record {
  points = (base_of window).points;
  kinds = map kind_of (names_with window more);
  edges = (base_of window).edges;
  clauses = (base_of window).clauses ++ numbered (names_in window) more;
}

-- nothing is asked
abbrev pub nothing_asked : Query
nothing_asked = record { locals = []; assumed = [] }

-- a symbol of which only further clauses speak: that a write is the last, or that a wake takes a signal
abbrev pub IsFurther : Symbol → Type 0
IsFurther (Last w) = Unit {0}
IsFurther (Signal w g) = Unit {0}
IsFurther symbol = ⊥

-- an answer to the problem with further clauses, whatever the query, is one to the problem itself; of symbols it says that the
-- places rise along each thread, and that the window's clauses and the further ones are true; point p is executed is variable p
pub record ExtendedMeans (window : WindowForm) (more : List (List SymbolicLit)) (valuation : Valuation) : Type 0 where
  pub meets : Meets (base_of window) nothing_asked valuation
  pub base : BaseMeans window (read_by (names_with window more) valuation)
  pub further : HoldAll (read_by (names_with window more) valuation) more
  pub points : (point : ℕ) → point < length (points_of window) → (read_by (names_with window more) valuation).symbols (Executed point) ≡ truth_of valuation point

-- truth values of variables, and places, are a valuation of the problem with further clauses
pub record IsExtendedModel (window : WindowForm) (more : List (List SymbolicLit)) (truth : ℕ → Bool) (place : ℕ → ℤ) : Type 0 where
  pub valuation : IsValuation (base_with window more).points (base_with window more).edges (base_with window more).kinds truth place
  pub clauses : HoldsAll truth (base_with window more).clauses

-- a truth of symbols, and places, under which the window's clauses and the further ones are true: no two points share a place,
-- the places keep the edges, and each symbol says of the places what its kind does
pub record IsMeaning (window : WindowForm) (more : List (List SymbolicLit)) (truth : Symbol → Bool) (place : ℕ → ℤ) : Type 0 where
  pub apart : (a b : ℕ) → a < length (points_of window) → b < length (points_of window) → a ≢ b → place a ≢ place b
  pub keeps : All (Keeps place) (base_of window).edges
  pub fits : (symbol : Symbol) → FitsKind place (kind_of symbol) (truth symbol)
  pub base : AreTrue truth (clauses_of window)
  pub further : AreTrue truth more

-- the truth value of a symbol: that of its variable, where the window names it, and else a fresh one
abbrev pub symbol_value : List Symbol → (ℕ → Bool) → (Symbol → Bool) → Symbol → Bool
symbol_value names truth fresh symbol = if nat_lt (number_of names symbol) (length names) then truth (number_of names symbol) else fresh symbol

-- the truth value of a variable: that which it has, where it is one of the window's, and else that of its symbol
abbrev pub extended_truth : List Symbol → List Symbol → (ℕ → Bool) → (Symbol → Bool) → ℕ → Bool
extended_truth names final truth fresh variable = if nat_lt variable (length names) then truth variable else fresh (slice_index_or final variable (Executed 0))

-- a clause is short, and the kinds of its symbols are valid
abbrev pub IsFit : ℕ → List SymbolicLit → Type 0
IsFit n clause = (length clause ≤ 2052) × AllByRecursion (λ (lit : SymbolicLit). IsValidKind n (kind_of lit.symbol)) clause

abbrev pub AreFit : ℕ → List (List SymbolicLit) → Type 0
AreFit n clauses = AllByRecursion (IsFit n) clauses

-- the problem of a window with further clauses. Its clauses are the window's and the further ones, numbered as one list; up
-- to the limits it is valid; an answer gives a meaning of symbols, and a meaning gives a valuation
pub record ExtensionsMean : Type 0 where
  pub names : (window : WindowForm) (more : List (List SymbolicLit)) → names_with window more ≡ names_of (first_names window) (clauses_of window ++ more)
  pub clauses : (window : WindowForm) (more : List (List SymbolicLit)) → (base_with window more).clauses ≡ numbered (first_names window) (clauses_of window ++ more)
  pub valid : (window : WindowForm) (more : List (List SymbolicLit)) → length (points_of window) ≤ 2048
      → length (clauses_of window) + length more ≤ 500000 → AreFit (length (points_of window)) more → IsValidProblem (base_with window more)
  pub answers : (window : WindowForm) (more : List (List SymbolicLit)) (query : Query) (valuation : Valuation) → Meets (base_with window more) query valuation
      → ExtendedMeans window more valuation
  pub meanings : (window : WindowForm) (more : List (List SymbolicLit)) (truth : Symbol → Bool) (place : ℕ → ℤ) → IsMeaning window more truth place
      → IsExtendedModel window more (variable_true (names_with window more) truth) place
  pub points : (window : WindowForm) (more : List (List SymbolicLit)) (truth : Symbol → Bool) (point : ℕ) → point < length (points_of window)
      → variable_true (names_with window more) truth point ≡ truth (Executed point)

-- a valuation of the problem itself, and fresh truth values of symbols that fit the places, by which the further clauses are
-- true, are a valuation of the problem with these. The value of each symbol fits the places then; that of an event being
-- executed is the value of its point; and that of a symbol of which only further clauses speak is fresh, since no clause of a
-- window that is not too large names it
pub record ModelsExtend : Type 0 where
  pub models : (window : WindowForm) (more : List (List SymbolicLit)) (truth : ℕ → Bool) (place : ℕ → ℤ) (fresh : Symbol → Bool)
      → IsValuation (base_of window).points (base_of window).edges (base_of window).kinds truth place → HoldsAll truth (base_of window).clauses
      → ((symbol : Symbol) → FitsKind place (kind_of symbol) (fresh symbol)) → AreTrue (symbol_value (names_in window) truth fresh) more
      → IsExtendedModel window more (extended_truth (names_in window) (names_with window more) truth fresh) place
  pub fits : (window : WindowForm) (truth : ℕ → Bool) (place : ℕ → ℤ) (fresh : Symbol → Bool)
      → IsValuation (base_of window).points (base_of window).edges (base_of window).kinds truth place
      → ((symbol : Symbol) → FitsKind place (kind_of symbol) (fresh symbol))
      → (symbol : Symbol) → FitsKind place (kind_of symbol) (symbol_value (names_in window) truth fresh symbol)
  pub executed : (window : WindowForm) (truth : ℕ → Bool) (fresh : Symbol → Bool) (point : ℕ) → point < length (points_of window)
      → symbol_value (names_in window) truth fresh (Executed point) ≡ truth point
  pub further : (window : WindowForm) (truth : ℕ → Bool) (fresh : Symbol → Bool) (symbol : Symbol) → length (points_of window) ≤ 2048 → IsFurther symbol
      → symbol_value (names_in window) truth fresh symbol ≡ fresh symbol
  pub rise : (window : WindowForm) (place : ℕ → ℤ) → All (Keeps place) (base_of window).edges
      → KeepsEdges window (number_in window) (record { symbols = λ symbol. false; places = place })
