-- When clauses over symbols are true, and that they are true by their numbers then.
use Rattle.std.specs.Prelude.{ℕ, ◌≡◌, ◌<◌, ◌++◌, Bool, true, false, not, All, List, length, map, slice_index_or, Contains}
use Rattle.std.specs.List.{AllByRecursion, list_any}
use Rattle.gp_clause.specs.Clause.{HoldsAll}
use Rattle.gp_clause.specs.Lit.{HoldsLit}
use Rattle.gp_property.specs.PropertyForm.{PropertyForm}
use Rattle.gp_window.specs.WindowForm.{WindowForm}
use Rattle.gp_window.specs.declared.schedule.EventId.{EventId}
use Rattle.gp_constraint.specs.declared.symbol.Symbol.{Symbol}
use Rattle.gp_constraint.specs.declared.symbol.Symbol.TheVariants.{Executed}
use Rattle.gp_constraint.specs.declared.symbol.SymbolicLit.{SymbolicLit}
use Rattle.gp_constraint.specs.Base.{base_of, clauses_of, names_in}
use Rattle.gp_constraint.specs.PointLaws.{IsEventOf}
use Rattle.gp_constraint.specs.Points.{points_of}
use Rattle.gp_constraint.specs.Query.{executed_lits, pattern_lits, query_names, query_of}
use Rattle.gp_constraint.specs.Symbols.{kind_of}

-- a truth value, or its negation
abbrev pub signed : Bool → Bool → Bool
signed true value = value
signed false value = not value

-- whether a literal is true
abbrev pub lit_true : (Symbol → Bool) → SymbolicLit → Bool
lit_true truth lit = signed lit.positive (truth lit.symbol)

-- each clause has a true literal
abbrev pub AreTrue : (Symbol → Bool) → List (List SymbolicLit) → Type 0
AreTrue truth clauses = AllByRecursion (λ lits. list_any (lit_true truth) lits ≡ true) clauses

-- each literal is true
abbrev pub AreTrueLits : (Symbol → Bool) → List SymbolicLit → Type 0
AreTrueLits truth lits = AllByRecursion (λ lit. lit_true truth lit ≡ true) lits

-- the truth value of a variable: that of the symbol at its place among the names
abbrev pub variable_true : List Symbol → (Symbol → Bool) → ℕ → Bool
variable_true names truth variable = truth (slice_index_or names variable (Executed 0))

-- where the clauses of a window are true over symbols, those of its problem are, and so is what the query of an instance of
-- events of the window assumes; the kinds of a problem and a query are those of their names; and point p is executed is variable p
pub record TruthsAreNumbered : Type 0 where
  pub base : (window : WindowForm) (truth : Symbol → Bool) → AreTrue truth (clauses_of window)
      → HoldsAll (variable_true (names_in window) truth) (base_of window).clauses
  pub clauses : (window : WindowForm) (property : PropertyForm) (ids : List EventId) (truth : Symbol → Bool) → AreTrue truth (clauses_of window)
      → HoldsAll (variable_true (query_names window property ids) truth) (base_of window).clauses
  pub assumed : (window : WindowForm) (property : PropertyForm) (ids : List EventId) (truth : Symbol → Bool) → ((id : EventId) → Contains ids id → IsEventOf window id)
      → AreTrueLits truth (executed_lits window ids ++ pattern_lits window property ids)
      → All (HoldsLit (variable_true (query_names window property ids) truth)) (query_of window property ids).assumed
  pub kinds : (window : WindowForm) (property : PropertyForm) (ids : List EventId)
      → (base_of window).kinds ++ (query_of window property ids).locals ≡ map kind_of (query_names window property ids)
  pub points : (window : WindowForm) (truth : Symbol → Bool) (point : ℕ) → point < length (points_of window)
      → variable_true (names_in window) truth point ≡ truth (Executed point)
  pub query_points : (window : WindowForm) (property : PropertyForm) (ids : List EventId) (truth : Symbol → Bool) (point : ℕ) → point < length (points_of window)
      → variable_true (query_names window property ids) truth point ≡ truth (Executed point)
